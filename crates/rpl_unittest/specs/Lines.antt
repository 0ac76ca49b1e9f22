-- The lines that tell of tests.
use Rattle.std.specs.Prelude.{ℕ, List, [], ◌++◌, Option, Some, None, codes, decimal}
use Rattle.std.specs.Str.{encode_utf8_all}
use Rattle.rpl_print.specs.Quoted.{quoted}
use Rattle.rpl_unittest.specs.declared.test.Test.{Test}
use Rattle.rpl_unittest.specs.declared.test.Verb.{Verb}
use Rattle.rpl_unittest.specs.declared.test.Verb.TheVariants.{Accepts, Rejects, Includes, Excludes}

-- what is asked, in a word
abbrev pub word_of : Verb → List ℕ
word_of Accepts = codes "accepts"
word_of Rejects = codes "rejects"
word_of Includes = codes "includes"
word_of Excludes = codes "excludes"

-- the part that is asked for, and a space
abbrev pub part_text : Option (List ℕ) → List ℕ
part_text None = []
part_text (Some part) = encode_utf8_all part ++ codes " "

-- a test that isn't met: where it stands, what it asks, and its text as a string of JSON
abbrev pub failed_line : (file : List ℕ) → Test → List ℕ
failed_line file t =
    file ++ codes ":" ++ decimal t.line ++ codes ": " ++ encode_utf8_all t.name ++ codes " "
    ++ word_of t.verb ++ codes " " ++ part_text t.part ++ quoted (encode_utf8_all t.text) ++ codes "\n"

-- how many tests there are, and how many of them aren't met
abbrev pub counts_line : (file : List ℕ) (tests failed : ℕ) → List ℕ
counts_line file tests failed =
    file ++ codes ": " ++ decimal tests ++ codes " tests, " ++ decimal failed ++ codes " failed\n"
