-- What holds for all files.
use Rattle.std.specs.Prelude.{◌≡◌, ℕ, List, Option, true}
use Rattle.std.specs.List.{All}
use Rattle.std.specs.Str.{all_scalars, is_utf8}
use Rattle.rosie_prepare.specs.Prepared.{OrLine, Tree}
use Rattle.rpl_unittest.specs.Comments.{HasTests}
use Rattle.rpl_unittest.specs.declared.test.Test.{Test}
use Rattle.rosie_suites.specs.Suites.{IsSuite, Suite}

-- a file comes to one thing alone
abbrev pub OneSuite : Type 0
OneSuite =
    (tree : Tree) (folders : List (List ℕ)) (file : List ℕ) (budget : Option ℕ) (asked paths : List (List ℕ))
    (r s : OrLine Suite)
    → IsSuite tree folders file budget asked r → IsSuite tree folders file budget paths s → (asked ≡ paths) × (r ≡ s)

-- the text of each test in a text consists of characters
abbrev pub TextsLaw : Type 0
TextsLaw =
    (text : List ℕ) (tests : List Test) → is_utf8 text ≡ true → HasTests text tests
    → All (λ (t : Test). all_scalars t.text ≡ true) tests
