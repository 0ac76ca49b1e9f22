-- What is printed of the words: the usage text, and the line of a fault.
use Rattle.std.specs.Prelude.{ℕ, List, [], ◌∷◌, ◌++◌, codes, encode_utf8_all}
use Rattle.std.specs.List.{flat_map}
use Rattle.rosie_words.specs.declared.table.CommandName.TheVariants as C
use Rattle.rosie_words.specs.declared.fault.UsageFault.{UsageFault}
use Rattle.rosie_words.specs.declared.fault.UsageFault.TheVariants as E
use Rattle.rosie_words.specs.Table.{Word, command_word}

-- the commands with their arguments, each a line of the usage text
abbrev pub synopses : List Word
synopses =
    (command_word C.Match ++ codes " PATTERN [FILE ...]") ∷
    (command_word C.Grep ++ codes " PATTERN [FILE ...]") ∷
    (command_word C.Test ++ codes " FILE") ∷
    command_word C.List ∷
    (command_word C.Expand ++ codes " PATTERN") ∷
    (command_word C.Trace ++ codes " PATTERN [FILE ...]") ∷
    (command_word C.Sample ++ codes " SEED LINES") ∷
    command_word C.Repl ∷
    (command_word C.Compile ++ codes " PATTERN") ∷
    (command_word C.Match ++ codes " --code-file FILE [INPUT ...]") ∷
    (command_word C.Class ++ codes " NAME") ∷ []

-- such a line, but for its first word
abbrev pub usage_line : Word → List ℕ
usage_line s = codes " rosie [options] " ++ s ++ 10 ∷ []

-- `usage:` before the first, and as many blanks before each other
abbrev pub usage_text : List Word → List ℕ
usage_text [] = []
usage_text (s ∷ ss) = codes "usage:" ++ usage_line s ++ flat_map (λ t. codes "      " ++ usage_line t) ss

-- the usage text
abbrev pub usage : List ℕ
usage = usage_text synopses

-- a fault in words
abbrev pub message : UsageFault → List ℕ
message E.NoMemory = codes "out of memory"
message (E.UnknownOption w) = codes "unknown option: " ++ encode_utf8_all w
message (E.UnexpectedValue w) = codes "unexpected value: " ++ encode_utf8_all w
message (E.MissingValue w) = codes "missing value: " ++ encode_utf8_all w
message (E.BadValue w) = codes "bad value: " ++ encode_utf8_all w
message E.NoCommand = codes "no command"
message (E.UnknownCommand w) = codes "unknown command: " ++ encode_utf8_all w
message (E.NotForCommand w) = codes "not for this command: " ++ encode_utf8_all w
message E.MissingArgument = codes "missing argument"
message E.TooManyArguments = codes "too many arguments"

-- the line of a fault
abbrev pub fault_line : UsageFault → List ℕ
fault_line e = codes "rosie: usage: " ++ message e ++ 10 ∷ []
