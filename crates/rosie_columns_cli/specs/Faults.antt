-- What is printed if the words are refused.
use Rattle.std.specs.Prelude.{ℕ, List, ◌++◌, codes, encode_utf8_all}
use Rattle.rosie_columns_cli.specs.declared.fault.WordFault.{WordFault}
use Rattle.rosie_columns_cli.specs.declared.fault.WordFault.TheVariants as E

-- the usage text
abbrev pub usage : List ℕ
usage = codes "usage: rosie-columns [-o csv|tsv|json] [-j TEXT] [-n] [[NAME=]TYPE ...] [-- FILE ...]\n"

-- a fault in words
abbrev pub message : WordFault → List ℕ
message E.NoMemory = codes "out of memory"
message (E.UnknownOption w) = codes "unknown option: " ++ encode_utf8_all w
message (E.MissingValue w) = codes "missing value: " ++ encode_utf8_all w
message (E.BadValue w) = codes "bad value: " ++ encode_utf8_all w
message (E.BadColumn w) = codes "bad column: " ++ encode_utf8_all w
message E.NoColumn = codes "no column"

-- the line of a fault, and the usage text
abbrev pub refusal : WordFault → List ℕ
refusal e = codes "rosie-columns: usage: " ++ message e ++ codes "\n" ++ usage
