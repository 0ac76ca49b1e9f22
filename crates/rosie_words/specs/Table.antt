-- The table of the command line: the commands, and the options with their values and the commands that take them.
use Rattle.std.specs.Prelude.{ℕ, Bool, true, false, List, [], ◌∷◌, Option, codes, find}
use Rattle.std.specs.List.{list_any}
use Rattle.std.specs.Str.{bytes_eq}
use Rattle.rosie_words.specs.declared.table.CommandName.{CommandName}
use Rattle.rosie_words.specs.declared.table.CommandName.TheVariants as C
use Rattle.rosie_words.specs.declared.table.OptionName.{OptionName}
use Rattle.rosie_words.specs.declared.table.OptionName.TheVariants as O

-- a word, as its bytes: all that decides is ASCII
abbrev pub Word : Type 0
Word = List ℕ

-- the commands, in the order of the usage text
abbrev pub commands : List CommandName
commands = C.Match ∷ C.Grep ∷ C.Test ∷ C.List ∷ C.Expand ∷ C.Trace ∷ C.Sample ∷ C.Repl ∷ C.Compile ∷ C.Class ∷ []

-- how each is spelled
abbrev pub command_word : CommandName → Word
command_word C.Match = codes "match"
command_word C.Grep = codes "grep"
command_word C.Test = codes "test"
command_word C.List = codes "list"
command_word C.Expand = codes "expand"
command_word C.Trace = codes "trace"
command_word C.Sample = codes "sample"
command_word C.Repl = codes "repl"
command_word C.Compile = codes "compile"
command_word C.Class = codes "class"

-- what the value of an option may be
pub data Form : Type 0 where
  Nothing : Form
  Anything : Form
  Folders : Form
  OneStyle : Form
  Number : (least most : ℕ) → Form

-- there is a value
abbrev pub has_value : Form → Bool
has_value Nothing = false
has_value _ = true

-- an option: its spellings, its value, and the commands that take it
pub record Row : Type 0 where
  pub spellings : List Word
  pub value : Form
  pub commands : List CommandName

-- an option with a long spelling, with a short and a long one
abbrev pub one : Word → Form → List CommandName → Row
one long v cs = record { spellings = long ∷ []; value = v; commands = cs }

abbrev pub two : Word → Word → Form → List CommandName → Row
two short long v cs = record { spellings = short ∷ long ∷ []; value = v; commands = cs }

-- the options
abbrev pub options : List OptionName
options =
    O.File ∷ O.Rpl ∷ O.LibPath ∷ O.Output ∷ O.WholeFile ∷ O.All ∷ O.FixedStrings ∷ O.Budget ∷ O.Steps
    ∷ O.Code ∷ O.Limit ∷ O.CodeFile ∷ []

-- what is to be known of each
abbrev pub row : OptionName → Row
row O.File =
    two (codes "-f") (codes "--file") Anything (C.Match ∷ C.Grep ∷ C.List ∷ C.Expand ∷ C.Trace ∷ C.Compile ∷ [])
row O.Rpl = one (codes "--rpl") Anything (C.Match ∷ C.Grep ∷ C.List ∷ C.Expand ∷ C.Trace ∷ C.Compile ∷ [])
row O.LibPath =
    one (codes "--libpath") Folders
    (C.Match ∷ C.Grep ∷ C.Test ∷ C.List ∷ C.Expand ∷ C.Trace ∷ C.Repl ∷ C.Compile ∷ [])
row O.Output = two (codes "-o") (codes "--output") OneStyle (C.Match ∷ C.Grep ∷ [])
row O.WholeFile = two (codes "-w") (codes "--wholefile") Nothing (C.Match ∷ C.Grep ∷ C.Trace ∷ [])
row O.All = two (codes "-a") (codes "--all") Nothing (C.Match ∷ C.Grep ∷ [])
row O.FixedStrings =
    two (codes "-F") (codes "--fixed-strings") Nothing (C.Match ∷ C.Grep ∷ C.Expand ∷ C.Trace ∷ C.Compile ∷ [])
row O.Budget = one (codes "--budget") (Number 1 1000000000000) (C.Match ∷ C.Grep ∷ C.Test ∷ C.Sample ∷ [])
row O.Steps = one (codes "--steps") Nothing (C.Match ∷ C.Grep ∷ [])
row O.Code = one (codes "--code") Nothing (C.Expand ∷ [])
row O.Limit = one (codes "--limit") (Number 1 10000) (C.Trace ∷ [])
row O.CodeFile = one (codes "--code-file") Anything (C.Match ∷ [])

-- the command that a word names
abbrev pub command_named : Word → Option CommandName
command_named w = find (λ c. bytes_eq w (command_word c)) commands

-- the option that a word names
abbrev pub option_named : Word → Option OptionName
option_named w = find (λ o. list_any (bytes_eq w) (row o).spellings) options

-- two names are of the same command
abbrev pub same_command : CommandName → CommandName → Bool
same_command c d = bytes_eq (command_word c) (command_word d)

-- the command takes the option
abbrev pub takes : CommandName → OptionName → Bool
takes c o = list_any (same_command c) (row o).commands

-- two names are of the same option
abbrev pub same_option : OptionName → OptionName → Bool
same_option o p = list_any (λ w. list_any (bytes_eq w) (row p).spellings) (row o).spellings
