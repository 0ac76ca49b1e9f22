-- What the options of a command line say: of a repeated option the last counts, but each root is added.
use Rattle.std.specs.Prelude.{ℕ, Bool, ◌&&◌, not, List, [], ◌∷◌, ◌++◌, Option, Some, None, unwrap_or}
use Rattle.std.specs.Prelude.{option_and_then, codes, chars, find, if◌then◌else◌}
use Rattle.std.specs.List.{list_any}
use Rattle.std.specs.Option.{option_or, option_map}
use Rattle.rosie_words.specs.declared.table.CommandName.{CommandName}
use Rattle.rosie_words.specs.declared.table.CommandName.TheVariants as C
use Rattle.rosie_words.specs.declared.table.OptionName.{OptionName}
use Rattle.rosie_words.specs.declared.table.OptionName.TheVariants as O
use Rattle.rosie_words.specs.declared.command.Command.{Command}
use Rattle.rpl_names.specs.declared.roots.Root.{Root}
use Rattle.rpl_names.specs.declared.roots.Root.TheVariants as R
use Rattle.rpl_encode.specs.declared.style.Style.{Style}
use Rattle.rpl_encode.specs.declared.style.Style.TheVariants as S
use Rattle.rosie_words.specs.declared.command.What.{What}
use Rattle.rosie_words.specs.declared.option_values.OptionValues.{OptionValues}
use Rattle.rosie_words.specs.Table.{Word, row, takes, same_command, same_option}
use Rattle.rosie_words.specs.Values.{path_of, style_named, number_of}
use Rattle.rosie_words.specs.Roles.{Given}

-- the option is given
abbrev pub is_given : OptionName → List Given → Bool
is_given o gs = list_any (λ g. same_option o g.option) gs

-- the value of the last of these options
abbrev pub last : OptionName → List Given → Option Word
last o [] = None
last o (g ∷ gs) = option_or (last o gs) (if same_option o g.option then Some g.value else None)

-- the root that an option adds
abbrev pub root : OptionName → Word → List Root
root O.File v = R.File (chars v) ∷ []
root O.Rpl v = R.Given (chars v) ∷ []
root o v = []

-- the roots, in order
abbrev pub roots : List Given → List Root
roots [] = []
roots (g ∷ gs) = root g.option g.value ++ roots gs

-- the folders of the library path; `.` where none is given
abbrev pub folders : List Given → List (List ℕ)
folders gs = unwrap_or (option_and_then path_of (last O.LibPath gs)) (chars (codes ".") ∷ [])

-- the number of the last of these options
abbrev pub number : OptionName → List Given → Option ℕ
number o gs = option_and_then (number_of (row o).value) (last o gs)

-- the style where none is given
abbrev pub usual_style : CommandName → Style
usual_style C.Grep = S.Line
usual_style c = S.Json

-- what the options say, where it is told whether a style is given
abbrev pub values_of : List Given → OptionValues
values_of gs = record {
  roots = roots gs;
  folders = folders gs;
  style = option_and_then style_named (last O.Output gs);
  whole = is_given O.WholeFile gs;
  all = is_given O.All gs;
  fixed = is_given O.FixedStrings gs;
  budget = number O.Budget gs;
  steps = is_given O.Steps gs;
  code = is_given O.Code gs;
  limit = unwrap_or (number O.Limit gs) 10000;
  code_file = option_map chars (last O.CodeFile gs);
}

-- the command c with these settings
abbrev pub command_from : OptionValues → CommandName → What → Command
command_from s c what = record {
  what = what;
  roots = s.roots;
  folders = s.folders;
  settings = record {
    style = unwrap_or s.style (usual_style c);
    whole = s.whole;
    all = s.all;
    steps = s.steps;
    budget = s.budget;
  };
  fixed = s.fixed;
  code = s.code;
  limit = s.limit;
  code_file = s.code_file;
}

-- and with what the options say
abbrev pub command : CommandName → What → List Given → Command
command c what gs = command_from (values_of gs) c what

-- an option that a code file takes the place of
abbrev pub makes_code : OptionName → Bool
makes_code o = list_any (same_option o) (O.File ∷ O.Rpl ∷ O.LibPath ∷ O.FixedStrings ∷ [])

-- the command takes the option, where it may have a code file
abbrev pub is_for : CommandName → Bool → OptionName → Bool
is_for c has_code o = takes c o && not (same_command c C.Match && has_code && makes_code o)

-- the first option that is not for the command, where a code file may be given
abbrev pub stray : CommandName → Bool → List Given → Option Given
stray c has_code gs = find (λ g. not (is_for c has_code g.option)) gs
