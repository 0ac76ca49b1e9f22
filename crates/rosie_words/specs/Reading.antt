-- The reading of a command line: its command with the options, or its first fault.
use Rattle.std.specs.Prelude.{List, [], ◌∷◌, ◌++◌, map, Option, Some, None, Result, Ok, Err, chars, String}
use Rattle.std.specs.Prelude.{string_bytes}
use Rattle.std.specs.Option.{option_or}
use Rattle.rosie_words.specs.declared.table.CommandName.{CommandName}
use Rattle.rosie_words.specs.declared.table.OptionName.TheVariants as O
use Rattle.rosie_words.specs.declared.fault.UsageFault.{UsageFault}
use Rattle.rosie_words.specs.declared.fault.UsageFault.TheVariants.{NoCommand, UnknownCommand, NotForCommand}
use Rattle.rosie_words.specs.declared.command.Command.{Command}
use Rattle.rosie_words.specs.declared.command.What.{What}
use Rattle.rosie_words.specs.Table.{Word, command_named}
use Rattle.rosie_words.specs.Roles.{Front, Free, Given, role, next, fault, end_fault, option_in, argument_in}
use Rattle.rosie_words.specs.Options.{is_given, command, stray}
use Rattle.rosie_words.specs.Arguments.{what}

-- the bytes of each word
abbrev pub words_of : {Z : Type 0} → List (String Z) → List Word
words_of ws = map string_bytes ws

-- the first fault of a single word, after what the words before leave
abbrev pub first_fault : Front → List Word → Option UsageFault
first_fault front [] = end_fault front
first_fault front (w ∷ ws) = option_or (fault (role front w) w) (first_fault (next front (role front w) w) ws)

-- the options, in order
abbrev pub options : Front → List Word → List Given
options front [] = []
options front (w ∷ ws) = option_in (role front w) w ++ options (next front (role front w) w) ws

-- the arguments, in order
abbrev pub arguments : Front → List Word → List Word
arguments front [] = []
arguments front (w ∷ ws) = argument_in (role front w) w ++ arguments (next front (role front w) w) ws

-- the command with its options, or the fault of its arguments
abbrev pub with_options : CommandName → List Given → Result What UsageFault → Result Command UsageFault
with_options c gs (Ok w) = Ok (command c w gs)
with_options c gs (Err e) = Err e

-- an option that is not for the command comes first
abbrev pub by_stray : CommandName → List Given → List Word → Option Given → Result Command UsageFault
by_stray c gs ws None = with_options c gs (what c (is_given O.CodeFile gs) ws)
by_stray c gs ws (Some g) = Err (NotForCommand (chars g.word))

-- before it comes a word that is no command
abbrev pub by_name : Option CommandName → Word → List Given → List Word → Result Command UsageFault
by_name None w gs ws = Err (UnknownCommand (chars w))
by_name (Some c) w gs ws = by_stray c gs ws (stray c (is_given O.CodeFile gs) gs)

-- the command of the options and the arguments, or the first fault of the whole
abbrev pub chosen : List Given → List Word → Result Command UsageFault
chosen gs [] = Err NoCommand
chosen gs (w ∷ ws) = by_name (command_named w) w gs ws

-- the one fault, or else the other reading
abbrev pub unless : Option UsageFault → Result Command UsageFault → Result Command UsageFault
unless None r = r
unless (Some e) r = Err e

-- the reading of the words: the faults of single words come first
unfoldable pub reading : List Word → Result Command UsageFault
reading ws = unless (first_fault Free ws) (chosen (options Free ws) (arguments Free ws))
