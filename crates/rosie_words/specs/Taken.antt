-- What the code's reader has taken in: for the contracts of private functions.
use Rattle.std.specs.Prelude.{◌≡◌, List, [], ◌∷◌, ◌++◌, map, Option, Some, None, Bool, not, find, is_some, chars}
use Rattle.std.specs.Prelude.{Result, Ok, Err}
use Rattle.rosie_words.specs.declared.command.Command.{Command}
use Rattle.rosie_words.specs.declared.command.What.{What}
use Rattle.rosie_words.specs.declared.fault.UsageFault.{UsageFault}
use Rattle.rosie_words.specs.declared.fault.UsageFault.TheVariants.{NoCommand, UnknownCommand, NotForCommand}
use Rattle.rosie_words.specs.declared.reading.Reader.{Reader}
use Rattle.rosie_words.specs.declared.reading.Given as rust
use Rattle.rosie_words.specs.declared.option_values.OptionValues.{OptionValues}
use Rattle.rosie_words.specs.declared.table.CommandName.{CommandName}
use Rattle.rosie_words.specs.declared.table.OptionName.{OptionName}
use Rattle.rosie_words.specs.Table.{Word, command_named}
use Rattle.rosie_words.specs.Roles.{Free, Given, role, next, fault, end_fault, option_in, argument_in}
use Rattle.rosie_words.specs.Reading.{unless}
use Rattle.rosie_words.specs.Options.{command_from, is_for, values_of}
use Rattle.rosie_words.specs.Arguments.{what}
use Rattle.rosie_words.specs.OptionValues.{put}
use Rattle.rosie_words.specs.Seen.{front_of, text}

-- an option and the word in which it was given
pub record Named : Type 0 where
  pub option : OptionName
  pub word : Word

abbrev pub named : OptionName → Word → Named
named o w = record { option = o; word = w }

-- an option, without its value
abbrev pub name_of : Given → Named
name_of g = named g.option g.word

-- an option as the code has it, without its value
abbrev pub seen : rust.Given → Named
seen g = named g.option g.word.now

abbrev pub word_of : Option Named → Option Word
word_of None = None
word_of (Some n) = Some n.word

-- the word of the first option that is not for the command
abbrev pub stray_word : CommandName → Bool → List Named → Option Word
stray_word c has_code ns = word_of (find (λ n. not (is_for c has_code n.option)) ns)

-- the reading on from the command's arguments, from its options and from its name
abbrev pub from_what : OptionValues → CommandName → Result What UsageFault → Result Command UsageFault
from_what s c (Ok w) = Ok (command_from s c w)
from_what s c (Err e) = Err e

abbrev pub from_stray : OptionValues → CommandName → List Word → Option Word → Result Command UsageFault
from_stray s c ws None = from_what s c (what c (is_some s.code_file) ws)
from_stray s c ws (Some w) = Err (NotForCommand (chars w))

abbrev pub from_name : OptionValues → List Named → Word → List Word → Option CommandName → Result Command UsageFault
from_name s ns w ws None = Err (UnknownCommand (chars w))
from_name s ns w ws (Some c) = from_stray s c ws (stray_word c (is_some s.code_file) ns)

-- the command of the record, the options and the arguments
abbrev pub chosen_from : OptionValues → List Named → List Word → Result Command UsageFault
chosen_from s ns [] = Err NoCommand
chosen_from s ns (w ∷ ws) = from_name s ns w ws (command_named w)

-- the command of what was taken in
abbrev pub finished : Reader → Result Command UsageFault
finished r =
    unless (end_fault (front_of r.front))
    (chosen_from r.values (map seen r.options.items) (map text r.arguments.items))

-- the record with some more options
abbrev pub put_all : List Given → OptionValues → OptionValues
put_all [] s = s
put_all (g ∷ gs) s = put_all gs (put g.option g.value s)

-- no word has been taken in
pub record Starts (r : Reader) : Type 0 where
  pub front : front_of r.front ≡ Free
  pub values : r.values ≡ values_of []
  pub options : r.options.items ≡ []
  pub arguments : r.arguments.items ≡ []

-- these options and arguments have been added
pub record Adds (old new : Reader) (gs : List Given) (ws : List Word) : Type 0 where
  pub front : new.front ≡ old.front
  pub values : new.values ≡ put_all gs old.values
  pub options : map seen new.options.items ≡ map seen old.options.items ++ map name_of gs
  pub arguments : map text new.arguments.items ≡ map text old.arguments.items ++ ws

-- one more word has been taken in
pub record Takes (old new : Reader) (w : Word) : Type 0 where
  pub sound : fault (role (front_of old.front) w) w ≡ None
  pub front : front_of new.front ≡ next (front_of old.front) (role (front_of old.front) w) w
  pub values : new.values ≡ put_all (option_in (role (front_of old.front) w) w) old.values
  pub options : map seen new.options.items
      ≡ map seen old.options.items ++ map name_of (option_in (role (front_of old.front) w) w)
  pub arguments : map text new.arguments.items
      ≡ map text old.arguments.items ++ argument_in (role (front_of old.front) w) w
