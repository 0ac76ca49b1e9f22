-- What the words ask for.
use Rattle.std.specs.Prelude.{◌≡◌, Bool, true, false, List, ◌++◌, Result, Ok, Err, ℕ, String}
use Rattle.rosie_words.specs.Printed.{fault_line, usage}
use Rattle.rosie_words.specs.Reading as R
use Rattle.rosie_words.specs.Table.{Word}
use Rattle.rosie_words.specs.declared.command.Command.{Command}
use Rattle.rosie_words.specs.declared.command.What.{What}
use Rattle.rosie_words.specs.declared.command.What.TheVariants as W
use Rattle.rosie_words.specs.declared.fault.UsageFault.{UsageFault}

-- they are refused with a text, or are a command
pub data CommandLine : Type 0 where
  Refuse : (text : List ℕ) → CommandLine
  Do : (command : Command) → CommandLine

abbrev pub or_refusal : Result Command UsageFault → CommandLine
or_refusal (Err e) = Refuse (fault_line e ++ usage)
or_refusal (Ok c) = Do c

unfoldable pub command_line : List Word → CommandLine
command_line ws = or_refusal (R.reading ws)

abbrev pub command_in : {Z : Type 0} → List (String Z) → CommandLine
command_in words = command_line (R.words_of words)

-- a command that needs no file and no input
abbrev pub needs_nothing : What → Bool
needs_nothing (W.Class name) = true
needs_nothing _ = false

-- the words are refused, or ask for such a command
abbrev pub NeedsNothing : CommandLine → Type 0
NeedsNothing (Refuse text) = Unit {0}
NeedsNothing (Do c) = needs_nothing c.what ≡ true

-- a command that runs no code on a line, no test and no sample: a trace is no run of a code
abbrev pub is_idle : What → Bool
is_idle (W.Class name) = true
is_idle W.List = true
is_idle (W.Expand pattern) = true
is_idle (W.Compile pattern) = true
is_idle (W.Trace pattern inputs) = true
is_idle _ = false

-- the words ask for none of these
abbrev pub IsIdle : CommandLine → Type 0
IsIdle (Refuse text) = Unit {0}
IsIdle (Do c) = is_idle c.what ≡ true

-- they ask for a session
abbrev pub is_session : What → Bool
is_session W.Repl = true
is_session _ = false

abbrev pub IsSession : CommandLine → Type 0
IsSession (Refuse text) = ⊥
IsSession (Do c) = is_session c.what ≡ true
