-- The arguments of each command.
use Rattle.std.specs.Prelude.{ℕ, Bool, true, false, List, [], ◌∷◌, map, Option, Some, None, Result, Ok, Err, chars}
use Rattle.rosie_words.specs.declared.table.CommandName.{CommandName}
use Rattle.rosie_words.specs.declared.table.CommandName.TheVariants as C
use Rattle.rosie_words.specs.declared.fault.UsageFault.{UsageFault}
use Rattle.rosie_words.specs.declared.fault.UsageFault.TheVariants.{BadValue, MissingArgument, TooManyArguments}
use Rattle.rosie_words.specs.declared.command.What.{What}
use Rattle.rosie_words.specs.declared.command.What.TheVariants as W
use Rattle.rosie_words.specs.Table.{Word}
use Rattle.rosie_words.specs.Values.{number_in}

-- no argument
abbrev pub none : List Word → Result (Unit {0}) UsageFault
none [] = Ok tt
none (x ∷ ws) = Err TooManyArguments

-- one argument
abbrev pub only : List Word → Result (List ℕ) UsageFault
only [] = Err MissingArgument
only (w ∷ []) = Ok (chars w)
only (w ∷ x ∷ ws) = Err TooManyArguments

-- a pattern, and the input files
pub record PatternInputs : Type 0 where
  pub pattern : List ℕ
  pub inputs : List (List ℕ)

-- these of some words
abbrev pub pattern_inputs_of : List Word → Result PatternInputs UsageFault
pattern_inputs_of [] = Err MissingArgument
pattern_inputs_of (p ∷ fs) = Ok (record { pattern = chars p; inputs = map chars fs })

-- the seed, and how many lines: the first that is not in its range is at fault
abbrev pub sampled : Word → Word → Option ℕ → Option ℕ → Result What UsageFault
sampled x y None n = Err (BadValue (chars x))
sampled x y (Some s) None = Err (BadValue (chars y))
sampled x y (Some s) (Some n) = Ok (W.Sample s n)

-- a sample of two words
abbrev pub sample_of : Word → Word → Result What UsageFault
sample_of x y = sampled x y (number_in 0 2147483647 x) (number_in 0 1000000 y)

-- a sample of some words
abbrev pub sample : List Word → Result What UsageFault
sample (x ∷ y ∷ []) = sample_of x y
sample (x ∷ y ∷ z ∷ ws) = Err TooManyArguments
sample _ = Err MissingArgument

-- the command of what was read, or the fault
abbrev pub command_of : {A : Type 0} → (A → What) → Result A UsageFault → Result What UsageFault
command_of f (Ok x) = Ok (f x)
command_of f (Err e) = Err e

-- the command with its arguments; with a code file `match` has no pattern
abbrev pub what : CommandName → Bool → List Word → Result What UsageFault
what C.Match true ws = Ok (W.Match [] (map chars ws))
what C.Match false ws = command_of (λ s. W.Match s.pattern s.inputs) (pattern_inputs_of ws)
what C.Grep has_code ws = command_of (λ s. W.Grep s.pattern s.inputs) (pattern_inputs_of ws)
what C.Trace has_code ws = command_of (λ s. W.Trace s.pattern s.inputs) (pattern_inputs_of ws)
what C.Test has_code ws = command_of W.Test (only ws)
what C.List has_code ws = command_of (λ _. W.List) (none ws)
what C.Expand has_code ws = command_of W.Expand (only ws)
what C.Sample has_code ws = sample ws
what C.Repl has_code ws = command_of (λ _. W.Repl) (none ws)
what C.Compile has_code ws = command_of W.Compile (only ws)
what C.Class has_code ws = command_of W.Class (only ws)
