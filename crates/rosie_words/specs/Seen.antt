-- The private types of the code, as the definitions have them: for the contracts of private functions.
use Rattle.std.specs.Prelude.{◌≡◌, ℕ, false, List, Option, Some, None}
use Rattle.std.specs.Borrow.{Bor}
use Rattle.rosie_words.specs.Table.{Word, has_value, row}
use Rattle.rosie_words.specs.declared.role.Front.{Front}
use Rattle.rosie_words.specs.declared.role.Front.TheVariants as F
use Rattle.rosie_words.specs.declared.role.Role.{Role}
use Rattle.rosie_words.specs.declared.role.Role.TheVariants as R
use Rattle.rosie_words.specs.declared.what.PatternInputs as rust
use Rattle.rosie_words.specs.Arguments.{PatternInputs}
use Rattle.rosie_words.specs.Roles as roles

-- what the words before leave
abbrev pub front_of : Front → roles.Front
front_of F.Free = roles.Free
front_of (F.Owed o w) = roles.Owed o w.now
front_of F.Ended = roles.Ended

-- the role of a word
abbrev pub role_of : Role → roles.Role
role_of R.EndOfOptions = roles.EndOfOptions
role_of R.Argument = roles.Argument
role_of R.Unknown = roles.Unknown
role_of (R.Plain o) = roles.Plain o
role_of R.Unexpected = roles.Unexpected
role_of (R.Full o v) = roles.Full o v.now
role_of (R.Waiting o) = roles.Waiting o
role_of (R.Value o w) = roles.Value o w.now

-- the word that may be there
abbrev pub half_of : Option (Bor (List ℕ)) → Option Word
half_of None = None
half_of (Some v) = Some v.now

-- a role that says of an option that it stands without a value says so rightly
abbrev pub IsFair : Role → Type 0
IsFair (R.Plain o) = has_value (row o).value ≡ false
IsFair r = Unit {0}

-- a borrowed word
abbrev pub text : Bor (List ℕ) → Word
text w = w.now

-- a pattern and its inputs
abbrev pub pattern_inputs_seen : rust.PatternInputs → PatternInputs
pattern_inputs_seen s = record { pattern = s.pattern; inputs = s.inputs }
