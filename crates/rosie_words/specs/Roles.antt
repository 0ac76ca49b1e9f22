-- The role of each word, given by the words before it.
use Rattle.std.specs.Prelude.{ℕ, Bool, true, false, ◌==◌, ◌&&◌, List, [], ◌∷◌, Option, Some, None, codes}
use Rattle.std.specs.Prelude.{chars, if◌then◌else◌}
use Rattle.std.specs.List.{list_any, before_first, after_first}
use Rattle.std.specs.Str.{bytes_eq}
use Rattle.rosie_words.specs.declared.table.OptionName.{OptionName}
use Rattle.rosie_words.specs.declared.fault.UsageFault.{UsageFault}
use Rattle.rosie_words.specs.declared.fault.UsageFault.TheVariants.{UnknownOption, UnexpectedValue, MissingValue}
use Rattle.rosie_words.specs.declared.fault.UsageFault.TheVariants.{BadValue}
use Rattle.rosie_words.specs.Table.{Word, has_value, row, option_named}
use Rattle.rosie_words.specs.Values.{accepts}

-- what the words before leave: room for options, an option whose value is due, or arguments alone
pub data Front : Type 0 where
  Free : Front
  Owed : (option : OptionName) (word : Word) → Front
  Ended : Front

-- what a word is: the end of the options, an argument, an option that is unknown, one without a value, one with a
-- value that it doesn't take, one with its value, one whose value is the next word, or that value
pub data Role : Type 0 where
  EndOfOptions : Role
  Argument : Role
  Unknown : Role
  Plain : (option : OptionName) → Role
  Unexpected : Role
  Full : (option : OptionName) (value : Word) → Role
  Waiting : (option : OptionName) → Role
  Value : (option : OptionName) (word : Word) → Role

-- a dash, and more
abbrev pub is_option : Word → Bool
is_option (b ∷ c ∷ bs) = b == 45
is_option _ = false

-- two dashes, and maybe more
abbrev pub is_long : Word → Bool
is_long (b ∷ c ∷ bs) = (b == 45) && (c == 45)
is_long _ = false

-- a `=`
abbrev pub is_equals : ℕ → Bool
is_equals b = b == 61

-- the option's name: of a long one what stands before the first `=`
abbrev pub name_of : Word → Word
name_of w = if is_long w then before_first is_equals w else w

-- the value that stands in the same word: of a long one what stands after the first `=`
abbrev pub value_of : Word → Option Word
value_of w = if is_long w && list_any is_equals w then Some (after_first is_equals w) else None

-- the role of an option's word, by whether the option takes a value and whether one stands there
abbrev pub role_by : OptionName → Bool → Option Word → Role
role_by o true (Some v) = Full o v
role_by o true None = Waiting o
role_by o false (Some v) = Unexpected
role_by o false None = Plain o

abbrev pub option_role : Option OptionName → Option Word → Role
option_role None v = Unknown
option_role (Some o) v = role_by o (has_value (row o).value) v

-- the role of a word
abbrev pub role : Front → Word → Role
role Free w =
    if bytes_eq w (codes "--") then EndOfOptions
    else (if is_option w then option_role (option_named (name_of w)) (value_of w) else Argument)
role (Owed o n) w = Value o n
role Ended w = Argument

-- what the word leaves for the next
abbrev pub next : Front → Role → Word → Front
next Ended r w = Ended
next Free EndOfOptions w = Ended
next Free (Waiting o) w = Owed o w
next front r w = Free

-- the fault of an option's value
abbrev pub value_fault : OptionName → Word → Option UsageFault
value_fault o v = if accepts (row o).value v then None else Some (BadValue (chars v))

-- the fault of a word
abbrev pub fault : Role → Word → Option UsageFault
fault Unknown w = Some (UnknownOption (chars w))
fault Unexpected w = Some (UnexpectedValue (chars w))
fault (Full o v) w = value_fault o v
fault (Value o n) w = value_fault o w
fault r w = None

-- the fault after the last word
abbrev pub end_fault : Front → Option UsageFault
end_fault (Owed o n) = Some (MissingValue (chars n))
end_fault front = None

-- an option as it was given: in which word, with which value
pub record Given : Type 0 where
  pub option : OptionName
  pub word : Word
  pub value : Word

-- such an option
abbrev pub given : OptionName → Word → Word → Given
given o w v = record { option = o; word = w; value = v }

-- the option that is whole with a word: one at most
abbrev pub option_in : Role → Word → List Given
option_in (Plain o) w = given o w [] ∷ []
option_in (Full o v) w = given o w v ∷ []
option_in (Value o n) w = given o n w ∷ []
option_in r w = []

-- the argument that a word is: one at most
abbrev pub argument_in : Role → Word → List Word
argument_in Argument w = w ∷ []
argument_in r w = []
