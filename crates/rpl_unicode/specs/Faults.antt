-- What a call answers that may find no set.
use Rattle.std.specs.Prelude.{◌≡◌, ◌≢◌, ℕ, Bool, List, Option, Some, None, Result, Ok, Err}
use Rattle.regex_class.specs.Ranges.{Range}
use Rattle.rpl_unicode.specs.Ranges.{IsListOf}
use Rattle.rpl_unicode.specs.declared.fault.ClassFault.{ClassFault}
use Rattle.rpl_unicode.specs.declared.fault.ClassFault.TheVariants.{NoMemory, UnknownClass}

-- the ranges where the name stands for a set, and UnknownClass where it stands for none; or memory ran out
abbrev pub IsClass : Option (ℕ → Bool) → Result (List Range) ClassFault → Type 0
IsClass (Some p) (Ok s) = IsListOf p s
IsClass None (Ok s) = ⊥
IsClass (Some p) (Err e) = e ≡ NoMemory
IsClass None (Err e) = e ≢ NoMemory → e ≡ UnknownClass
