-- Repetitions of what may be empty.
use Rattle.std.specs.Prelude.{ℕ, Bool, false}
use Rattle.rpl_core.specs.Core.{Core, Many, Cores}
use Rattle.rpl_core.specs.Parts.{some_inside, some_of}
use Rattle.rpl_compile_laws.specs.Static.{may_be_empty}

-- the core repeats something that may be empty, where just the rules of m may
abbrev pub is_empty_loop : (ℕ → Bool) → Core → Bool
is_empty_loop m (Many p) = may_be_empty m p
is_empty_loop m _ = false

abbrev pub has_empty_loop : (ℕ → Bool) → Core → Bool
has_empty_loop m = some_inside (is_empty_loop m)

-- some part does
abbrev pub any_has_empty_loop : (ℕ → Bool) → Cores → Bool
any_has_empty_loop m = some_of (is_empty_loop m)
