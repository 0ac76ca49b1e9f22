-- Look-behinds that may be too long.
use Rattle.std.specs.Prelude.{Bool, false, nat_lt}
use Rattle.rpl_core.specs.Core.{Core, Behind, Cores}
use Rattle.rpl_core.specs.Lengths.{greatest}
use Rattle.rpl_core.specs.Parts.{some_inside, some_of}

-- the core is a look-behind that may be longer than 255 characters
abbrev pub is_long_behind : Core → Bool
is_long_behind (Behind l n p) = nat_lt 255 (greatest p)
is_long_behind _ = false

abbrev pub has_long_behind : Core → Bool
has_long_behind = some_inside is_long_behind

-- some part has one
abbrev pub any_has_long_behind : Cores → Bool
any_has_long_behind = some_of is_long_behind
