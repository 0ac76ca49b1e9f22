-- The items of a group, one by one.
use Rattle.std.specs.Prelude.{ℕ, ◌+◌, Bool, true, false, ◌||◌, nat_eq, length, List, Option, Some, None, slice_get}
use Rattle.rpl_core.specs.Core.{Core, Not, And, Cores, NoMore, Then}
use Rattle.rpl_core.specs.View.{core_of}
use Rattle.rpl_core.specs.declared.peg.Peg.{Peg}
use Rattle.rpl_syntax.specs.declared.expr.Expr.{Expr}
use Rattle.rpl_syntax.specs.declared.expr.Sign.{Sign}
use Rattle.rpl_syntax.specs.declared.expr.Sign.TheVariants as S
use Rattle.rpl_syntax.specs.View.{expr_of}
use Rattle.rpl_expand.specs.Expansion.{is_prefix}

-- there is an item, and it is a predicate
abbrev pub prefix_at : Option Expr → Bool
prefix_at None = false
prefix_at (Some e) = is_prefix (expr_of e)

-- no boundary stands after the item with this number: it is the last, or a predicate
abbrev pub alone : List Expr → ℕ → Bool
alone items n = nat_eq (n + 1) (length items) || prefix_at (slice_get items n)

-- the boundary before the rest of the items, unless the item before it stands alone
abbrev pub between : (alone : Bool) → Core → Cores → Cores
between true b rest = rest
between false b rest = Then b rest

-- the core of a pattern, where there is one
abbrev pub core_if : Option Peg → Cores
core_if None = NoMore
core_if (Some p) = Then (core_of p) NoMore

-- a predicate that looks ahead
abbrev pub ahead : Sign → Core → Core
ahead S.Not p = Not p
ahead S.Ahead p = And p
ahead S.Behind p = And p
