-- How contracts see what an expression is expanded over.
use Rattle.std.specs.Prelude.{Bool}
use Rattle.rpl_core.specs.Core.{Core, Cores}
use Rattle.rpl_core.specs.Listed.{rules_of}
use Rattle.rpl_forms.specs.Counting.{KnowsInners, seen, seen_all}
use Rattle.rpl_forms.specs.Inlining.{Inners}
use Rattle.rpl_forms.specs.Rows.{inners_of}
use Rattle.rpl_syntax.specs.Expression.{Expr, Exprs}
use Rattle.rpl_expand.specs.Expansion as E
use Rattle.rpl_expand.specs.inside.Scopes.{scope_seen}
use Rattle.rpl_expand.specs.declared.base.Base.{Base}
use Rattle.rpl_expand.specs.declared.mode.Mode.{Mode}

-- what stands for the rules so far in a look-behind
abbrev pub base_inners : Base → Inners
base_inners b = inners_of (rules_of b.rules.now)

abbrev pub base_scope : Base → E.Scope
base_scope b = scope_seen b.scope (base_inners b)

-- what is known is right of the rules
abbrev pub Knows : Base → Type 0
Knows b = KnowsInners b.known.now (base_inners b)

-- a core there, or what stands for it in a look-behind
abbrev pub shown : Base → (in_lookbehind : Bool) → Core → Core
shown b in_lookbehind p = seen in_lookbehind (base_inners b) p

abbrev pub shown_all : Base → (in_lookbehind : Bool) → Cores → Cores
shown_all b in_lookbehind ps = seen_all in_lookbehind (base_inners b) ps

-- the core of an expression there, or what stands for it
abbrev pub core_at : Base → Mode → Expr → Core
core_at b m e = shown b m.in_lookbehind (E.core m.casing (base_scope b) e)

abbrev pub cores_at : Base → Mode → Exprs → Cores
cores_at b m es = shown_all b m.in_lookbehind (E.cores m.casing (base_scope b) es)

-- the items of a cooked group, with the boundary between them
abbrev pub spaced_at : Base → Mode → Exprs → Cores
spaced_at b m es = shown_all b m.in_lookbehind (E.spaced m.casing (base_scope b) es)
