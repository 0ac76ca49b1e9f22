-- How contracts see where an expression stands.
use Rattle.rpl_forms.specs.Inlining.{Inners}
use Rattle.rpl_names.specs.Sets.{set_seen}
use Rattle.rpl_names.specs.Targets.{resolved}
use Rattle.rpl_expand.specs.Expansion as E
use Rattle.rpl_expand.specs.Sets.{rule_of}
use Rattle.rpl_expand.specs.declared.scope.Scope.{Scope}

-- the scope, after rules that these stand for
abbrev pub scope_seen : Scope → Inners → E.Scope
scope_seen s I =
    record { rule = λ q. rule_of (resolved (set_seen s.packages.now) s.at q); boundary = s.boundary; inners = I }
