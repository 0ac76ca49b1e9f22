use Rattle.std.proofs.Common.{refl, sym, ◌∙◌}
use Rattle.rpl_scope.proofs.Scopes.{full}
use Rattle.rpl_names.proofs.names.is_taken_in.Goals as goal

pub returns-then-not-is_empty-clause-full : goal.returns-then-not-is_empty-clause-full
returns-then-not-is_empty-clause-full c = λ t.
    full c.args.prefix.now _ c.utf8.prefix refl (sym c.is_empty.ensures ∙ c.if-not-is_empty.true)
