use Rattle.std.proofs.Common.{refl, sym, ◌∙◌}
use Rattle.rpl_scope.proofs.Scopes.{full}
use Rattle.rpl_names.proofs.Offering.{not_true}
use Rattle.rpl_names.proofs.offers.is_spelled.Goals as goal

pub returns : goal.returns
returns c = λ t. full c.args.prefix.now _ c.utf8.prefix refl (sym c.is_empty.ensures ∙ not_true _ t)
