use Rattle.rpl_expand.proofs.Loaded.{tables_are_in_order}
use Rattle.rpl_expand.proofs.load_laws.tables_are_in_order.Goals as goal

pub returns : goal.returns
returns c = tables_are_in_order
