use Rattle.rpl_expand.proofs.Loaded.{modules_are_apart, table_is_distinct}
use Rattle.rpl_expand.proofs.load_laws.names_are_distinct.Goals as goal

pub returns : goal.returns
returns c = record { modules = modules_are_apart; table = table_is_distinct }
