use Rattle.rpl_expand.proofs.Loaded.{own_names_are_rules}
use Rattle.rpl_expand.proofs.load_laws.own_names_are_rules.Goals as goal

pub returns : goal.returns
returns c = own_names_are_rules
