use Rattle.rpl_facts.proofs.Exists.{facts_same}
use Rattle.rpl_facts.proofs.laws.one_facts_law.Goals as goal

pub returns : goal.returns
returns c = facts_same
