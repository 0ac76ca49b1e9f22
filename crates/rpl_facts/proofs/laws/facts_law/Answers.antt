use Rattle.rpl_facts.proofs.Exists.{facts_of}
use Rattle.rpl_facts.proofs.laws.facts_law.Goals as goal

pub returns : goal.returns
returns c = facts_of
