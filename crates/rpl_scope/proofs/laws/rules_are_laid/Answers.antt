use Rattle.rpl_scope.proofs.Scoping.{rules_laid}
use Rattle.rpl_scope.proofs.laws.rules_are_laid.Goals as goal

pub returns : goal.returns
returns c = rules_laid
