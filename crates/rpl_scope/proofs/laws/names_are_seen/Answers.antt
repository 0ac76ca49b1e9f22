use Rattle.rpl_scope.proofs.Scoping.{statements_see, patterns_see}
use Rattle.rpl_scope.proofs.Sharing.{importers_see}
use Rattle.rpl_scope.proofs.laws.names_are_seen.Goals as goal

pub returns : goal.returns
returns c = record { statements = statements_see; patterns = patterns_see; importers = importers_see }
