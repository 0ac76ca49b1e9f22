use Rattle.std.proofs.Common.{length}
use Rattle.rpl_parser.specs.Tokens.{AllStand}
use Rattle.rpl_parser.specs.inside.Walked.{walk_of}
use Rattle.rpl_parser.specs.Walks.{module_of}
use Rattle.rpl_parser.proofs.Walking.{Left}
use Rattle.rpl_parser.proofs.statements.read_all.Given as goal

abbrev pub invariant-pieces : goal.invariant-pieces
invariant-pieces l = record {
  stand : AllStand l.text l.left;
  walked : Left l.text (walk_of l.walk) l.left (module_of l.text l.lexemes);
}

abbrev pub decreases-pieces : goal.decreases-pieces
decreases-pieces l = length l.left
