use Rattle.rpl_parser.proofs.Faults.{bad_no_memory}
use Rattle.rpl_parser.proofs.statements.read_piece.Goals as goal

pub returns-in-Ok-clause-bad : goal.returns-in-Ok-clause-bad
returns-in-Ok-clause-bad c =
    bad_no_memory c.args.text.now c.args.piece.now c.in_ok-converted.converted.bad c.in_ok-converted.ensures.bad
