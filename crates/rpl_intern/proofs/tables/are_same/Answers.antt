use Rattle.std.proofs.Common.{arith}
use Rattle.rpl_intern.proofs.Differing.{same_more}
use Rattle.rpl_intern.proofs.tables.are_same.Goals as goal

pub loop-index-preserved : goal.loop-index-preserved
loop-index-preserved c =
    same_more c.args.a.now c.args.b.now c.loop-index.index c.loop-index.difference
    (omega (arith, c.loop-index-test.true)) (omega (arith, c.loop-index-test.true, c.if-a-b.false))
    c.loop-index.invariant
