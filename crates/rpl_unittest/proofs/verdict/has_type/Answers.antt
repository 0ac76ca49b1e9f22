use Rattle.rpl_unittest.specs.inside.Nodes.{has_part}
use Rattle.rpl_unittest.proofs.Types.{found_here, not_here}
use Rattle.rpl_unittest.proofs.verdict.has_type.Goals as goal

pub returns-then-is_here : goal.returns-then-is_here
returns-then-is_here c =
    found_here (has_part c.args.program.now c.args.asked.prefix.now c.args.asked.part.now) c.args.forest.now
    c.loop-index.index
    c.is_here.result c.is_here.ensures c.if-is_here.true c.loop-index.invariant

pub loop-index-preserved : goal.loop-index-preserved
loop-index-preserved c =
    not_here (has_part c.args.program.now c.args.asked.prefix.now c.args.asked.part.now) c.args.forest.now
    c.loop-index.index
    c.is_here.result c.is_here.ensures c.if-is_here.false c.loop-index.invariant
