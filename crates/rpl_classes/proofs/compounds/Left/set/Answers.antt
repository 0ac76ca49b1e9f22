use Rattle.rpl_classes.proofs.Stacks.{left_whole, left_less}
use Rattle.rpl_classes.proofs.compounds.Left.set.Goals as goal

pub returns-then-is_empty : goal.returns-then-is_empty
returns-then-is_empty c =
    left_whole c.args.self c.in_ok-kept.kept c.in_ok-kept.ensures (c.is_empty.ensures c.if-is_empty.true)

pub returns : goal.returns
returns c = left_less c.args.self c.in_ok-kept.kept c.in_ok-set.field-0 c.without-2.result c.in_ok-kept.ensures
    c.in_ok-set.ensures c.without-2.ensures.ranges
