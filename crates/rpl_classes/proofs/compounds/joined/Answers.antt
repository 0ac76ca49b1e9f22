use Rattle.rpl_classes.specs.Norm.{norm}
use Rattle.rpl_classes.specs.declared.compounds.Operator.TheVariants.{Both, Without}
use Rattle.rpl_classes.proofs.Stacks.{joined_none, joined_without, joined_both, joined_op}
use Rattle.rpl_classes.proofs.compounds.joined.Goals as goal

pub returns-in_default : goal.returns-in_default
returns-in_default c = joined_none c.args.before c.args.union c.new.result c.in_default.is c.new.ensures

pub returns-in-Without : goal.returns-in-Without
returns-in-Without c =
    let h = joined_without c.less.result c.in-Some.field-0.left c.args.union _ c.ranges-in-Without.ensures
    c.less.ensures.kept c.less.ensures.taken in
    joined_op c.less.result c.args.before c.in-Some.field-0 (norm c.args.union) Without c.in-Some.is c.in-Without.is h

pub returns-in-Both : goal.returns-in-Both
returns-in-Both c =
    let h = joined_both c.within.result c.in-Some.field-0.left (norm c.args.union) c.within.ensures.kept
    c.within.ensures.taken in
    joined_op c.within.result c.args.before c.in-Some.field-0 (norm c.args.union) Both c.in-Some.is c.in-Both.is h
