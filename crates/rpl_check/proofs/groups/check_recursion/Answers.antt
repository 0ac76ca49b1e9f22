use Rattle.rpl_core.specs.Listed.{rules_of}
use Rattle.rpl_core.specs.Table.{blocks_of, bodies_of}
use Rattle.rpl_core.specs.Marks.{marked}
use Rattle.rpl_check.proofs.Firsts.{alone}
use Rattle.rpl_check.proofs.groups.check_recursion.Goals as goal

pub returns-then-is_outside : goal.returns-then-is_outside
returns-then-is_outside c = λ reach all.
    alone (bodies_of (rules_of c.args.group.now.rules.now)) (blocks_of (rules_of c.args.group.now.rules.now))
    (marked c.args.empties.now) reach c.args.group.now.start c.args.group.now.end c.requires.order c.requires.earlier
    (c.is_outside.ensures.0 c.if-is_outside.true) c.if-group-eq1.true all
