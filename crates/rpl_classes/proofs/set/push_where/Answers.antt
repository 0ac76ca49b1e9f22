use Rattle.rpl_classes.proofs.Operations.{push_one}
use Rattle.rpl_classes.proofs.set.push_where.Goals as goal

pub returns-in_ok-push : goal.returns-in_ok-push
returns-in_ok-push c = λ x. push_one _ _ c.args.number x c.args.test c.if-test.true c.in_ok-push.ensures.items
