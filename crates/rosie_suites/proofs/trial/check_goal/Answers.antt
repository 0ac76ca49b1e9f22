use Rattle.rpl_check.specs.Goal.{peg_of}
use Rattle.rpl_core.specs.Table.{bodies_of}
use Rattle.rpl_core.specs.View.{core_of}
use Rattle.rosie_suites.proofs.Tried.{ready_for}
use Rattle.rosie_suites.proofs.trial.check_goal.Goals as goal

pub returns : goal.returns
returns c =
    let made = c.in_ok-_goal.ensures in
    ready_for (bodies_of c.args.rules.now) c.args.target c.in-Some.target (core_of (peg_of c.in_ok-_goal._goal))
    c.in-Some.is made.goal made.whole made.root
