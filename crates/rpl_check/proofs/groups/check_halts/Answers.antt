use Rattle.std.proofs.Common.{◌∙◌, arith}
use Rattle.rpl_core.specs.Listed.{rules_of}
use Rattle.rpl_core.specs.Table.{bodies_of}
use Rattle.rpl_check.specs.Faults.{halt_at}
use Rattle.rpl_core.specs.Marks.{marked}
use Rattle.rpl_check.proofs.Firsts.{first_miss}
use Rattle.rpl_check.proofs.groups.check_halts.Goals as goal

pub loop-number-preserved : goal.loop-number-preserved
loop-number-preserved c = (
  omega arith,
  c.loop-number.invariant.1
      ∙ first_miss (halt_at (marked c.args.halting.now) (bodies_of (rules_of c.args.group.now.rules.now)))
      c.loop-number.number c.args.group.now.end c.loop-number-test.true c.in_ok-check_halt.ensures,
)
