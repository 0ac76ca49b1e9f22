use Rattle.rpl_scope.specs.Bodies.{used_fault}
use Rattle.rpl_scope.specs.Seen.{use_seen}
use Rattle.rpl_scope.proofs.Checking.{check_passed, check_stopped, checks_done}
use Rattle.rpl_scope.proofs.Stops.{passed_on}
use Rattle.rpl_scope.proofs.checks.check_macros.Goals as goal

pub loop-used-preserved : goal.loop-used-preserved
loop-used-preserved c =
    check_passed use_seen (used_fault c.args.file.now) c.args.uses.now c.loop-used.used-index c.used-item.result _
    c.loop-used-test.true c.used-item.is c.in_ok-check_macro.ensures c.loop-used.invariant

pub returns : goal.returns
returns c = checks_done use_seen (used_fault c.args.file.now) c.args.uses.now c.loop-used.used-index _
    c.loop-used-test.false c.loop-used.invariant

pub returns-in_err-check_macro : goal.returns-in_err-check_macro
returns-in_err-check_macro c =
    passed_on _ c.from_residual.result c.in_err-check_macro.field-0.0 _ c.from_residual.ensures.1
    (check_stopped use_seen (used_fault c.args.file.now) c.args.uses.now c.loop-used.used-index c.used-item.result
    c.in_err-check_macro.field-0.0 _ c.loop-used-test.true c.used-item.is c.in_err-check_macro.ensures
    c.loop-used.invariant)
