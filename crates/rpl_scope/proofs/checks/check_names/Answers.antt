use Rattle.rpl_scope.specs.Bodies.{named_fault}
use Rattle.rpl_scope.specs.Seen.{module_seen, modules_seen}
use Rattle.rpl_scope.proofs.Checking.{check_passed, check_stopped, checks_done}
use Rattle.rpl_scope.proofs.Stops.{passed_on}
use Rattle.rpl_scope.proofs.checks.check_names.Goals as goal

pub loop-name-preserved : goal.loop-name-preserved
loop-name-preserved c =
    check_passed (λ q. q.now) (named_fault c.args.file.now (modules_seen c.args.scope.modules.now)
    (module_seen c.args.scope.own.now) c.args.scope.start) c.args.names.now c.loop-name.name-index c.name-item.result
    _ c.loop-name-test.true c.name-item.is c.in_ok-check_name.ensures c.loop-name.invariant

pub returns : goal.returns
returns c = checks_done (λ q. q.now) (named_fault c.args.file.now (modules_seen c.args.scope.modules.now)
    (module_seen c.args.scope.own.now) c.args.scope.start) c.args.names.now c.loop-name.name-index _
    c.loop-name-test.false c.loop-name.invariant

pub returns-in_err-check_name : goal.returns-in_err-check_name
returns-in_err-check_name c =
    passed_on _ c.from_residual.result c.in_err-check_name.field-0.0 _ c.from_residual.ensures.1
    (check_stopped (λ q. q.now) (named_fault c.args.file.now (modules_seen c.args.scope.modules.now)
    (module_seen c.args.scope.own.now) c.args.scope.start) c.args.names.now c.loop-name.name-index c.name-item.result
    c.in_err-check_name.field-0.0 _ c.loop-name-test.true c.name-item.is c.in_err-check_name.ensures
    c.loop-name.invariant)
