use Rattle.std.proofs.Common.{◌≤◌, length, arith}
use Rattle.rosie_prepare.specs.Views.{ready_seen}
use Rattle.rosie_prepare.proofs.Passing.{bodies_rows_of, told_own}
use Rattle.rpl_check.specs.Goal.{peg_of}
use Rattle.rpl_core.specs.Program.{instructions}
use Rattle.rpl_core.specs.Table.{bodies_of}
use Rattle.rpl_core.specs.View.{core_of}
use Rattle.rosie_cli.specs.inside.Planning.{due_of}
use Rattle.rosie_cli.proofs.Compiled.{code_counts, code_is_some, file_plan, long_file}
use Rattle.rosie_cli.proofs.Made.{told_made}
use Rattle.rosie_cli.proofs.compile_plan.plan_file.Goals as goal

pub write_code-requires-clause-some : goal.write_code-requires-clause-some
write_code-requires-clause-some c =
    let ready = c.args.ready.now in
    let program = c.in-Ok.program in
    let some = code_is_some (bodies_of ready.rules) (core_of (peg_of ready.goal)) (instructions program)
    c.in-Ok.ensures.code in
    omega (arith, code_counts program, some)

pub returns-in_ok-write_code-in-Ok-clause-makes : goal.returns-in_ok-write_code-in-Ok-clause-makes
returns-in_ok-write_code-in-Ok-clause-makes c = λ p is.
    let ready = c.args.ready.now in
    let program = c.in-Ok.program in
    let within = c.in-Ok.ensures.fits in
    let fits : length (instructions program) ≤ 1048576 = omega (arith, code_counts program, within) in
    file_plan (ready_seen ready) (bodies_of ready.rules) (bodies_rows_of ready.rules) p is (instructions program)
    c.in-Ok.ensures.code fits _ c.in_ok-write_code-in-Ok.ensures

pub returns-in-Err-clause-makes : goal.returns-in-Err-clause-makes
returns-in-Err-clause-makes c = λ p is.
    let ready = c.args.ready.now in
    told_made c.in-Err.fault c.uncompiled.result p c.uncompiled.ensures
    (λ long. long_file (ready_seen ready) (bodies_of ready.rules) (bodies_rows_of ready.rules) p is
    (c.in-Err.ensures.too_long long))

pub returns-in-Err-clause-own : goal.returns-in-Err-clause-own
returns-in-Err-clause-own c = told_own (due_of c.in-Err.fault) c.uncompiled.result c.uncompiled.ensures
