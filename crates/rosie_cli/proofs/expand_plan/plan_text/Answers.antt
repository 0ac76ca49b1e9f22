use Rattle.std.proofs.Common.{◌≤◌, ◌++◌, ◌∙◌, ap, length, sym, arith}
use Rattle.std.proofs.lemmas.List.{append-nil, length-map}
use Rattle.rosie_inspect.specs.Expanded.{pattern_text}
use Rattle.rosie_inspect.specs.Listing.{code_text}
use Rattle.rosie_prepare.specs.Views.{ready_seen}
use Rattle.rosie_prepare.proofs.Passing.{bodies_rows_of, told_own}
use Rattle.rpl_core.specs.Numbers.{instr_of}
use Rattle.rpl_core.specs.Program.{code_of, instructions, labels_of, sets_of}
use Rattle.rpl_core.specs.Table.{bodies_of}
use Rattle.rosie_cli.specs.Plans.{whole_answer}
use Rattle.rosie_cli.specs.inside.Planning.{due_of}
use Rattle.rosie_cli.proofs.Expanded.{plain_plan, coded_plan, long_plan}
use Rattle.rosie_cli.proofs.Made.{told_made}
use Rattle.rosie_cli.proofs.expand_plan.plan_text.Goals as goal

pub returns-then-not-wants_code-clause-makes : goal.returns-then-not-wants_code-clause-makes
returns-then-not-wants_code-clause-makes c = λ p is.
    let ready = c.args.ready in let made = c.in_ok-expansion.ensures in
    let text = pattern_text c.in_ok-expansion.expansion in
    plain_plan (ready_seen ready) (bodies_of ready.rules) (bodies_rows_of ready.rules) text made.pattern p
    c.args.wants_code c.if-not-wants_code.true is
    ∙ ap whole_answer (sym (ap (λ x. text ++ code_text x) made.program ∙ append-nil text))

pub returns-in_ok-expansion-in-Ok-clause-makes : goal.returns-in_ok-expansion-in-Ok-clause-makes
returns-in_ok-expansion-in-Ok-clause-makes c = λ p is.
    let ready = c.args.ready in let made = c.in_ok-expansion-in-Ok.ensures in
    let text = pattern_text c.in_ok-expansion-in-Ok.expansion in
    let program = c.in-Ok.program in
    let long = length-map (code_of program) (instr_of (sets_of program) (labels_of program)) in
    let within = c.in-Ok.ensures.fits in
    let fits : length (instructions program) ≤ 1048576 = omega (arith, long, within) in
    coded_plan (ready_seen ready) (bodies_of ready.rules) (bodies_rows_of ready.rules) text made.pattern p
    c.args.wants_code c.if-not-wants_code.false is (instructions program) c.in-Ok.ensures.code fits
    ∙ ap whole_answer (sym (ap (λ x. text ++ code_text x) made.program))

pub returns-in-Err-clause-makes : goal.returns-in-Err-clause-makes
returns-in-Err-clause-makes c = λ p is.
    let ready = c.args.ready in
    told_made c.in-Err.fault c.uncompiled.result p c.uncompiled.ensures
    (λ long. long_plan (ready_seen ready) (bodies_of ready.rules) (bodies_rows_of ready.rules) is.0 is.1 p
    c.args.wants_code c.if-not-wants_code.false is (c.in-Err.ensures.too_long long))

pub returns-in-Err-clause-own : goal.returns-in-Err-clause-own
returns-in-Err-clause-own c = told_own (due_of c.in-Err.fault) c.uncompiled.result c.uncompiled.ensures
