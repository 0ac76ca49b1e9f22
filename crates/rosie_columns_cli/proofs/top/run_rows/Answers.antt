use Rattle.std.specs.Prelude.{Err, Ok}
use Rattle.rosie_run.specs.Devices.{course}
use Rattle.rosie_run.specs.Given.{inputs_given}
use Rattle.rosie_run.specs.Report.{up_to_stop}
use Rattle.rosie_run.proofs.Pieces.{fronts_whole}
use Rattle.rosie_columns_cli.specs.Absent.{absent_text, never_found}
use Rattle.rosie_columns_cli.specs.Report.{by_lines, inputs_of, rows}
use Rattle.rosie_columns_cli.proofs.Causes.{rows_runs}
use Rattle.rosie_columns_cli.proofs.LastLines.{last_none, last_some, said_is}
use Rattle.rosie_columns_cli.proofs.top.run_rows.Goals as goal

pub returns-in-Err-clause-runs : goal.returns-in-Err-clause-runs
returns-in-Err-clause-runs g c = λ k.
    rows_runs (Err c.in-Err.ended) c.args.asked.now
    (λ t. course t g.F.Source g.I.Source g.O.Sink g.E.Sink c.args.inputs.now c.run_inputs.new.inputs c.args.outputs.now
    c.run_inputs.new.outputs) c.in-Ok.job.sheet.now c.as_slice-names.result.now c.by_lines-reading.result
    c.in-Ok.ensures.sheet c.as_slice-names.ensures c.by_lines-reading.ensures c.in-Err.ensures.runs k

pub returns-then-not-tally-clause-last : goal.returns-then-not-tally-clause-last
returns-then-not-tally-clause-last g c = λ k goes.
    let a = c.args.asked.now in
    let tree = g.F.Source.tree c.args.inputs.now.files.now in
    let input = g.I.Source.rest c.args.inputs.now.input.now in
    let ran = rows_runs (Ok c.in-Ok-run_inputs.tally) a
    (λ t. course t g.F.Source g.I.Source g.O.Sink g.E.Sink c.args.inputs.now c.run_inputs.new.inputs c.args.outputs.now
    c.run_inputs.new.outputs) c.in-Ok.job.sheet.now c.as_slice-names.result.now c.by_lines-reading.result
    c.in-Ok.ensures.sheet c.as_slice-names.ensures c.by_lines-reading.ensures c.in-Ok-run_inputs.ensures.runs k in
    last_none c.in-Ok-run_inputs.tally (rows a tree input (inputs_of a)) c.args.last.now.items
    (absent_text (never_found a.sheet.columns (inputs_given by_lines tree input (inputs_of a)))) ran.1
    c.if-not-tally.true c.requires goes

pub returns-in_default-absent-clause-runs : goal.returns-in_default-absent-clause-runs
returns-in_default-absent-clause-runs g c = λ k.
    let a = c.args.asked.now in
    let tree = g.F.Source.tree c.args.inputs.now.files.now in
    let input = g.I.Source.rest c.args.inputs.now.input.now in
    let ran = rows_runs (Ok c.in-Ok-run_inputs.tally) a
    (λ t. course t g.F.Source g.I.Source g.O.Sink g.E.Sink c.args.inputs.now c.run_inputs.new.inputs c.args.outputs.now
    c.run_inputs.new.outputs) c.in-Ok.job.sheet.now c.as_slice-names.result.now c.by_lines-reading.result
    c.in-Ok.ensures.sheet c.as_slice-names.ensures c.by_lines-reading.ensures c.in-Ok-run_inputs.ensures.runs k in
    fronts_whole _ (up_to_stop (rows a tree input (inputs_of a))) _ _ ran.0

pub returns-clause-last : goal.returns-clause-last
returns-clause-last g c = λ k goes.
    let a = c.args.asked.now in
    let tree = g.F.Source.tree c.args.inputs.now.files.now in
    let input = g.I.Source.rest c.args.inputs.now.input.now in
    let ran = rows_runs (Ok c.in-Ok-run_inputs.tally) a
    (λ t. course t g.F.Source g.I.Source g.O.Sink g.E.Sink c.args.inputs.now c.run_inputs.new.inputs c.args.outputs.now
    c.run_inputs.new.outputs) c.in-Ok.job.sheet.now c.as_slice-names.result.now c.by_lines-reading.result
    c.in-Ok.ensures.sheet c.as_slice-names.ensures c.by_lines-reading.ensures c.in-Ok-run_inputs.ensures.runs k in
    let says = rw (c.as_slice-names.ensures, c.by_lines-reading.ensures) at c.in-Ok-run_inputs.ensures.last in
    last_some c.in-Ok-run_inputs.tally (rows a tree input (inputs_of a)) c.in-Ok-absent.text.items
    (absent_text (never_found a.sheet.columns (inputs_given by_lines tree input (inputs_of a)))) ran.1
    c.if-not-tally.false
    (said_is c.in-Ok-absent.text.items c.run_inputs.new.job.sheet.now c.in-Ok.job.sheet.now
    c.run_inputs.new.job.found.items c.in-Ok.job.found.items (inputs_given by_lines tree input (inputs_of a)) a.sheet
    c.in-Ok-absent.ensures (says k goes) c.in-Ok.ensures.sheet c.in-Ok.ensures.found) goes
