use Rattle.std.proofs.Common.{◌∙◌}
use Rattle.rosie_run.specs.Outputs.{telling}
use Rattle.rosie_run.specs.Sources.{span_of}
use Rattle.rosie_run.specs.declared.tool.Tool.TheVariants.{RosieColumns}
use Rattle.rosie_columns_cli.proofs.Sequence.{first_breaks, first_done, last_breaks, last_done, rows_break, rows_done}
use Rattle.rosie_columns_cli.proofs.Sequence.{rows_goes, rows_stop}
use Rattle.rosie_columns_cli.proofs.top.run_asked.Goals as goal

pub returns-in-Err-clause-runs : goal.returns-in-Err-clause-runs
returns-in-Err-clause-runs g c = λ k.
    let i = c.args.inputs.now in
    first_breaks (telling RosieColumns g.O.Sink g.E.Sink) c.args.asked.now (g.F.Source.tree i.files.now)
    (span_of g.I.Source i.input.now i.input.now) (span_of g.F.Source i.files.now i.files.now) _ _
    (g.met.O.Sink.number_fits c.args.outputs.now.out.now) c.deref.result.now (c.deref.ensures.value ∙ c.in-Ok.ensures)
    c.in-Err.ended (c.in-Err.ensures.runs RosieColumns c.args.outputs.now.steps.now)

pub returns-in-Err-run_rows-clause-runs : goal.returns-in-Err-run_rows-clause-runs
returns-in-Err-run_rows-clause-runs g c = λ k.
    let i = c.args.inputs.now in
    let z = c.run_rows.new.inputs in
    let W = telling RosieColumns g.O.Sink g.E.Sink in
    let tree = g.F.Source.tree i.files.now in
    let input = span_of g.I.Source i.input.now z.input.now in
    let files = span_of g.F.Source i.files.now z.files.now in
    let s = first_done W c.args.asked.now tree input files _ _ (g.met.O.Sink.number_fits c.args.outputs.now.out.now)
    c.deref.result.now (c.deref.ensures.value ∙ c.in-Ok.ensures) c.in-Ok-say.first
    (c.in-Ok-say.ensures.runs RosieColumns c.args.outputs.now.steps.now) in
    rows_break W c.args.asked.now tree input files _ _ _ c.in-Ok-say.first s c.in-Err-run_rows.ended
    (c.in-Err-run_rows.ensures.runs k)

pub returns-then-tally-clause-runs : goal.returns-then-tally-clause-runs
returns-then-tally-clause-runs g c = λ k.
    let i = c.args.inputs.now in
    let z = c.run_rows.new.inputs in
    let W = telling RosieColumns g.O.Sink g.E.Sink in
    let tree = g.F.Source.tree i.files.now in
    let input = span_of g.I.Source i.input.now z.input.now in
    let files = span_of g.F.Source i.files.now z.files.now in
    let s = first_done W c.args.asked.now tree input files _ _ (g.met.O.Sink.number_fits c.args.outputs.now.out.now)
    c.deref.result.now (c.deref.ensures.value ∙ c.in-Ok.ensures) c.in-Ok-say.first
    (c.in-Ok-say.ensures.runs RosieColumns c.args.outputs.now.steps.now) in
    rows_stop W c.args.asked.now tree input files _ _ _ c.in-Ok-say.first s c.in-Ok-run_rows.rows c.and-tally.result
    (c.in-Ok-run_rows.ensures.runs k) c.and-tally.ensures c.if-tally.true

pub returns-in-Ok-say-2-clause-runs : goal.returns-in-Ok-say-2-clause-runs
returns-in-Ok-say-2-clause-runs g c = λ k.
    let i = c.args.inputs.now in
    let z = c.run_rows.new.inputs in
    let a = c.args.asked.now in
    let W = telling RosieColumns g.O.Sink g.E.Sink in
    let tree = g.F.Source.tree i.files.now in
    let input = span_of g.I.Source i.input.now z.input.now in
    let files = span_of g.F.Source i.files.now z.files.now in
    let e = c.in-Ok-run_rows.ensures in
    let s = first_done W a tree input files _ _ (g.met.O.Sink.number_fits c.args.outputs.now.out.now)
    c.deref.result.now (c.deref.ensures.value ∙ c.in-Ok.ensures) c.in-Ok-say.first
    (c.in-Ok-say.ensures.runs RosieColumns c.args.outputs.now.steps.now) in
    let t = rows_done W a tree input files _ _ _ c.in-Ok-say.first s c.in-Ok-run_rows.rows c.and-tally.result
    (e.runs k) c.and-tally.ensures c.if-tally.false in
    let goes = rows_goes W a tree input files _ _ _ c.in-Ok-say.first s c.in-Ok-run_rows.rows c.and-tally.result
    (e.runs k) c.and-tally.ensures c.if-tally.false in
    last_done W a tree input files _ _ _ c.and-tally.result t c.deref-2.result.now
    (c.deref-2.ensures.value ∙ e.last k goes) c.in-Ok-say-2.end c.and.result
    (c.in-Ok-say-2.ensures.runs RosieColumns c.run_rows.new.outputs.steps.now) c.and.ensures

pub returns-clause-runs : goal.returns-clause-runs
returns-clause-runs g c = λ k.
    let i = c.args.inputs.now in
    let z = c.run_rows.new.inputs in
    let a = c.args.asked.now in
    let W = telling RosieColumns g.O.Sink g.E.Sink in
    let tree = g.F.Source.tree i.files.now in
    let input = span_of g.I.Source i.input.now z.input.now in
    let files = span_of g.F.Source i.files.now z.files.now in
    let e = c.in-Ok-run_rows.ensures in
    let s = first_done W a tree input files _ _ (g.met.O.Sink.number_fits c.args.outputs.now.out.now)
    c.deref.result.now (c.deref.ensures.value ∙ c.in-Ok.ensures) c.in-Ok-say.first
    (c.in-Ok-say.ensures.runs RosieColumns c.args.outputs.now.steps.now) in
    let t = rows_done W a tree input files _ _ _ c.in-Ok-say.first s c.in-Ok-run_rows.rows c.and-tally.result
    (e.runs k) c.and-tally.ensures c.if-tally.false in
    let goes = rows_goes W a tree input files _ _ _ c.in-Ok-say.first s c.in-Ok-run_rows.rows c.and-tally.result
    (e.runs k) c.and-tally.ensures c.if-tally.false in
    last_breaks W a tree input files _ _ _ c.and-tally.result t c.deref-2.result.now
    (c.deref-2.ensures.value ∙ e.last k goes) c.in-Err-say.ended
    (c.in-Err-say.ensures.runs RosieColumns c.run_rows.new.outputs.steps.now)
