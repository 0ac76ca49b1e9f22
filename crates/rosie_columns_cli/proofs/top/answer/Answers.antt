use Rattle.std.specs.Prelude.{not}
use Rattle.rosie_run.specs.declared.tool.Tool.TheVariants.{RosieColumns}
use Rattle.rosie_columns_cli.proofs.Calls.{answers_of, any_by, goes_map}
use Rattle.rosie_columns_cli.proofs.top.answer.Goals as goal

pub returns-clause-answers : goal.returns-clause-answers
returns-clause-answers g c =
    let e = c.run_asked-run.ensures in
    let last = c.run_asked-run.new.last in
    answers_of _ c.run_asked-run.result c.finish-status.result (not c.is_empty.result) _ _ c.of.ensures
    (c.finish-status.ensures.closes RosieColumns c.run_asked-run.new.outputs.steps.now) e.cause e.sinks
    c.finish-status.ensures.cause e.runs
    (λ k. goes_map c.run_asked-run.result _ _
    (λ is. any_by last.items _ c.is_empty.result _ last.ok.0 c.is_empty.ensures is) (e.last k)) e.rest
