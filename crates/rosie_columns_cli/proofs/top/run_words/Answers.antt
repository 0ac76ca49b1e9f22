use Rattle.std.proofs.Common.{ap, false}
use Rattle.rosie_run.specs.Where.{Nowhere}
use Rattle.rosie_run.specs.declared.tool.Tool.TheVariants.{RosieColumns}
use Rattle.rosie_run.specs.Outputs.{telling}
use Rattle.rosie_run.proofs.Breaking.{runs_weaken}
use Rattle.rosie_columns_cli.specs.Report.{pieces}
use Rattle.rosie_columns_cli.specs.Words.{reading, words_of}
use Rattle.rosie_columns_cli.proofs.Calls.{answers_of, ran_is}
use Rattle.rosie_columns_cli.proofs.Causes.{goes_never, quiet_cause}
use Rattle.rosie_columns_cli.proofs.top.run_words.Goals as goal

pub returns-in-Err-clause-answers : goal.returns-in-Err-clause-answers
returns-in-Err-clause-answers g c =
    let r = c.refuse-run.result in
    let e = c.refuse-run.ensures in
    let n = c.args.outputs.now.steps.now in
    let asked = reading (words_of c.args.words.now) in
    let tree = g.F.Source.tree c.args.inputs.now.files.now in
    let input = g.I.Source.rest c.args.inputs.now.input.now in
    answers_of _ r c.finish.result false _ _ (ran_is c.finish.result) (c.finish.ensures.closes RosieColumns n)
    (quiet_cause r _ _ e.no_cut) e.sinks c.finish.ensures.cause
    (λ k. runs_weaken (telling RosieColumns g.O.Sink g.E.Sink) r (pieces asked tree input) Nowhere _ _ _
    (λ why file n h. absurd h)
    (e.runs (pieces asked tree input) n (λ not. ap (λ x. pieces x tree input) (c.in-Err.ensures.fault not))))
    (λ k. goes_never r _ e.stops) (λ k. goes_never r _ e.stops)
