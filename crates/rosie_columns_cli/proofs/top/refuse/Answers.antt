use Rattle.std.proofs.Common.{[], ◌∷◌, sym, subst, ◌∙◌}
use Rattle.rosie_run.specs.Outputs.{shown, telling}
use Rattle.rosie_run.specs.Report.{stop_piece}
use Rattle.rosie_run.specs.Runs.{Runs}
use Rattle.rosie_run.specs.Where.{Nowhere}
use Rattle.rosie_run.specs.declared.tool.Tool.TheVariants.{RosieColumns}
use Rattle.rosie_columns_cli.proofs.top.refuse.Goals as goal

pub returns-in-Ok : goal.returns-in-Ok
returns-in-Ok g c = record {
  runs = λ ps n is.
      let W = telling RosieColumns g.O.Sink g.E.Sink in
      let before = shown g.O.Sink g.E.Sink c.args.out.now c.args.err.now n in
      let after = shown g.O.Sink g.E.Sink c.say.new.out c.say.new.err n in
      subst (λ qs. Runs c.say.result W qs Nowhere before after) (sym (is c.in_default.not-NoMemory))
      (subst (λ x. Runs c.say.result W (stop_piece x ∷ []) Nowhere before after)
      (c.as_bytes.ensures.value ∙ c.in-Ok.ensures) (c.say.ensures.runs RosieColumns n));
  stops = c.say.ensures.stops;
  no_cut = c.say.ensures.no_cut;
  sinks = c.say.ensures.sinks;
}
