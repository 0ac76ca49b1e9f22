use Rattle.std.proofs.lemmas.Result.{IfOk-weaker}
use Rattle.rpl_trace.specs.inside.Steps.{state_of}
use Rattle.rpl_trace.proofs.Entering.{chosen}
use Rattle.rpl_trace.proofs.Parts.{rest_whole}
use Rattle.rpl_trace.proofs.tracer.Tracer.choose.Goals as goal

pub returns-in-len1-up : goal.returns-in-len1-up
returns-in-len1-up c =
    IfOk-weaker c.nest.result _ _ (λ e h.
    chosen c.args.parts.now c.args.place (state_of c.args.self.now) (state_of c.nest.new.self) e _ _ h.0 h.1
    c.in-len1-up.len_at_least c.first-item.is (rest_whole c.args.parts.now)) c.nest.ensures
