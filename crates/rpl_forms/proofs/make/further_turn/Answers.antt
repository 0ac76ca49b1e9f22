use Rattle.std.proofs.Common.{ap, ◌∙◌}
use Rattle.std.proofs.lemmas.Result.{IfOk-weaker}
use Rattle.rpl_core.specs.View.{core_of}
use Rattle.rpl_forms.specs.Forms as F
use Rattle.rpl_forms.proofs.make.further_turn.Goals as goal

pub returns : goal.returns
returns c =
    IfOk-weaker c.pair.result _ _ (λ q h. h ∙ ap (F.pair (core_of c.args.boundary)) c.in_ok-again.ensures)
    c.pair.ensures
