use Rattle.std.proofs.Common.{ap, ◌∙◌}
use Rattle.std.proofs.lemmas.Result.{on_ok_weaker}
use Rattle.rpl_core.specs.Core as C
use Rattle.rpl_core.specs.View.{cores, listed}
use Rattle.rpl_forms.specs.Forms as F
use Rattle.rpl_forms.proofs.make.append_options.Goals as goal

pub returns : goal.returns
returns c =
    on_ok_weaker c.append_copies.result (λ h. h
    ∙ ap (λ o. F.joined (cores (listed c.args.parts.now)) (F.copies c.args.number o C.NoMore)) c.in_ok-option.ensures)
    c.append_copies.ensures
