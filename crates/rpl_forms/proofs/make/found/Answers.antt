use Rattle.std.proofs.Common.{sym, ap, ap₂, ◌∙◌}
use Rattle.std.proofs.lemmas.Result.{IfOk-weaker}
use Rattle.rpl_forms.specs.Forms as F
use Rattle.rpl_forms.proofs.Counted.{seen_found}
use Rattle.rpl_forms.proofs.make.found.Goals as goal

pub returns : goal.returns
returns c =
    IfOk-weaker c.pair.result _ _ (λ q h. λ I p e.
    let before = c.in_ok-before.ensures ∙ ap F.passed e in
    h ∙ ap₂ F.pair before (c.in_ok-hit.ensures I p e) ∙ sym (seen_found c.args.in_lookbehind I p)) c.pair.ensures
