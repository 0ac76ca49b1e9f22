use Rattle.std.proofs.Common.{sym, ap, ap₂, ◌∙◌}
use Rattle.std.proofs.lemmas.Result.{IfOk-weaker}
use Rattle.rpl_forms.specs.Forms as F
use Rattle.rpl_forms.proofs.Counted.{seen_kept, seen_passed}
use Rattle.rpl_forms.proofs.make.kept.Goals as goal

pub returns : goal.returns
returns c =
    IfOk-weaker c.pair.result _ _ (λ q h. λ I p e.
    let before =
    c.in_ok-before.ensures ∙ ap F.passed e ∙ sym (seen_passed c.args.in_lookbehind I p) in
    h ∙ ap₂ F.pair (c.in_ok-before-2.ensures I (F.passed p) before) (c.in_ok-hit.ensures I p e)
    ∙ sym (seen_kept c.args.in_lookbehind I p)) c.pair.ensures
