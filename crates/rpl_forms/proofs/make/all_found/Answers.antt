use Rattle.std.proofs.Common.{sym, ap, ◌∙◌}
use Rattle.std.proofs.lemmas.Result.{IfOk-weaker}
use Rattle.rpl_forms.specs.Forms as F
use Rattle.rpl_forms.proofs.Seen.{seen_endless}
use Rattle.rpl_forms.proofs.make.all_found.Goals as goal

pub returns : goal.returns
returns c =
    IfOk-weaker c.endless.result _ _ (λ q h. λ I p e.
    h ∙ ap (λ s. F.endless s 1) (c.in_ok-search.ensures I p e)
    ∙ sym (seen_endless c.args.in_lookbehind I (F.found p) 1))
    c.endless.ensures
