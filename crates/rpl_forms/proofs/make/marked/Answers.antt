use Rattle.std.proofs.Common.{sym, ap, ap₂, ◌∙◌}
use Rattle.rpl_core.specs.Core as C
use Rattle.rpl_core.specs.View.{core_of}
use Rattle.rpl_forms.specs.Forms as F
use Rattle.rpl_forms.proofs.Seen.{seen_capture_inside, seen_capture_outside}
use Rattle.rpl_forms.proofs.make.marked.Goals as goal

pub returns-then-in_lookbehind : goal.returns-then-in_lookbehind
returns-then-in_lookbehind c =
    λ I p e. e ∙ sym (seen_capture_inside c.args.in_lookbehind I (F.mark_name c.args.mark) p c.if-in_lookbehind.true)

pub returns : goal.returns
returns c = λ I p e.
    ap₂ C.Capture c.in_ok-name.ensures (ap core_of c.in_ok-new.ensures.ok ∙ e)
    ∙ sym (seen_capture_outside c.args.in_lookbehind I (F.mark_name c.args.mark) p c.if-in_lookbehind.false)
