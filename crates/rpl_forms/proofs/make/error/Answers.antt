use Rattle.std.proofs.Common.{◌≡◌, sym, ap₂, ◌∙◌, subst}
use Rattle.std.specs.Prelude.{IfOk}
use Rattle.rpl_core.specs.Core as C
use Rattle.rpl_core.specs.Listed.{rules_of}
use Rattle.rpl_core.specs.View.{core_of}
use Rattle.rpl_forms.specs.Forms as F
use Rattle.rpl_forms.specs.Rows.{inners_of}
use Rattle.rpl_macro.specs.Macros.{text_of}
use Rattle.rpl_syntax.specs.View.{expr_of}
use Rattle.rpl_forms.proofs.Seen.{seen_pair}
use Rattle.rpl_forms.proofs.make.error.Goals as goal

pub returns : goal.returns
returns c =
    let I = inners_of (rules_of c.args.rules.now) in
    let b = c.args.in_lookbehind in
    let t = text_of (expr_of c.args.arg.now) in
    let same =
    ap₂ F.pair (c.in_ok-told.ensures I) c.in_ok-end.ensures ∙ sym (seen_pair b I (C.Note t) (C.Call F.halt_rule)) in
    subst (λ q. IfOk c.pair.result (λ p. core_of p ≡ q)) same c.pair.ensures
