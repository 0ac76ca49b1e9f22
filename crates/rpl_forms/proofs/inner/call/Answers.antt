use Rattle.std.proofs.Common.{◌≡◌, sym, ap, ◌∙◌, subst}
use Rattle.std.specs.Prelude.{IfOk, slice_get}
use Rattle.rpl_core.specs.Core as C
use Rattle.rpl_core.specs.Listed.{rules_of}
use Rattle.rpl_core.specs.View.{core_of}
use Rattle.rpl_forms.specs.Counting.{seen}
use Rattle.rpl_forms.specs.Inlining.{called}
use Rattle.rpl_forms.specs.Rows.{inners_of}
use Rattle.rpl_forms.proofs.Standing.{whole_inners}
use Rattle.rpl_forms.proofs.inner.call.Goals as goal

pub returns : goal.returns
returns c =
    let rs = rules_of c.args.rules.now in
    let I = inners_of rs in
    let all = whole_inners rs c.len.result c.len.ensures.count in
    let same =
    ap (λ l. called c.args.rule (slice_get l c.args.rule)) all
    ∙ sym (ap (λ b. seen b I (C.Call c.args.rule)) c.if-not-in_lookbehind.false) in
    subst (λ q. IfOk c.inline_call.result (λ p. core_of p ≡ q)) same c.inline_call.ensures
