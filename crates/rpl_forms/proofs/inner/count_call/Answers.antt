use Rattle.std.proofs.Common.{sym, ap, ◌∙◌, subst, refl}
use Rattle.rpl_core.specs.Core as C
use Rattle.rpl_forms.specs.Counting.{Counts, seen}
use Rattle.rpl_forms.specs.Inlining.{called}
use Rattle.rpl_forms.proofs.Standing.{stands, stays}
use Rattle.rpl_forms.proofs.inner.count_call.Goals as goal

pub returns-in-Some : goal.returns-in-Some
returns-in-Some c = λ I h.
    let r = c.args.rule in
    let s = stands c.args.known.now I r c.in-Some.inner h (sym c.inner_of.ensures ∙ c.in-Some.is) in
    let same = ap (λ b. seen b I (C.Call r)) c.if-not-in_lookbehind.false ∙ ap (called r) s.1 in
    subst (Counts c.in-Some.inner.count) (sym same) s.2

pub returns-in-None : goal.returns-in-None
returns-in-None c = λ I h.
    let r = c.args.rule in
    let same =
    ap (λ b. seen b I (C.Call r)) c.if-not-in_lookbehind.false
    ∙ stays c.args.known.now I r h (sym c.inner_of.ensures ∙ c.in-None.is) in
    subst (Counts c.leaf-in-None.result) (sym same) (c.leaf-in-None.ensures (C.Call r) refl refl)
