use Rattle.std.specs.Prelude.{Bool, true, false, if◌then◌else◌, Option}
use Rattle.std.proofs.Common.{◌≡◌, ◌≢◌, ℕ, ◌+◌, drop, length, sym, ap, ◌∙◌, subst, arith}
use Rattle.std.proofs.lemmas.Bool.Decides.{nat_tests}
use Rattle.rpl_core.specs.Core.{Core, Behind, Choice, Call, Then}
use Rattle.rpl_macro.specs.declared.casing.Casing.{Casing}
use Rattle.rpl_syntax.specs.Expression as X
use Rattle.rpl_syntax.specs.View.{expr_of, exprs_all}
use Rattle.rpl_syntax.proofs.Rows.{cooked_view, raw_view, choice_view}
use Rattle.rpl_forms.specs.Counting.{Adds, Counts, seen, seen_all}
use Rattle.rpl_forms.specs.declared.size.Count.{Count}
use Rattle.rpl_expand.specs.inside.Items.{between}
use Rattle.rpl_expand.specs.Expansion.{Scope, core, cores, spaced, is_cooked, signed_by}
use Rattle.rpl_forms.specs.Forms.{seq_of, repeated}
use Rattle.rpl_forms.specs.Inlining.{Inners, inlined}
use Rattle.rpl_expand.specs.inside.Scopes.{scope_seen}
use Rattle.rpl_expand.proofs.Parts.{parts, items, raw_more, cooked_more, parts_seen, items_seen, none_left}
use Rattle.rpl_expand.proofs.Parts.{none_spaced}
use Rattle.rpl_forms.proofs.Counted.{adds_done}
use Rattle.rpl_forms.proofs.Seen.{seen_seq, seen_choice, seen_text, seen_both, seen_repeated}
use Rattle.rpl_expand.proofs.measure.+measure.Goals.{measure_cooked-in_default-via-then-items-lt1}
use Rattle.rpl_expand.proofs.measure.+measure.Goals.{measure_cooked-in_default-via-else-items-lt1+else-items-lt2}
use Rattle.rpl_expand.proofs.measure.+measure.Goals.{measure_raw-in_default-via-then-items-lt1}
use Rattle.rpl_expand.proofs.measure.+measure.Goals.{measure_raw-in_default-via-else-items-lt1+else-items-lt2}
use Rattle.rpl_expand.proofs.measure.+measure.Goals as goal

pub measure-returns-in-Text : goal.measure-returns-in-Text
measure-returns-in-Text t c = λ k I h.
    let b = c.args.around.now.in_lookbehind in
    let s = scope_seen c.args.around.now.scope.now I in
    let long = sym (c.characters.ensures ∙ ap length c.as_str.ensures) in
    let same = ap (λ e. seen b I (core k s (expr_of e))) c.in-Text.is ∙ seen_text b I k c.in-Text.chars in
    subst (Counts c.text.result) (sym same) (c.text.ensures k c.in-Text.chars long)

pub measure-returns-in-Cooked : goal.measure-returns-in-Cooked
measure-returns-in-Cooked t c = λ k I h.
    let b = c.args.around.now.in_lookbehind in
    let s = scope_seen c.args.around.now.scope.now I in
    let view = ap expr_of c.in-Cooked.is ∙ cooked_view c.in-Cooked.items in
    let same = ap (λ e. seen b I (core k s e)) view
    ∙ ap (λ l. seen b I (seq_of (spaced k s (exprs_all l)))) (sym c.as_slice.ensures) in
    subst (Counts c.measure_cooked.result) (sym same) (c.measure_cooked.ensures k I h)

pub measure-returns-in-Raw : goal.measure-returns-in-Raw
measure-returns-in-Raw t c = λ k I h.
    let b = c.args.around.now.in_lookbehind in
    let s = scope_seen c.args.around.now.scope.now I in
    let view = ap expr_of c.in-Raw.is ∙ raw_view c.in-Raw.items in
    let same = ap (λ e. seen b I (core k s e)) view
    ∙ ap (λ l. seen b I (seq_of (cores k s (exprs_all l)))) (sym c.as_slice-in-Raw.ensures) in
    subst (Counts c.measure_raw.result) (sym same) (c.measure_raw.ensures k I h)

pub measure-returns-in-Choice : goal.measure-returns-in-Choice
measure-returns-in-Choice t c = λ k I h.
    let b = c.args.around.now.in_lookbehind in
    let s = scope_seen c.args.around.now.scope.now I in
    let view = ap expr_of c.in-Choice.is ∙ choice_view c.in-Choice.parts in
    let same = ap (λ e. seen b I (core k s e)) view
    ∙ ap (λ l. seen b I (Choice (cores k s (exprs_all l)))) (sym c.as_slice-in-Choice.ensures)
    ∙ seen_choice b I _ in
    subst (Counts c.node.result) (sym same) (c.node.ensures.choice _ (c.measure_all.ensures k I h))

pub measure-returns-in-Both : goal.measure-returns-in-Both
measure-returns-in-Both t c = λ k I h.
    let b = c.args.around.now.in_lookbehind in
    let s = scope_seen c.args.around.now.scope.now I in
    let p = core k s (expr_of c.in-Both.first.value) in
    let q = core k s (expr_of c.in-Both.second.value) in
    let one = subst (λ e. Counts c.measure.result (seen b I (core k s (expr_of e)))) c.deref.ensures
    (c.measure.ensures k I h) in
    let two = subst (λ e. Counts c.measure-last.result (seen b I (core k s (expr_of e)))) c.deref-in-Both.ensures
    (c.measure-last.ensures k I h) in
    let same = ap (λ e. seen b I (core k s (expr_of e))) c.in-Both.is ∙ seen_both b I p q in
    subst (Counts c.pair.result) (sym same) (c.pair.ensures _ _ (c.node-before.ensures.and _ one) two)

-- a look-behind, whatever its lengths are, in a look-behind or not
counts_behind : (b t : Bool) (I : Inners) (l m : ℕ) (p : Core) (n : Count)
    → ((l m : ℕ) → Counts n (Behind l m p)) → Counts n (seen b I (if t then Behind 0 0 p else Behind l m p))
counts_behind true true I l m p n h = h 0 0
counts_behind true false I l m p n h = h l m
counts_behind false true I l m p n h = h 0 0
counts_behind false false I l m p n h = h l m

pub measure-returns-in-Behind : goal.measure-returns-in-Behind
measure-returns-in-Behind t c = λ k I h.
    let b = c.args.around.now.in_lookbehind in
    let s = scope_seen c.args.around.now.scope.now I in
    let p = core k s (expr_of c.in-Prefix.item.value) in
    let of = subst (λ e. Counts c.measure-in-Behind.result (inlined I (core k s (expr_of e))))
    c.deref-in-Behind.ensures (c.measure-in-Behind.ensures k I h) in
    let same = ap (λ e. seen b I (core k s (expr_of e))) c.in-Prefix.is
    ∙ ap (λ x. seen b I (signed_by I x p)) c.in-Behind.is in
    subst (Counts c.node-in-Behind.result) (sym same)
    (counts_behind b _ I _ _ (inlined I p) c.node-in-Behind.result
    (λ l m. c.node-in-Behind.ensures.behind (inlined I p) l m of))

-- a repetition, where it is known whether its body is cooked
repeat_seen : (b : Bool) (I : Inners) (k : Casing) (s : Scope) (body : X.Expr) (least : ℕ) (most : Option ℕ) (cooked :
    Bool)
    → is_cooked body ≡ cooked
    → seen b I (core k s (X.Repeat body least most))
    ≡ repeated cooked (seen b I (Call s.boundary)) (seen b I (core k s body)) least most
repeat_seen b I k s body least most cooked test =
    let p = core k s body in
    seen_repeated b I (is_cooked body) (Call s.boundary) p least most
    ∙ ap (λ x. repeated x (seen b I (Call s.boundary)) (seen b I p) least most) test

pub measure-returns-then-is_cooked : goal.measure-returns-then-is_cooked
measure-returns-then-is_cooked t c = λ k I h.
    let s = scope_seen c.args.around.now.scope.now I in
    let r = c.in-Repeat in
    let of = subst (λ e. Counts c.measure-of.result (seen c.args.around.now.in_lookbehind I (core k s (expr_of e))))
    c.deref-in-Repeat.ensures (c.measure-of.ensures k I h) in
    let test = ap (λ e. is_cooked (expr_of e)) (sym c.deref-in-Repeat-2.ensures) ∙ sym c.is_cooked.ensures in
    let same = ap (λ e. seen c.args.around.now.in_lookbehind I (core k s (expr_of e))) r.is
    ∙ repeat_seen c.args.around.now.in_lookbehind I k s (expr_of r.body.value) r.least r.most true (test
    ∙ c.if-is_cooked.true) in
    subst (Counts c.cooked_repeat.result) (sym same)
    (c.cooked_repeat.ensures _ _ (c.call-boundary.ensures I h) of)

pub measure-returns-else-is_cooked : goal.measure-returns-else-is_cooked
measure-returns-else-is_cooked t c = λ k I h.
    let b = c.args.around.now.in_lookbehind in
    let s = scope_seen c.args.around.now.scope.now I in
    let r = c.in-Repeat in
    let not_cooked =
    ap (λ e. is_cooked (expr_of e)) (sym c.deref-in-Repeat-2.ensures) ∙ sym c.is_cooked.ensures
    ∙ c.if-is_cooked.false in
    let same = ap (λ e. seen b I (core k s (expr_of e))) r.is
    ∙ repeat_seen b I k s (expr_of r.body.value) r.least r.most false not_cooked in
    subst (Counts c.repeat.result) (sym same) (c.repeat.ensures _
    (subst (λ e. Counts c.measure-of.result (seen b I (core k s (expr_of e)))) c.deref-in-Repeat.ensures
    (c.measure-of.ensures k I h)))

pub measure_cooked-returns-in_default : goal.measure_cooked-returns-in_default
measure_cooked-returns-in_default t c = λ k I h.
    let b = c.args.around.now.in_lookbehind in
    let s = scope_seen c.args.around.now.scope.now I in
    let es = c.args.items.now in
    let many : length es ≢ 1 =
    elim c.in_default.branch [
      | measure_cooked-in_default-via-then-items-lt1 w ↦ grind (arith, nat_tests)
      | measure_cooked-in_default-via-else-items-lt1+else-items-lt2 w ↦ grind (arith, nat_tests)
    ] in
    let same = ap (seen b I) (cooked_more k s es many) ∙ seen_seq b I (items k s es) in
    subst (Counts c.node.result) (sym same) (c.node.ensures.seq _ (c.measure_spaced-all.ensures k I h))

pub measure_raw-returns-in_default : goal.measure_raw-returns-in_default
measure_raw-returns-in_default t c = λ k I h.
    let b = c.args.around.now.in_lookbehind in
    let s = scope_seen c.args.around.now.scope.now I in
    let es = c.args.items.now in
    let many : length es ≢ 1 =
    elim c.in_default.branch [
      | measure_raw-in_default-via-then-items-lt1 w ↦ grind (arith, nat_tests)
      | measure_raw-in_default-via-else-items-lt1+else-items-lt2 w ↦ grind (arith, nat_tests)
    ] in
    let same = ap (seen b I) (raw_more k s es many) ∙ seen_seq b I (parts k s es) in
    subst (Counts c.node.result) (sym same) (c.node.ensures.seq _ (c.measure_all-all.ensures k I h))

pub measure_all-returns : goal.measure_all-returns
measure_all-returns t c = λ k I h.
    adds_done _ _ _ (none_left c.args.around.now.in_lookbehind I k (scope_seen c.args.around.now.scope.now I)
    c.args.parts.now
    c.loop-part.part-index c.loop-part-test.false) (c.loop-part.invariant k I h)

pub measure_all-loop-part-preserved : goal.measure_all-loop-part-preserved
measure_all-loop-part-preserved t c = λ k I h.
    let b = c.args.around.now.in_lookbehind in
    let s = scope_seen c.args.around.now.scope.now I in
    let es = c.args.parts.now in
    let i = c.loop-part.part-index in
    let e = c.part-item.result in
    let p = seen b I (core k s (expr_of e)) in
    let rest = seen_all b I (parts k s (drop (i + 1) es)) in
    let whole = seen_all b I (parts k s es) in
    let here = parts_seen b I k s es i e c.loop-part-test.true c.part-item.is in
    c.add-sum.ensures p rest whole (c.measure.ensures k I h)
    (subst (λ r. Adds c.loop-part.sum r whole) here (c.loop-part.invariant k I h))

pub measure_spaced-returns : goal.measure_spaced-returns
measure_spaced-returns t c = λ k I h.
    adds_done _ _ _ (none_spaced c.args.around.now.in_lookbehind I k (scope_seen c.args.around.now.scope.now I)
    c.args.items.now
    c.loop-number.number c.loop-number-test.false) (c.loop-number.invariant k I h)

pub measure_spaced-loop-number-preserved : goal.measure_spaced-loop-number-preserved
measure_spaced-loop-number-preserved t c = λ k I h.
    let b = c.args.around.now.in_lookbehind in
    let s = scope_seen c.args.around.now.scope.now I in
    let es = c.args.items.now in
    let i = c.loop-number.number in
    let e = c.index-items-number.result in
    let p = seen b I (core k s (expr_of e)) in
    let q = seen b I (Call s.boundary) in
    let rest = seen_all b I (items k s (drop (i + 1) es)) in
    let whole = seen_all b I (items k s es) in
    let here = items_seen b I k s es i e c.loop-number-test.true c.index-items-number.is
    ∙ ap (λ a. Then p (between a q rest)) (sym c.stands_alone.ensures) in
    c.add_item-sum.ensures p q rest whole (c.measure-item.ensures k I h) (c.call-boundary.ensures I h)
    (subst (λ r. Adds c.loop-number.sum r whole) here (c.loop-number.invariant k I h))
