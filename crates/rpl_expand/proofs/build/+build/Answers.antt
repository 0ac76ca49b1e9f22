use Rattle.std.proofs.Common.{◌≡◌, ◌≢◌, ℕ, length, sym, ap, ap₂, ◌∙◌, subst, arith}
use Rattle.std.specs.Prelude.{Bool, true, false, IfOk, Option, Some}
use Rattle.std.proofs.lemmas.Bool.Decides.{nat_tests}
use Rattle.std.proofs.lemmas.Result.{IfOk-weaker}
use Rattle.rpl_core.specs.Core as C
use Rattle.rpl_core.specs.Listed.{rules_of}
use Rattle.rpl_core.specs.View.{core_of, cores, listed}
use Rattle.rpl_syntax.specs.Expression.{Expr}
use Rattle.rpl_syntax.specs.View.{expr_of, exprs_all}
use Rattle.rpl_syntax.proofs.Rows.{cooked_view, raw_view, choice_view}
use Rattle.rpl_forms.specs.Counting.{seen, seen_all}
use Rattle.rpl_forms.specs.Forms as F
use Rattle.rpl_forms.specs.Rows.{inners_of}
use Rattle.rpl_forms.proofs.Seen.{seen_text, seen_seq, seen_choice, seen_repeated}
use Rattle.rpl_expand.specs.Expansion.{core, is_cooked, spaced}
use Rattle.rpl_expand.specs.Expansion as E
use Rattle.rpl_expand.specs.inside.Bases.{base_inners, base_scope, core_at, shown}
use Rattle.rpl_expand.specs.inside.Items.{between}
use Rattle.rpl_expand.specs.declared.base.Base.{Base}
use Rattle.rpl_expand.specs.declared.mode.Mode.{Mode}
use Rattle.rpl_expand.specs.inside.Scopes.{scope_seen}
use Rattle.rpl_expand.proofs.Parts as P
use Rattle.rpl_expand.proofs.Places.{seen_set, seen_start, seen_end}
use Rattle.rpl_expand.proofs.build.+build.Goals.{build_cooked-in_default-via-then-items-lt1}
use Rattle.rpl_expand.proofs.build.+build.Goals.{build_cooked-in_default-via-else-items-lt1+else-items-lt2}
use Rattle.rpl_expand.proofs.build.+build.Goals.{build_raw-in_default-via-then-items-lt1}
use Rattle.rpl_expand.proofs.build.+build.Goals.{build_raw-in_default-via-else-items-lt1+else-items-lt2}
use Rattle.rpl_expand.proofs.build.+build.Goals as goal

pub build-returns-in-Text : goal.build-returns-in-Text
build-returns-in-Text t c =
    let b = c.args.mode.in_lookbehind in
    let k = c.args.mode.casing in
    let I = inners_of (rules_of c.args.base.now.rules.now) in
    let s = scope_seen c.args.base.now.scope I in
    let same = ap (F.text_core k) c.as_str.ensures
    ∙ sym (ap (λ e. seen b I (core k s (expr_of e))) c.in-Text.is ∙ seen_text b I k c.in-Text.chars) in
    subst (λ q. IfOk c.text.result (λ p. core_of p ≡ q)) same c.text.ensures

pub build-returns-in-Class : goal.build-returns-in-Class
build-returns-in-Class t c =
    let b = c.args.mode.in_lookbehind in
    let k = c.args.mode.casing in
    let I = inners_of (rules_of c.args.base.now.rules.now) in
    let s = scope_seen c.args.base.now.scope I in
    let same = sym (ap (λ e. seen b I (core k s (expr_of e))) c.in-Class.is ∙ seen_set b I _) in
    subst (λ q. IfOk c.class.result (λ p. core_of p ≡ q)) same c.class.ensures

pub build-returns-in-Any : goal.build-returns-in-Any
build-returns-in-Any t c =
    let b = c.args.mode.in_lookbehind in
    let k = c.args.mode.casing in
    let I = inners_of (rules_of c.args.base.now.rules.now) in
    let s = scope_seen c.args.base.now.scope I in
    let same = sym (ap (λ e. seen b I (core k s (expr_of e))) c.in-Any.is ∙ seen_set b I F.any) in
    subst (λ q. IfOk c.any.result (λ p. core_of p ≡ q)) same c.any.ensures

pub build-returns-in-Start : goal.build-returns-in-Start
build-returns-in-Start t c =
    let b = c.args.mode.in_lookbehind in
    let k = c.args.mode.casing in
    let I = inners_of (rules_of c.args.base.now.rules.now) in
    let s = scope_seen c.args.base.now.scope I in
    sym (ap (λ e. seen b I (core k s (expr_of e))) c.in-Start.is ∙ seen_start b I)

pub build-returns-in-End : goal.build-returns-in-End
build-returns-in-End t c =
    let b = c.args.mode.in_lookbehind in
    let k = c.args.mode.casing in
    let I = inners_of (rules_of c.args.base.now.rules.now) in
    let s = scope_seen c.args.base.now.scope I in
    sym (ap (λ e. seen b I (core k s (expr_of e))) c.in-End.is ∙ seen_end b I)

pub build-returns-in-Cooked : goal.build-returns-in-Cooked
build-returns-in-Cooked t c =
    let b = c.args.mode.in_lookbehind in
    let k = c.args.mode.casing in
    let I = inners_of (rules_of c.args.base.now.rules.now) in
    let s = scope_seen c.args.base.now.scope I in
    let view = ap expr_of c.in-Cooked.is ∙ cooked_view c.in-Cooked.items in
    let same = ap (λ e. seen b I (core k s e)) view
    ∙ ap (λ l. seen b I (F.seq_of (spaced k s (exprs_all l)))) (sym c.as_slice.ensures) in
    subst (λ q. IfOk c.build_cooked.result (λ p. core_of p ≡ q)) (sym same) c.build_cooked.ensures

pub build-returns-in-Raw : goal.build-returns-in-Raw
build-returns-in-Raw t c =
    let b = c.args.mode.in_lookbehind in
    let k = c.args.mode.casing in
    let I = inners_of (rules_of c.args.base.now.rules.now) in
    let s = scope_seen c.args.base.now.scope I in
    let view = ap expr_of c.in-Raw.is ∙ raw_view c.in-Raw.items in
    let same = ap (λ e. seen b I (core k s e)) view
    ∙ ap (λ l. seen b I (F.seq_of (E.cores k s (exprs_all l)))) (sym c.as_slice-in-Raw.ensures) in
    subst (λ q. IfOk c.build_raw.result (λ p. core_of p ≡ q)) (sym same) c.build_raw.ensures

pub build-returns-in_ok-parts-in-Choice : goal.build-returns-in_ok-parts-in-Choice
build-returns-in_ok-parts-in-Choice t c =
    let b = c.args.mode.in_lookbehind in
    let k = c.args.mode.casing in
    let I = inners_of (rules_of c.args.base.now.rules.now) in
    let s = scope_seen c.args.base.now.scope I in
    let view = ap expr_of c.in-Choice.is ∙ choice_view c.in-Choice.parts in
    let same = ap (λ e. seen b I (core k s e)) view
    ∙ ap (λ l. seen b I (C.Choice (E.cores k s (exprs_all l)))) (sym c.as_slice-in-Choice.ensures)
    ∙ seen_choice b I _ in
    c.choice.ensures ∙ ap C.Choice c.in_ok-parts-in-Choice.ensures ∙ sym same

pub build_raw-returns-in_ok-parts-in_default : goal.build_raw-returns-in_ok-parts-in_default
build_raw-returns-in_ok-parts-in_default t c =
    let mode = c.args.mode in
    let base = c.args.base.now in
    let es = c.args.items.now in
    let many : length es ≢ 1 =
    elim c.in_default.branch [
      | build_raw-in_default-via-then-items-lt1 w ↦ grind (arith, nat_tests)
      | build_raw-in_default-via-else-items-lt1+else-items-lt2 w ↦ grind (arith, nat_tests)
    ] in
    c.seq.ensures ∙ ap C.Seq c.in_ok-parts-in_default.ensures
    ∙ sym (ap (shown base mode.in_lookbehind) (P.raw_more mode.casing (base_scope base) es many)
    ∙ seen_seq mode.in_lookbehind (base_inners base) (P.parts mode.casing (base_scope base) es))

pub build_cooked-returns-in_ok-parts-in_default : goal.build_cooked-returns-in_ok-parts-in_default
build_cooked-returns-in_ok-parts-in_default t c =
    let k = c.args.mode.casing in
    let b = c.args.base.now in
    let es = c.args.items.now in
    let many : length es ≢ 1 =
    elim c.in_default.branch [
      | build_cooked-in_default-via-then-items-lt1 w ↦ grind (arith, nat_tests)
      | build_cooked-in_default-via-else-items-lt1+else-items-lt2 w ↦ grind (arith, nat_tests)
    ] in
    c.seq.ensures ∙ ap C.Seq c.in_ok-parts-in_default.ensures
    ∙ sym (ap (shown b c.args.mode.in_lookbehind) (P.cooked_more k (base_scope b) es many)
    ∙ seen_seq c.args.mode.in_lookbehind (base_inners b) (P.items k (base_scope b) es))

pub build_all-loop-item-preserved : goal.build_all-loop-item-preserved
build_all-loop-item-preserved t c =
    let b = c.args.mode.in_lookbehind in
    let k = c.args.mode.casing in
    let I = inners_of (rules_of c.args.base.now.rules.now) in
    let s = scope_seen c.args.base.now.scope I in
    let es = c.args.items.now in
    let old = cores (listed c.loop-item.parts) in
    let made = c.in_ok-append.ensures ∙ ap (λ q. F.joined old (C.Then q C.NoMore)) c.in_ok-part.ensures in
    P.parts_turn b I k s es c.loop-item.item-index c.item-item.result old _ (seen_all b I (P.parts k s es))
    c.loop-item-test.true c.item-item.is made c.loop-item.invariant

pub build_all-returns : goal.build_all-returns
build_all-returns t c =
    let b = c.args.mode.in_lookbehind in
    let k = c.args.mode.casing in
    let I = inners_of (rules_of c.args.base.now.rules.now) in
    let s = scope_seen c.args.base.now.scope I in
    let es = c.args.items.now in
    P.all_made (cores (listed c.loop-item.parts)) _ _
    (P.none_left b I k s es c.loop-item.item-index c.loop-item-test.false) c.loop-item.invariant

pub build_spaced-loop-number-preserved : goal.build_spaced-loop-number-preserved
build_spaced-loop-number-preserved t c =
    let b = c.args.mode.in_lookbehind in
    let k = c.args.mode.casing in
    let I = inners_of (rules_of c.args.base.now.rules.now) in
    let s = scope_seen c.args.base.now.scope I in
    let es = c.args.items.now in
    let i = c.loop-number.number in
    let q = seen b I (C.Call s.boundary) in
    let old = cores (listed c.loop-number.parts) in
    let made = c.in_ok-append_item.ensures
    ∙ ap₂ (λ p o. F.joined old (C.Then p o)) c.in_ok-part.ensures c.in_ok-behind.ensures
    ∙ ap (λ a. F.joined old (C.Then (seen b I (core k s (expr_of c.index-items-number.result)))
    (between a q C.NoMore))) c.stands_alone-alone.ensures in
    P.items_turn b I k s es i c.index-items-number.result old _ (seen_all b I (P.items k s es))
    c.loop-number-test.true c.index-items-number.is made c.loop-number.invariant

pub build_spaced-returns : goal.build_spaced-returns
build_spaced-returns t c =
    let b = c.args.mode.in_lookbehind in
    let k = c.args.mode.casing in
    let I = inners_of (rules_of c.args.base.now.rules.now) in
    let s = scope_seen c.args.base.now.scope I in
    let es = c.args.items.now in
    P.all_made (cores (listed c.loop-number.parts)) _ _
    (P.none_spaced b I k s es c.loop-number.number c.loop-number-test.false) c.loop-number.invariant

-- a repetition there, where it is known whether its body is cooked
repeat_at : (base : Base) (mode : Mode) (body : Expr) (l : ℕ) (m : Option ℕ) (cooked : Bool) → is_cooked body ≡ cooked
    → shown base mode.in_lookbehind
    (F.repeated (is_cooked body) (C.Call base.scope.boundary) (core mode.casing (base_scope base) body) l m)
    ≡ F.repeated cooked (shown base mode.in_lookbehind (C.Call base.scope.boundary)) (core_at base mode body) l m
repeat_at base mode body l m cooked test =
    let q = C.Call base.scope.boundary in
    seen_repeated mode.in_lookbehind (base_inners base) (is_cooked body) q (core mode.casing (base_scope base) body) l m
    ∙ ap (λ x. F.repeated x (shown base mode.in_lookbehind q) (core_at base mode body) l m) test

pub build_repeat-returns-then-not-is_cooked : goal.build_repeat-returns-then-not-is_cooked
build_repeat-returns-then-not-is_cooked t c =
    let l = c.args.turns.least in
    let m = c.args.turns.most in
    let test = sym c.is_cooked.ensures ∙ c.if-not-is_cooked.true in
    let same = repeat_at c.args.base.now c.args.mode (expr_of c.args.body.now) l m false test in
    subst (λ w. IfOk c.repeat.result (λ r. core_of r ≡ w)) (ap (λ x. F.repeat x l m) c.in_ok-turn.ensures ∙ sym same)
    c.repeat.ensures

pub build_repeat-returns-then-is_once : goal.build_repeat-returns-then-is_once
build_repeat-returns-then-is_once t c =
    let base = c.args.base.now in
    let body = expr_of c.args.body.now in
    let l = c.args.turns.least in
    let q = shown base c.args.mode.in_lookbehind (C.Call base.scope.boundary) in
    let test = sym c.is_cooked.ensures ∙ c.if-not-is_cooked.false in
    let most : c.args.turns.most ≡ Some 1 = c.is_once.ensures.most c.if-is_once.true in
    let same = repeat_at base c.args.mode body l c.args.turns.most true test
    ∙ ap (λ n. F.repeated true q (core_at base c.args.mode body) l n) most in
    IfOk-weaker c.cooked_once.result _ _ (λ r e. e q
    ∙ ap (λ x. F.cooked_bounded q x l 1) c.in_ok-turn.ensures ∙ sym same) c.cooked_once.ensures

pub build_repeat-returns : goal.build_repeat-returns
build_repeat-returns t c =
    let l = c.args.turns.least in
    let m = c.args.turns.most in
    let test = sym c.is_cooked.ensures ∙ c.if-not-is_cooked.false in
    let same = repeat_at c.args.base.now c.args.mode (expr_of c.args.body.now) l m true test in
    subst (λ w. IfOk c.cooked_repeat.result (λ r. core_of r ≡ w))
    (ap₂ (λ x y. F.cooked_repeat x y l m) c.in_ok-boundary.ensures c.in_ok-turn.ensures ∙ sym same)
    c.cooked_repeat.ensures
