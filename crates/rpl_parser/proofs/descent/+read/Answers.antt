use Rattle.std.proofs.Common.{◌≡◌, ◌≢◌, suc, ◌+◌, ◌-◌, length, Some, sym, ap, ◌∙◌, subst, arith}
use Rattle.std.specs.Prelude.{true, false}
use Rattle.std.proofs.lemmas.Bool.Decides.{nat_tests}
use Rattle.std.proofs.lemmas.Result.{err_from_is_err_and}
use Rattle.rpl_syntax.specs.Reading.{item_of, items_of, parts_of, read_item, read_exp, seq_of, joins, begins}
use Rattle.rpl_syntax.specs.Expression as M
use Rattle.rpl_syntax.specs.View.{shown, expr_of, exprs_all}
use Rattle.rpl_parser.specs.inside.Gives.{Gives}
use Rattle.rpl_parser.proofs.Readings.{item_is, exp_is, not_joined, content_some, content_none, fails_by, some_is}
use Rattle.rpl_parser.proofs.Loops.{with_front, front_none, seq_step, seq_last, choice_step, choice_last, choice_both}
use Rattle.rpl_parser.proofs.Loops.{choice_none}
use Rattle.rpl_parser.proofs.descent.+read.Goals as goal

pub item-returns-in-Some : goal.item-returns-in-Some
item-returns-in-Some t c =
    let h : c.args.depth ≢ 0 = grind (arith, nat_tests) in
    let e = item_is c.args.depth c.args.tokens.now h
    ∙ ap (item_of (read_item (c.args.depth - 1)) (read_exp (c.args.depth - 1))) c.in-Some.ensures.some in
    subst (λ o. Gives (λ x. (expr_of x.0, x.1.now)) c.item_from.result o) (sym e) c.item_from.ensures

pub sequence-loop-preserved : goal.sequence-loop-preserved
sequence-loop-preserved t c =
    let item = read_item c.args.depth in
    let n = length c.args.tokens.now - c.loop.counter in
    let m = length c.args.tokens.now - (c.loop.counter + 1) in
    let e : n ≡ suc m = omega arith in
    let h : begins c.in_ok-next.after.now ≡ true = sym c.item_begins.ensures ∙ c.if-not-item_begins.false in
    subst (λ f. with_front f (items_of m item c.in_ok-next.after.now) ≡ seq_of item c.args.tokens.now)
    (sym c.in_ok-push.ensures.ok)
    (sym (seq_step c.loop.items.items.items item n m c.loop.rest.now c.in_ok-next.next c.in_ok-next.after.now e
    c.in_ok-next.ensures h) ∙ c.loop.invariant)

pub sequence-returns-then-not-item_begins : goal.sequence-returns-then-not-item_begins
sequence-returns-then-not-item_begins t c =
    let item = read_item c.args.depth in
    let n = length c.args.tokens.now - c.loop.counter in
    let m = length c.args.tokens.now - (c.loop.counter + 1) in
    let e : n ≡ suc m = omega arith in
    let h : begins c.in_ok-next.after.now ≡ false = sym c.item_begins.ensures ∙ c.if-not-item_begins.true in
    subst (λ f. seq_of item c.args.tokens.now ≡ Some (exprs_all f, c.in_ok-next.after.now))
    (sym c.in_ok-push.ensures.ok)
    (sym c.loop.invariant
    ∙ seq_last c.loop.items.items.items item n m c.loop.rest.now c.in_ok-next.next c.in_ok-next.after.now e
    c.in_ok-next.ensures h)

pub choice-loop-init : goal.choice-loop-init
choice-loop-init t c =
    let raw = c.args.raw in
    let seq = seq_of (read_item c.args.depth) in
    let exp = read_exp c.args.depth raw in
    let xs = shown c.args.first in
    let s = c.args.tokens.now in
    let e : length s + 1 - 0 ≡ suc (length s) = omega arith in
    subst (λ f. with_front f (parts_of (length s + 1 - 0) raw seq exp xs s)
    ≡ parts_of (suc (length s)) raw seq exp xs s) (sym c.new-parts.ensures)
    (front_none (parts_of (length s + 1 - 0) raw seq exp xs s) ∙ ap (λ n. parts_of n raw seq exp xs s) e)

pub choice-loop-preserved : goal.choice-loop-preserved
choice-loop-preserved t c =
    choice_step c.args.depth c.args.raw (length c.args.tokens.now) c.loop.counter (omega arith) c.loop.parts.items.items
    (shown c.loop.items) c.loop.rest.now _ c.loop.invariant
    _ c.join.result (shown c.in_ok-next-in-Some.next) c.in-Some.after.now c.in_ok-next-in-Some.after.now
    c.in_ok-push-in-Some.ensures.ok c.in-Some.ensures.some c.join.ensures c.in_ok-next-in-Some.ensures

pub choice-returns-in_err-next-in-Some : goal.choice-returns-in_err-next-in-Some
choice-returns-in_err-next-in-Some t c =
    let none = choice_none c.args.depth c.args.raw (length c.args.tokens.now) c.loop.counter (omega arith)
    c.loop.parts.items.items (shown c.loop.items) c.loop.rest.now _ c.loop.invariant in
    let p = err_from_is_err_and c.from_residual-in_err-next-in-Some.result c.from_residual-in_err-next-in-Some.ensures.1
    in
    rw (p.1, p.2) (fails_by c.in_err-next-in-Some.field-0.0 (seq_of (read_item c.args.depth) c.in-Some.after.now) _
    (none c.in-Some.after.now c.in-Some.ensures.some) c.in_err-next-in-Some.ensures)

pub choice-returns-in-Some-past_ampersand : goal.choice-returns-in-Some-past_ampersand
choice-returns-in-Some-past_ampersand t c =
    let raw = c.args.raw in
    let ys = shown c.in_ok-last-in-Some-past_ampersand.last in
    let k = sym (some_is _ _ c.in_ok-both-in-Some-past_ampersand.ensures)
    ∙ (ap (λ y. M.Both y (expr_of c.join-in-Some-past_ampersand-2.result)) c.join-in-Some-past_ampersand.ensures
    ∙ ap (λ y. M.Both (M.joined raw (shown c.loop.items)) y) c.join-in-Some-past_ampersand-2.ensures) in
    choice_both c.args.depth raw (length c.args.tokens.now) c.loop.counter (omega arith) c.loop.parts.items.items
    (shown c.loop.items) c.loop.rest.now _ c.loop.invariant
    _ c.in_ok-both-in-Some-past_ampersand.field-0 ys c.in-Some-past_ampersand.after.now
    c.in_ok-last-in-Some-past_ampersand.after.now c.in_ok-push-in-Some-past_ampersand.ensures.ok
    c.in-Some-past_ampersand.ensures.some k c.in_ok-last-in-Some-past_ampersand.ensures

pub choice-returns-in-None-past_ampersand : goal.choice-returns-in-None-past_ampersand
choice-returns-in-None-past_ampersand t c =
    let j = not_joined c.loop.rest.now c.in-None.ensures.none c.in-None-past_ampersand.ensures.none in
    choice_last c.args.depth c.args.raw (length c.args.tokens.now) c.loop.counter (omega arith) c.loop.parts.items.items
    (shown c.loop.items) c.loop.rest.now _ c.loop.invariant
    _ c.join-in-None-past_ampersand.result c.in_ok-push-in-None-past_ampersand.ensures.ok
    c.join-in-None-past_ampersand.ensures j

pub content-returns-in_err-parts : goal.content-returns-in_err-parts
content-returns-in_err-parts t c =
    let raw = c.args.raw in
    let d = c.args.depth - 1 in
    let h : c.args.depth ≢ 0 = grind (arith, nat_tests) in
    let j : joins c.in_ok-items.rest.now ≡ true = sym c.goes_on.ensures ∙ c.if-not-goes_on.false in
    let p = err_from_is_err_and c.from_residual-in_err-parts.result c.from_residual-in_err-parts.ensures.1 in
    rw (p.1, p.2) (fails_by c.in_err-parts.field-0.0 _ _ (λ k. exp_is c.args.depth raw c.args.tokens.now h
    ∙ content_none raw (seq_of (read_item d)) (read_exp d raw) c.args.tokens.now (shown c.in_ok-items.items)
    c.in_ok-items.rest.now c.in_ok-items.ensures j k) c.in_err-parts.ensures)

pub content-returns : goal.content-returns
content-returns t c =
    let raw = c.args.raw in
    let d = c.args.depth - 1 in
    let h : c.args.depth ≢ 0 = grind (arith, nat_tests) in
    let j : joins c.in_ok-items.rest.now ≡ true = sym c.goes_on.ensures ∙ c.if-not-goes_on.false in
    exp_is c.args.depth raw c.args.tokens.now h
    ∙ content_some raw (seq_of (read_item d)) (read_exp d raw) c.args.tokens.now (shown c.in_ok-items.items)
    c.in_ok-items.rest.now (shown c.in_ok-parts.parts) c.in_ok-parts.rest.now c.in_ok-items.ensures j
    c.in_ok-parts.ensures
    ∙ ap (λ y. Some (y, c.in_ok-parts.rest.now)) (some_is _ _ c.in_ok-alone.ensures)
