use Rattle.std.proofs.Common.{◌≡◌, ◌-◌, refl, sym, ap, ◌∙◌, subst, arith}
use Rattle.rpl_forms.specs.Counting.{Counts}
use Rattle.rpl_forms.specs.Forms.{empty, cooked_turns, cooked_bounded}
use Rattle.rpl_forms.proofs.Counted.{bounded_some, bounded_none}
use Rattle.rpl_forms.proofs.count.cooked_bounded.Goals as goal

pub returns : goal.returns
returns c = λ b p f g.
    let zero : c.args.least ≡ 0 = omega arith in
    subst (λ n. Counts c.or_nothing.result (cooked_bounded b p n c.args.most)) (sym zero)
    (subst (Counts c.or_nothing.result) (sym (bounded_none b p c.args.most c.if-most-eq0.false))
    (c.or_nothing.ensures _ (c.cooked_turns-turns.ensures b p f g)))

pub returns-then-least-gt0 : goal.returns-then-least-gt0
returns-then-least-gt0 c = λ b p f g.
    let same =
    bounded_some b p c.args.least c.args.most c.if-least-gt0.true
    ∙ ap (cooked_turns b p (c.args.least - 1)) (sym c.saturating_sub.ensures) in
    subst (Counts c.cooked_turns.result) (sym same) (c.cooked_turns.ensures b p f g)

pub returns-then-most-eq0 : goal.returns-then-most-eq0
returns-then-most-eq0 c = λ b p f g.
    let zero : c.args.least ≡ 0 = omega arith in
    subst (λ n. Counts c.leaf.result (cooked_bounded b p n c.args.most)) (sym zero)
    (subst (λ m. Counts c.leaf.result (cooked_bounded b p 0 m)) (sym c.if-most-eq0.true)
    (c.leaf.ensures empty refl refl))
