use Rattle.std.proofs.Common.{◌≡◌, sym, ap, subst, ◌∙◌, ◌-◌, Some, arith}
use Rattle.std.specs.Prelude.{chars}
use Rattle.rpl_text.specs.Places.{at, index, IsPlace}
use Rattle.rpl_text.proofs.Walks.{index_le, place_at, back_next, back_stop, back_done}
use Rattle.rpl_text.proofs.line.back_in.Goals as goal

pub loop-init : goal.loop-init
loop-init c =
    let t = chars c.args.line.now in
    let z : index t c.args.place ≡ index t c.args.place - 0 = omega arith in
    (sym c.requires ∙ ap (at t) z, omega arith)

pub returns-then-at-eq0 : goal.returns-then-at-eq0
returns-then-at-eq0 c =
    back_stop (chars c.args.line.now) c.args.place c.loop.counter c.args.count c.loop.at c.loop.invariant.0
    c.loop.invariant.1 c.loop-test.true c.if-at-eq0.true

pub before-at-requires-clause-here : goal.before-at-requires-clause-here
before-at-requires-clause-here c =
    let t = chars c.args.line.now in
    let l = index_le t c.args.place in
    subst (IsPlace t) (sym c.loop.invariant.0) (place_at t (index t c.args.place - c.loop.counter) (omega arith))

pub loop-preserved : goal.loop-preserved
loop-preserved c =
    back_next (chars c.args.line.now) c.args.place c.loop.counter c.loop.at c.before-at.result c.loop.invariant.0
    c.loop.invariant.1 c.if-at-eq0.false c.before-at.ensures

pub returns : goal.returns
returns c =
    let t = chars c.args.line.now in
    let n : c.loop.counter ≡ c.args.count = omega (arith, c.loop.auto.counter-end, c.loop-test.false) in
    ap Some (c.loop.invariant.0 ∙ ap (λ k. at t (index t c.args.place - k)) n)
    ∙ back_done t (index t c.args.place) c.args.count (omega (arith, c.loop.invariant.1))
