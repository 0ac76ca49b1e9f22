use Rattle.std.proofs.Common.{◌≡◌, sym, ap, subst, ◌∙◌, Some, arith}
use Rattle.std.specs.Prelude.{chars}
use Rattle.rpl_text.specs.Places.{at, index, IsPlace, step_from}
use Rattle.rpl_text.proofs.Walks.{at_zero, index_at, place_at, some_step, none_step, get_below, place_stop, place_done}
use Rattle.rpl_text.proofs.line.place_in.Goals as goal

pub loop-init : goal.loop-init
loop-init c = (sym (at_zero (chars c.args.line.now)), omega arith)

pub step_in-requires : goal.step_in-requires
step_in-requires c =
    let t = chars c.args.line.now in
    subst (IsPlace t) (sym c.loop.invariant.0) (place_at t c.loop.counter c.loop.invariant.1)

pub returns-in-None : goal.returns-in-None
returns-in-None c =
    let t = chars c.args.line.now in
    let i = ap (index t) c.loop.invariant.0 ∙ index_at t c.loop.counter c.loop.invariant.1 in
    let e = none_step t c.loop.counter (sym c.in-None.is ∙ c.step_in.ensures ∙ ap (step_from t) i) in
    place_stop t c.args.number (omega (arith, e.1, c.loop-test.true))

pub loop-preserved : goal.loop-preserved
loop-preserved c =
    let t = chars c.args.line.now in
    let i = ap (index t) c.loop.invariant.0 ∙ index_at t c.loop.counter c.loop.invariant.1 in
    let e = some_step t c.loop.counter _ _ (sym c.in-Some.is ∙ c.step_in.ensures ∙ ap (step_from t) i) in
    let b = get_below t c.loop.counter _ e.1 in
    (c.in-Some.next-is ∙ e.0, omega arith)

pub returns : goal.returns
returns c =
    let t = chars c.args.line.now in
    let n : c.loop.counter ≡ c.args.number = omega (arith, c.loop.auto.counter-end, c.loop-test.false) in
    ap Some (c.loop.invariant.0 ∙ ap (at t) n) ∙ place_done t c.args.number (omega (arith, c.loop.invariant.1))
