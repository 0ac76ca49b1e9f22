use Rattle.std.proofs.Common.{◌≡◌, ◌+◌, ◌-◌, ◌∷◌, suc, length, ap, ◌∙◌, subst, arith}
use Rattle.rpl_encode.proofs.FirstTrees.{IsOn, on_begin, on_finish, on_note, end_found, end_missing}
use Rattle.rpl_encode.proofs.captured.tree_end.Goals as goal

pub returns-then-depth-eq0-clause-some : goal.returns-then-depth-eq0-clause-some
returns-then-depth-eq0-clause-some c =
    let captures = c.args.captures.now in
    let rest = c.loop-capture.rest.now in
    let left = c.in-Some.left.now in
    end_found captures rest left c.in-Finish.place
    (subst (λ d. IsOn captures d rest) c.if-depth-eq0.true c.loop-capture.invariant.1)
    (c.in-Some.ensures.some ∙ ap (λ x. x ∷ left) c.in-Finish.is)

pub loop-capture-preserved-in-Begin : goal.loop-capture-preserved-in-Begin
loop-capture-preserved-in-Begin c =
    let captures = c.args.captures.now in
    let rest = c.loop-capture.rest.now in
    let left = c.in-Some.left.now in
    let e = c.in-Some.ensures.some ∙ ap (λ x. x ∷ left) c.in-Begin.is in
    let long = ap length e in
    let one : suc c.loop-capture.depth ≡ c.loop-capture.depth + 1 = omega arith in (
      omega (arith, long, c.loop-capture.invariant.0),
      subst (λ d. IsOn captures d left) one (on_begin captures rest left c.loop-capture.depth c.in-Begin.label
          c.in-Begin.place c.loop-capture.invariant.1 e),
    )

pub loop-capture-preserved-else-depth-eq0 : goal.loop-capture-preserved-else-depth-eq0
loop-capture-preserved-else-depth-eq0 c =
    let captures = c.args.captures.now in
    let rest = c.loop-capture.rest.now in
    let left = c.in-Some.left.now in
    let e = c.in-Some.ensures.some ∙ ap (λ x. x ∷ left) c.in-Finish.is in
    let long = ap length e in
    let one : c.loop-capture.depth ≡ suc (c.loop-capture.depth - 1) = omega (arith, c.if-depth-eq0.false) in (
      omega (arith, long, c.loop-capture.invariant.0),
      on_finish captures rest left (c.loop-capture.depth - 1) c.in-Finish.place
          (subst (λ d. IsOn captures d rest) one c.loop-capture.invariant.1) e,
    )

pub loop-capture-preserved : goal.loop-capture-preserved
loop-capture-preserved c =
    let captures = c.args.captures.now in
    let rest = c.loop-capture.rest.now in
    let left = c.in-Some.left.now in
    let e = c.in-Some.ensures.some ∙ ap (λ x. x ∷ left) c.in-Note.is in
    let long = ap length e in (
      omega (arith, long, c.loop-capture.invariant.0),
      on_note captures rest left c.loop-capture.depth c.in-Note.text c.in-Note.place c.loop-capture.invariant.1 e,
    )

pub returns-clause-none : goal.returns-clause-none
returns-clause-none c =
    end_missing c.args.captures.now c.loop-capture.rest.now c.loop-capture.depth c.loop-capture.invariant.1
    c.in_default.ensures.none
