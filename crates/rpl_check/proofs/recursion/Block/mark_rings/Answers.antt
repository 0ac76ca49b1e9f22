use Rattle.std.proofs.Common.{◌≡◌, ◌∙◌, length, sym, subst, arith}
use Rattle.rpl_check.specs.inside.Rings.{AreAbove, AreBelow}
use Rattle.rpl_check.specs.inside.Within.{table_of, empty_in}
use Rattle.rpl_check.proofs.Rings.{taken}
use Rattle.rpl_check.proofs.recursion.Block.mark_rings.Goals as goal

pub mark_both-requires-clause-below : goal.mark_both-requires-clause-below
mark_both-requires-clause-below c =
    let R = table_of c.args.self.now in
    let m = empty_in c.args.self.now in
    let a = c.args.self.now.start in
    let new = c.mark_all_below.new.below in
    let long : c.in_ok-below.below.len ≡ length new =
    omega (arith, c.in_ok-below.ensures.len, c.in_ok-mark_all_below.ensures.long) in
    subst (λ roots. AreBelow R m a roots c.deref-6.result.now) (c.deref.ensures.value
    ∙ sym c.deref-5.ensures.value)
    (subst (AreBelow R m a c.deref.result.now) (taken c.in_ok-below.below.len new _ long
    ∙ sym c.deref-6.ensures.value) c.in_ok-mark_all_below.ensures.below)

pub mark_both-requires-clause-above : goal.mark_both-requires-clause-above
mark_both-requires-clause-above c =
    let R = table_of c.args.self.now in
    let m = empty_in c.args.self.now in
    let a = c.args.self.now.start in
    let new = c.mark_all_above.new.above in
    let long : c.in_ok-above.above.len ≡ length new =
    omega (arith, c.in_ok-above.ensures.len, c.in_ok-mark_all_above.ensures.long) in
    subst (λ roots. AreAbove R m a roots c.deref-7.result.now) (c.deref-3.ensures.value
    ∙ sym c.deref-5.ensures.value)
    (subst (AreAbove R m a c.deref-3.result.now) (taken c.in_ok-above.above.len new _ long
    ∙ sym c.deref-7.ensures.value) c.in_ok-mark_all_above.ensures.above)
