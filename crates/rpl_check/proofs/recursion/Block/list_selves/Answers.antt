use Rattle.std.proofs.Common.{sym, ap, ◌∙◌, ◌++◌, ◌∷◌, ◌-◌, ◌+◌, [], append_assoc, arith}
use Rattle.rpl_check.specs.Blocks.{selves}
use Rattle.rpl_check.proofs.Selves.{self_hit, self_miss}
use Rattle.rpl_check.proofs.recursion.Block.list_selves.Goals.{then-branch+in_ok-push, else-branch}
use Rattle.rpl_check.proofs.recursion.Block.list_selves.Goals as goal

pub loop-number-preserved : goal.loop-number-preserved
loop-number-preserved c =
    let r = c.loop-number.number in
    let e = c.args.self.now.end in
    let l = c.loop-number.list.items in
    elim c.if-branch.branch [
      | then-branch+in_ok-push w ↦ (
        omega arith,
        λ reach all.
            let rest = selves reach (r + 1) (e - (r + 1)) in
            c.loop-number.invariant.1 reach all
            ∙ ap (λ x. l ++ x) (self_hit reach r e c.loop-number-test.true
            (sym (c.in_ok-is_left_recursive.ensures reach all) ∙ w.if-branch.true))
            ∙ sym (append_assoc l (r ∷ []) rest)
            ∙ ap (λ y. y ++ rest) (sym (ap (λ v. v.items) w.list-is ∙ w.in_ok-push.ensures.items)),
      )
      | else-branch w ↦ (
        omega arith,
        λ reach all.
            let rest = selves reach (r + 1) (e - (r + 1)) in
            c.loop-number.invariant.1 reach all
            ∙ ap (λ x. l ++ x) (self_miss reach r e c.loop-number-test.true
            (sym (c.in_ok-is_left_recursive.ensures reach all) ∙ w.if-branch.false))
            ∙ ap (λ y. y ++ rest) (sym (ap (λ v. v.items) w.list-is)),
      )
    ]
