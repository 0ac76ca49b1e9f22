use Rattle.std.proofs.Common.{◌≡◌, ◌+◌, ◌∙◌, sym, ap, subst, drop}
use Rattle.std.specs.Prelude.{OnOk, IfOk, ◌||◌, ◌&&◌, true, false}
use Rattle.rpl_core.specs.View.{core_of, cores}
use Rattle.rpl_compile_laws.specs.Static.{may_be_empty, all_may_be_empty}
use Rattle.rpl_facts.specs.Facts.{calls_here, front_calls_here, any_calls_here}
use Rattle.rpl_core.specs.Marks.{marked}
use Rattle.rpl_check.specs.inside.Search.{Lists}
use Rattle.rpl_check.proofs.Listing.{lists_none, lists_one, lists_as, lists_then}
use Rattle.rpl_check.proofs.Fronts.{front_on, front_stops, front_over, any_on, any_over, any_empty}
use Rattle.rpl_core.proofs.Walk.{drop_here, seq_core, choice_core}
use Rattle.rpl_check.proofs.recursion.+list.Goals.{list_all_calls-then-any, list_all_calls-else-any}
use Rattle.rpl_check.proofs.recursion.+list.Goals as goal

pub list_calls-returns-in_ok-push-in-Call-clause-lists :
    goal.list_calls-returns-in_ok-push-in-Call-clause-lists
list_calls-returns-in_ok-push-in-Call-clause-lists t c =
    subst (λ e. Lists (calls_here (marked c.args.empties.now) (core_of e)) c.args.list.now.items c.push.new.self.items)
    (sym c.in-Call.is)
    (lists_one c.args.list.now.items c.push.new.self.items c.in-Call.rule c.in_ok-push-in-Call.ensures.items)

pub list_calls-returns-in-Seq-clause-lists : goal.list_calls-returns-in-Seq-clause-lists
list_calls-returns-in-Seq-clause-lists t c =
    let same = seq_core c.args.peg.now c.in-Seq.parts c.as_slice.result.now c.in-Seq.is c.as_slice.ensures in
    subst (λ e. OnOk c.list_front_calls.result (Lists (calls_here (marked c.args.empties.now) e) c.args.list.now.items
    c.list_front_calls.new.list.items)) same c.list_front_calls.ensures.lists

pub list_calls-returns-in-Seq-clause-empty : goal.list_calls-returns-in-Seq-clause-empty
list_calls-returns-in-Seq-clause-empty t c =
    let same = seq_core c.args.peg.now c.in-Seq.parts c.as_slice.result.now c.in-Seq.is c.as_slice.ensures in
    subst (λ e. IfOk c.list_front_calls.result (λ b. b ≡ may_be_empty (marked c.args.empties.now) e)) same
    c.list_front_calls.ensures.empty

pub list_calls-returns-in-Choice-clause-lists : goal.list_calls-returns-in-Choice-clause-lists
list_calls-returns-in-Choice-clause-lists t c =
    let same = choice_core c.args.peg.now c.in-Choice.parts c.as_slice-in-Choice.result.now c.in-Choice.is
    c.as_slice-in-Choice.ensures in
    subst (λ e. OnOk c.list_all_calls.result (Lists (calls_here (marked c.args.empties.now) e) c.args.list.now.items
    c.list_all_calls.new.list.items)) same c.list_all_calls.ensures.lists

pub list_calls-returns-in-Choice-clause-empty : goal.list_calls-returns-in-Choice-clause-empty
list_calls-returns-in-Choice-clause-empty t c =
    let same = choice_core c.args.peg.now c.in-Choice.parts c.as_slice-in-Choice.result.now c.in-Choice.is
    c.as_slice-in-Choice.ensures in
    subst (λ e. IfOk c.list_all_calls.result (λ b. b ≡ may_be_empty (marked c.args.empties.now) e)) same
    c.list_all_calls.ensures.empty

pub list_front_calls-returns-then-not-branch-clause-lists : goal.list_front_calls-returns-then-not-branch-clause-lists
list_front_calls-returns-then-not-branch-clause-lists t c =
    let m = marked c.args.empties.now in
    let ps = c.args.parts.now in
    let k = c.loop-part.part-index in
    let p = c.part-item.result in
    let off = sym c.in_ok-list_calls.ensures.empty ∙ c.if-not-branch.true in
    c.loop-part.invariant.1 c.list_calls.new.list.items
    (lists_as (calls_here m (core_of p)) (front_calls_here m (cores (drop k ps))) c.loop-part.list.items
    c.list_calls.new.list.items c.in_ok-list_calls.ensures.lists
    (front_stops m ps k p c.loop-part-test.true c.part-item.is off))

pub list_front_calls-returns-then-not-branch-clause-empty : goal.list_front_calls-returns-then-not-branch-clause-empty
list_front_calls-returns-then-not-branch-clause-empty t c =
    let m = marked c.args.empties.now in
    let ps = c.args.parts.now in
    let k = c.loop-part.part-index in
    let off = sym c.in_ok-list_calls.ensures.empty ∙ c.if-not-branch.true in
    sym (c.loop-part.invariant.0
    ∙ ap (λ l. all_may_be_empty m (cores l)) (drop_here ps k c.part-item.result c.loop-part-test.true c.part-item.is)
    ∙ ap (λ b. b && all_may_be_empty m (cores (drop (k + 1) ps))) off)

pub list_front_calls-loop-part-preserved : goal.list_front_calls-loop-part-preserved
list_front_calls-loop-part-preserved t c =
    let m = marked c.args.empties.now in
    let ps = c.args.parts.now in
    let k = c.loop-part.part-index in
    let p = c.part-item.result in
    let on : may_be_empty m (core_of p) ≡ true = sym c.in_ok-list_calls.ensures.empty ∙ c.if-not-branch.false in (
      c.loop-part.invariant.0
          ∙ ap (λ l. all_may_be_empty m (cores l)) (drop_here ps k p c.loop-part-test.true c.part-item.is)
          ∙ ap (λ b. b && all_may_be_empty m (cores (drop (k + 1) ps))) on,
      λ x rest. c.loop-part.invariant.1 x (lists_as _ (front_calls_here m (cores (drop k ps))) c.loop-part.list.items x
          (lists_then (calls_here m (core_of p)) (front_calls_here m (cores (drop (k + 1) ps))) c.loop-part.list.items
          c.list_calls.new.list.items x c.in_ok-list_calls.ensures.lists rest)
          (front_on m ps k p c.loop-part-test.true c.part-item.is on)),
    )

pub list_front_calls-returns-clause-lists : goal.list_front_calls-returns-clause-lists
list_front_calls-returns-clause-lists t c =
    let m = marked c.args.empties.now in
    let ps = c.args.parts.now in
    let k = c.loop-part.part-index in
    c.loop-part.invariant.1 c.loop-part.list.items (lists_as (λ r. false) (front_calls_here m (cores (drop k ps)))
    c.loop-part.list.items c.loop-part.list.items (lists_none c.loop-part.list.items)
    (front_over m ps k c.loop-part-test.false))

pub list_all_calls-loop-part-preserved : goal.list_all_calls-loop-part-preserved
list_all_calls-loop-part-preserved t c =
    let m = marked c.args.empties.now in
    let ps = c.args.parts.now in
    let k = c.loop-part.part-index in
    let p = c.part-item.result in
    let next : c.if-any.any ≡ (c.loop-part.any || c.in_ok-empty.empty) = elim c.if-any.branch [
      | list_all_calls-then-any w ↦ w.any-is ∙ w.if-any.true ∙ sym (ap (λ b. b || c.in_ok-empty.empty) w.if-any.true)
      | list_all_calls-else-any w ↦ w.any-is ∙ sym (ap (λ b. b || c.in_ok-empty.empty) w.if-any.false)
    ] in (
      any_empty m ps k p c.loop-part-test.true c.part-item.is _ c.loop-part.any c.in_ok-empty.empty c.if-any.any
          c.loop-part.invariant.0 c.in_ok-empty.ensures.empty next,
      λ x rest. c.loop-part.invariant.1 x (lists_as _ (any_calls_here m (cores (drop k ps))) c.loop-part.list.items x
          (lists_then (calls_here m (core_of p)) (any_calls_here m (cores (drop (k + 1) ps))) c.loop-part.list.items
          c.list_calls.new.list.items x c.in_ok-empty.ensures.lists rest)
          (any_on m ps k p c.loop-part-test.true c.part-item.is)),
    )

pub list_all_calls-returns-clause-lists : goal.list_all_calls-returns-clause-lists
list_all_calls-returns-clause-lists t c =
    let m = marked c.args.empties.now in
    let ps = c.args.parts.now in
    let k = c.loop-part.part-index in
    c.loop-part.invariant.1 c.loop-part.list.items (lists_as (λ r. false) (any_calls_here m (cores (drop k ps)))
    c.loop-part.list.items c.loop-part.list.items (lists_none c.loop-part.list.items)
    (any_over m ps k c.loop-part-test.false))
