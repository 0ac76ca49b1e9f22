use Rattle.std.proofs.Common.{◌≡◌, ◌+◌, ◌∙◌, sym, ap, subst, drop}
use Rattle.std.specs.Prelude.{OnOk, IfOk, ◌||◌, ◌&&◌, true, false}
use Rattle.rpl_core.specs.View.{core_of, cores}
use Rattle.rpl_compile_laws.specs.Static.{may_be_empty, all_may_be_empty}
use Rattle.rpl_facts.specs.Facts.{calls_here, front_calls_here, any_calls_here}
use Rattle.rpl_core.specs.Marks.{marked}
use Rattle.rpl_check.specs.inside.Search.{Finds}
use Rattle.rpl_check.proofs.Finding.{finds_none, finds_as, finds_then}
use Rattle.rpl_check.proofs.Fronts.{front_on, front_stops, front_over, any_on, any_over, any_empty}
use Rattle.rpl_core.proofs.Walk.{drop_here, seq_core, choice_core}
use Rattle.rpl_check.proofs.recursion.+find.Goals.{find_all_calls-then-any, find_all_calls-else-any}
use Rattle.rpl_check.proofs.recursion.+find.Goals as goal

pub find_calls-returns-in-Seq-clause-finds : goal.find_calls-returns-in-Seq-clause-finds
find_calls-returns-in-Seq-clause-finds t c =
    let same = seq_core c.args.peg.now c.in-Seq.parts c.as_slice.result.now c.in-Seq.is c.as_slice.ensures in
    subst (λ e. OnOk c.find_front_calls.result (Finds (calls_here (marked c.args.empties.now) e) c.args.search.now
    c.find_front_calls.new.search)) same c.find_front_calls.ensures.finds

pub find_calls-returns-in-Seq-clause-empty : goal.find_calls-returns-in-Seq-clause-empty
find_calls-returns-in-Seq-clause-empty t c =
    let same = seq_core c.args.peg.now c.in-Seq.parts c.as_slice.result.now c.in-Seq.is c.as_slice.ensures in
    subst (λ e. IfOk c.find_front_calls.result (λ b. b ≡ may_be_empty (marked c.args.empties.now) e)) same
    c.find_front_calls.ensures.empty

pub find_calls-returns-in-Choice-clause-finds : goal.find_calls-returns-in-Choice-clause-finds
find_calls-returns-in-Choice-clause-finds t c =
    let same = choice_core c.args.peg.now c.in-Choice.parts c.as_slice-in-Choice.result.now c.in-Choice.is
    c.as_slice-in-Choice.ensures in
    subst (λ e. OnOk c.find_all_calls.result (Finds (calls_here (marked c.args.empties.now) e) c.args.search.now
    c.find_all_calls.new.search)) same c.find_all_calls.ensures.finds

pub find_calls-returns-in-Choice-clause-empty : goal.find_calls-returns-in-Choice-clause-empty
find_calls-returns-in-Choice-clause-empty t c =
    let same = choice_core c.args.peg.now c.in-Choice.parts c.as_slice-in-Choice.result.now c.in-Choice.is
    c.as_slice-in-Choice.ensures in
    subst (λ e. IfOk c.find_all_calls.result (λ b. b ≡ may_be_empty (marked c.args.empties.now) e)) same
    c.find_all_calls.ensures.empty

pub find_front_calls-returns-then-not-branch-clause-finds : goal.find_front_calls-returns-then-not-branch-clause-finds
find_front_calls-returns-then-not-branch-clause-finds t c =
    let m = marked c.args.empties.now in
    let ps = c.args.parts.now in
    let k = c.loop-part.part-index in
    let p = c.part-item.result in
    let off = sym c.in_ok-find_calls.ensures.empty ∙ c.if-not-branch.true in
    c.loop-part.invariant.1 c.find_calls.new.search
    (finds_as (calls_here m (core_of p)) (front_calls_here m (cores (drop k ps))) c.loop-part.search
    c.find_calls.new.search c.in_ok-find_calls.ensures.finds
    (front_stops m ps k p c.loop-part-test.true c.part-item.is off))

pub find_front_calls-returns-then-not-branch-clause-empty : goal.find_front_calls-returns-then-not-branch-clause-empty
find_front_calls-returns-then-not-branch-clause-empty t c =
    let m = marked c.args.empties.now in
    let ps = c.args.parts.now in
    let k = c.loop-part.part-index in
    let off = sym c.in_ok-find_calls.ensures.empty ∙ c.if-not-branch.true in
    sym (c.loop-part.invariant.0
    ∙ ap (λ l. all_may_be_empty m (cores l)) (drop_here ps k c.part-item.result c.loop-part-test.true c.part-item.is)
    ∙ ap (λ b. b && all_may_be_empty m (cores (drop (k + 1) ps))) off)

pub find_front_calls-loop-part-preserved : goal.find_front_calls-loop-part-preserved
find_front_calls-loop-part-preserved t c =
    let m = marked c.args.empties.now in
    let ps = c.args.parts.now in
    let k = c.loop-part.part-index in
    let p = c.part-item.result in
    let on : may_be_empty m (core_of p) ≡ true = sym c.in_ok-find_calls.ensures.empty ∙ c.if-not-branch.false in (
      c.loop-part.invariant.0
          ∙ ap (λ l. all_may_be_empty m (cores l)) (drop_here ps k p c.loop-part-test.true c.part-item.is)
          ∙ ap (λ b. b && all_may_be_empty m (cores (drop (k + 1) ps))) on,
      λ x rest. c.loop-part.invariant.1 x (finds_as _ (front_calls_here m (cores (drop k ps))) c.loop-part.search x
          (finds_then (calls_here m (core_of p)) (front_calls_here m (cores (drop (k + 1) ps))) c.loop-part.search
          c.find_calls.new.search x c.in_ok-find_calls.ensures.finds rest)
          (front_on m ps k p c.loop-part-test.true c.part-item.is on)),
    )

pub find_front_calls-returns-clause-finds : goal.find_front_calls-returns-clause-finds
find_front_calls-returns-clause-finds t c =
    let m = marked c.args.empties.now in
    let ps = c.args.parts.now in
    let k = c.loop-part.part-index in
    c.loop-part.invariant.1 c.loop-part.search (finds_as (λ r. false) (front_calls_here m (cores (drop k ps)))
    c.loop-part.search c.loop-part.search (finds_none c.loop-part.search) (front_over m ps k c.loop-part-test.false))

pub find_all_calls-loop-part-preserved : goal.find_all_calls-loop-part-preserved
find_all_calls-loop-part-preserved t c =
    let m = marked c.args.empties.now in
    let ps = c.args.parts.now in
    let k = c.loop-part.part-index in
    let p = c.part-item.result in
    let next : c.if-any.any ≡ (c.loop-part.any || c.in_ok-empty.empty) = elim c.if-any.branch [
      | find_all_calls-then-any w ↦ w.any-is ∙ w.if-any.true ∙ sym (ap (λ b. b || c.in_ok-empty.empty) w.if-any.true)
      | find_all_calls-else-any w ↦ w.any-is ∙ sym (ap (λ b. b || c.in_ok-empty.empty) w.if-any.false)
    ] in (
      any_empty m ps k p c.loop-part-test.true c.part-item.is _ c.loop-part.any c.in_ok-empty.empty c.if-any.any
          c.loop-part.invariant.0 c.in_ok-empty.ensures.empty next,
      λ x rest. c.loop-part.invariant.1 x (finds_as _ (any_calls_here m (cores (drop k ps))) c.loop-part.search x
          (finds_then (calls_here m (core_of p)) (any_calls_here m (cores (drop (k + 1) ps))) c.loop-part.search
          c.find_calls.new.search x c.in_ok-empty.ensures.finds rest)
          (any_on m ps k p c.loop-part-test.true c.part-item.is)),
    )

pub find_all_calls-returns-clause-finds : goal.find_all_calls-returns-clause-finds
find_all_calls-returns-clause-finds t c =
    let m = marked c.args.empties.now in
    let ps = c.args.parts.now in
    let k = c.loop-part.part-index in
    c.loop-part.invariant.1 c.loop-part.search (finds_as (λ r. false) (any_calls_here m (cores (drop k ps)))
    c.loop-part.search c.loop-part.search (finds_none c.loop-part.search) (any_over m ps k c.loop-part-test.false))
