use Rattle.std.proofs.Common.{◌+◌, sym, subst, drop}
use Rattle.std.proofs.lemmas.List.{drop_all}
use Rattle.std.specs.Prelude.{OnOk}
use Rattle.rpl_core.specs.Programs.{calls, calls_any}
use Rattle.rpl_core.specs.View.{core_of, cores}
use Rattle.rpl_core.specs.inside.Searching.{Finds}
use Rattle.rpl_core.proofs.RuleFinds.{finds_none, finds_then}
use Rattle.rpl_core.proofs.Parts.{drop_here, seq_core, choice_core}
use Rattle.rpl_core.proofs.reach.+find.Goals as goal

pub find_all-loop-part-preserved : goal.find_all-loop-part-preserved
find_all-loop-part-preserved t c =
    let ps = c.args.parts.now in
    let k = c.loop-part.part-index in
    let p = c.part-item.result in
    let here = drop_here ps k p c.loop-part-test.true c.part-item.is in
    λ x rest. c.loop-part.invariant x
    (subst (λ l. Finds (calls_any (cores l)) c.loop-part.search x) (sym here)
    (finds_then (calls (core_of p)) (calls_any (cores (drop (k + 1) ps))) c.loop-part.search c.find_calls.new.search
    x c.in_ok-find_calls.ensures rest))

pub find_all-returns : goal.find_all-returns
find_all-returns t c =
    let ps = c.args.parts.now in
    let none = drop_all c.loop-part.part-index ps c.loop-part-test.false in
    c.loop-part.invariant c.loop-part.search
    (subst (λ l. Finds (calls_any (cores l)) c.loop-part.search c.loop-part.search) (sym none)
    (finds_none c.loop-part.search))

pub find_calls-returns-in-Seq : goal.find_calls-returns-in-Seq
find_calls-returns-in-Seq t c =
    let same = seq_core c.args.peg.now c.in-Seq.parts c.as_slice.result.now c.in-Seq.is c.as_slice.ensures in
    subst (λ e. OnOk c.find_all.result (Finds (calls e) c.args.search.now c.find_all.new.search)) same
    c.find_all.ensures

pub find_calls-returns-in-Choice : goal.find_calls-returns-in-Choice
find_calls-returns-in-Choice t c =
    let same = choice_core c.args.peg.now c.in-Choice.parts c.as_slice-in-Choice.result.now c.in-Choice.is
    c.as_slice-in-Choice.ensures in
    subst (λ e. OnOk c.find_all-in-Choice.result (Finds (calls e) c.args.search.now c.find_all-in-Choice.new.search))
    same c.find_all-in-Choice.ensures
