use Rattle.std.proofs.Common.{◌+◌, ◌∙◌, drop, sym, ap}
use Rattle.std.specs.Prelude.{◌||◌, ◌&&◌}
use Rattle.rpl_compile_laws.specs.Static.{all_may_be_empty, any_may_be_empty, may_be_empty}
use Rattle.rpl_core.specs.View.{cores}
use Rattle.rpl_core.specs.Marks.{marked}
use Rattle.rpl_core.proofs.Walk.{drop_here, seq_core, choice_core}
use Rattle.rpl_facts.proofs.facts.+empty.Goals as goal

pub may_be_empty-returns-in-Seq : goal.may_be_empty-returns-in-Seq
may_be_empty-returns-in-Seq t c =
    c.all_may_be_empty.ensures
    ∙ ap (may_be_empty (marked c.args.empties.now)) (seq_core c.args.peg.now c.in-Seq.parts c.as_slice.result.now
    c.in-Seq.is c.as_slice.ensures)

pub may_be_empty-returns-in-Choice : goal.may_be_empty-returns-in-Choice
may_be_empty-returns-in-Choice t c =
    c.any_may_be_empty.ensures
    ∙ ap (may_be_empty (marked c.args.empties.now))
    (choice_core c.args.peg.now c.in-Choice.parts c.as_slice-in-Choice.result.now c.in-Choice.is
    c.as_slice-in-Choice.ensures)

pub all_may_be_empty-loop-part-preserved : goal.all_may_be_empty-loop-part-preserved
all_may_be_empty-loop-part-preserved t c =
    let m = marked c.args.empties.now in
    let ps = c.args.parts.now in
    let k = c.loop-part.part-index in
    c.loop-part.invariant
    ∙ ap (λ l. all_may_be_empty m (cores l)) (drop_here ps k c.part-item.result c.loop-part-test.true c.part-item.is)
    ∙ ap (λ b. b && all_may_be_empty m (cores (drop (k + 1) ps))) (sym c.may_be_empty.ensures
    ∙ c.if-not-may_be_empty.false)

pub any_may_be_empty-loop-part-preserved : goal.any_may_be_empty-loop-part-preserved
any_may_be_empty-loop-part-preserved t c =
    let m = marked c.args.empties.now in
    let ps = c.args.parts.now in
    let k = c.loop-part.part-index in
    c.loop-part.invariant
    ∙ ap (λ l. any_may_be_empty m (cores l)) (drop_here ps k c.part-item.result c.loop-part-test.true c.part-item.is)
    ∙ ap (λ b. b || any_may_be_empty m (cores (drop (k + 1) ps))) (sym c.may_be_empty.ensures ∙ c.if-may_be_empty.false)
