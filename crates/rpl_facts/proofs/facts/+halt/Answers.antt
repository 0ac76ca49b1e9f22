use Rattle.std.proofs.Common.{◌+◌, ◌∙◌, drop, sym, ap}
use Rattle.std.specs.Prelude.{◌||◌}
use Rattle.rpl_compile_laws.specs.Static.{any_may_halt, may_halt}
use Rattle.rpl_core.specs.View.{cores}
use Rattle.rpl_core.specs.Marks.{marked}
use Rattle.rpl_core.proofs.Walk.{drop_here, seq_core, choice_core}
use Rattle.rpl_facts.proofs.facts.+halt.Goals as goal

pub may_halt-returns-in-Seq : goal.may_halt-returns-in-Seq
may_halt-returns-in-Seq t c =
    c.any_may_halt.ensures
    ∙ ap (may_halt (marked c.args.halting.now)) (seq_core c.args.peg.now c.in-Seq.parts c.as_slice.result.now
    c.in-Seq.is c.as_slice.ensures)

pub may_halt-returns-in-Choice : goal.may_halt-returns-in-Choice
may_halt-returns-in-Choice t c =
    c.any_may_halt-in-Choice.ensures
    ∙ ap (may_halt (marked c.args.halting.now))
    (choice_core c.args.peg.now c.in-Choice.parts c.as_slice-in-Choice.result.now c.in-Choice.is
    c.as_slice-in-Choice.ensures)

pub any_may_halt-loop-part-preserved : goal.any_may_halt-loop-part-preserved
any_may_halt-loop-part-preserved t c =
    let m = marked c.args.halting.now in
    let ps = c.args.parts.now in
    let k = c.loop-part.part-index in
    c.loop-part.invariant
    ∙ ap (λ l. any_may_halt m (cores l)) (drop_here ps k c.part-item.result c.loop-part-test.true c.part-item.is)
    ∙ ap (λ b. b || any_may_halt m (cores (drop (k + 1) ps))) (sym c.may_halt.ensures ∙ c.if-may_halt.false)
