use Rattle.std.proofs.Common.{◌∙◌, ap}
use Rattle.rpl_check.specs.Loops.{has_empty_loop}
use Rattle.rpl_core.specs.Marks.{marked}
use Rattle.rpl_core.proofs.Walk.{seq_core, choice_core}
use Rattle.rpl_check.proofs.inside.+empty_loop.Goals as goal

pub has_empty_loop-returns-in-Seq : goal.has_empty_loop-returns-in-Seq
has_empty_loop-returns-in-Seq t c =
    c.any_has_empty_loop.ensures
    ∙ ap (has_empty_loop (marked c.args.empties.now)) (seq_core c.args.peg.now c.in-Seq.parts c.as_slice.result.now
    c.in-Seq.is c.as_slice.ensures)

pub has_empty_loop-returns-in-Choice : goal.has_empty_loop-returns-in-Choice
has_empty_loop-returns-in-Choice t c =
    c.any_has_empty_loop-in-Choice.ensures
    ∙ ap (has_empty_loop (marked c.args.empties.now))
    (choice_core c.args.peg.now c.in-Choice.parts c.as_slice-in-Choice.result.now c.in-Choice.is
    c.as_slice-in-Choice.ensures)
