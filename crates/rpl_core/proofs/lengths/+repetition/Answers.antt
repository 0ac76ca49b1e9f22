use Rattle.std.proofs.Common.{◌∙◌, ap}
use Rattle.rpl_core.specs.Lengths.{has_repetition}
use Rattle.rpl_core.proofs.Walk.{seq_core, choice_core}
use Rattle.rpl_core.proofs.lengths.+repetition.Goals as goal

pub has_repetition-returns-in-Seq : goal.has_repetition-returns-in-Seq
has_repetition-returns-in-Seq t c =
    c.any_has_repetition.ensures
    ∙ ap has_repetition (seq_core c.args.peg.now c.in-Seq.parts c.as_slice.result.now c.in-Seq.is c.as_slice.ensures)

pub has_repetition-returns-in-Choice : goal.has_repetition-returns-in-Choice
has_repetition-returns-in-Choice t c =
    c.any_has_repetition-in-Choice.ensures
    ∙ ap has_repetition (choice_core c.args.peg.now c.in-Choice.parts c.as_slice-in-Choice.result.now c.in-Choice.is
    c.as_slice-in-Choice.ensures)
