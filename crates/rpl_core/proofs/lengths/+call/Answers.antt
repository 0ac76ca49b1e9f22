use Rattle.std.proofs.Common.{◌∙◌, ap}
use Rattle.rpl_core.specs.Lengths.{has_call}
use Rattle.rpl_core.proofs.Walk.{seq_core, choice_core}
use Rattle.rpl_core.proofs.lengths.+call.Goals as goal

pub has_call-returns-in-Seq : goal.has_call-returns-in-Seq
has_call-returns-in-Seq t c =
    c.any_has_call.ensures
    ∙ ap has_call (seq_core c.args.peg.now c.in-Seq.parts c.as_slice.result.now c.in-Seq.is c.as_slice.ensures)

pub has_call-returns-in-Choice : goal.has_call-returns-in-Choice
has_call-returns-in-Choice t c =
    c.any_has_call-in-Choice.ensures
    ∙ ap has_call (choice_core c.args.peg.now c.in-Choice.parts c.as_slice-in-Choice.result.now c.in-Choice.is
    c.as_slice-in-Choice.ensures)
