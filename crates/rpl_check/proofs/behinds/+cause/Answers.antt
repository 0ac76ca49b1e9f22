use Rattle.std.proofs.Common.{◌∙◌, ap}
use Rattle.rpl_check.specs.Causes.{first_cause}
use Rattle.rpl_core.proofs.Walk.{seq_core, choice_core}
use Rattle.rpl_check.proofs.behinds.+cause.Goals as goal

pub first_cause-returns-in-Seq : goal.first_cause-returns-in-Seq
first_cause-returns-in-Seq t c =
    c.first_cause_in.ensures
    ∙ ap first_cause (seq_core c.args.peg.now c.in-Seq.parts c.as_slice.result.now c.in-Seq.is c.as_slice.ensures)

pub first_cause-returns-in-Choice : goal.first_cause-returns-in-Choice
first_cause-returns-in-Choice t c =
    c.first_cause_in-in-Choice.ensures
    ∙ ap first_cause (choice_core c.args.peg.now c.in-Choice.parts c.as_slice-in-Choice.result.now c.in-Choice.is
    c.as_slice-in-Choice.ensures)
