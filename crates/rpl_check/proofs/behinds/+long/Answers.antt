use Rattle.std.proofs.Common.{◌∙◌, ap}
use Rattle.rpl_check.specs.inside.Behinds.{has_long_behind}
use Rattle.rpl_core.proofs.Walk.{seq_core, choice_core}
use Rattle.rpl_check.proofs.behinds.+long.Goals as goal

pub has_long_behind-returns-in-Seq : goal.has_long_behind-returns-in-Seq
has_long_behind-returns-in-Seq t c =
    c.any_has_long_behind.ensures
    ∙ ap has_long_behind (seq_core c.args.peg.now c.in-Seq.parts c.as_slice.result.now c.in-Seq.is c.as_slice.ensures)

pub has_long_behind-returns-in-Choice : goal.has_long_behind-returns-in-Choice
has_long_behind-returns-in-Choice t c =
    c.any_has_long_behind-in-Choice.ensures
    ∙ ap has_long_behind (choice_core c.args.peg.now c.in-Choice.parts c.as_slice-in-Choice.result.now c.in-Choice.is
    c.as_slice-in-Choice.ensures)
