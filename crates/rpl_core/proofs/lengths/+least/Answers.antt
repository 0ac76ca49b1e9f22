use Rattle.std.proofs.Common.{◌∙◌, ap}
use Rattle.std.specs.Prelude.{min}
use Rattle.rpl_core.specs.Lengths.{least}
use Rattle.rpl_core.proofs.Walk.{seq_core, choice_core}
use Rattle.rpl_core.proofs.lengths.+least.Goals as goal

pub least_length-returns-in-Seq : goal.least_length-returns-in-Seq
least_length-returns-in-Seq t c =
    c.least_sum.ensures
    ∙ ap (λ e. min 65536 (least e)) (seq_core c.args.peg.now c.in-Seq.parts c.as_slice.result.now c.in-Seq.is
    c.as_slice.ensures)

pub least_length-returns-in-Choice : goal.least_length-returns-in-Choice
least_length-returns-in-Choice t c =
    c.least_of.ensures ∙ ap (λ e. min 65536 (least e))
    (choice_core c.args.peg.now c.in-Choice.parts c.as_slice-in-Choice.result.now c.in-Choice.is
    c.as_slice-in-Choice.ensures)
