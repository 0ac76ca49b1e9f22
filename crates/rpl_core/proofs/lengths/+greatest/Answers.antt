use Rattle.std.proofs.Common.{◌∙◌, ap}
use Rattle.std.specs.Prelude.{min}
use Rattle.rpl_core.specs.Lengths.{greatest}
use Rattle.rpl_core.proofs.Walk.{seq_core, choice_core}
use Rattle.rpl_core.proofs.lengths.+greatest.Goals as goal

pub greatest_length-returns-in-Seq : goal.greatest_length-returns-in-Seq
greatest_length-returns-in-Seq t c =
    c.greatest_sum.ensures
    ∙ ap (λ e. min 256 (greatest e)) (seq_core c.args.peg.now c.in-Seq.parts c.as_slice.result.now c.in-Seq.is
    c.as_slice.ensures)

pub greatest_length-returns-in-Choice : goal.greatest_length-returns-in-Choice
greatest_length-returns-in-Choice t c =
    c.greatest_of.ensures
    ∙ ap (λ e. min 256 (greatest e)) (choice_core c.args.peg.now c.in-Choice.parts c.as_slice-in-Choice.result.now
    c.in-Choice.is c.as_slice-in-Choice.ensures)
