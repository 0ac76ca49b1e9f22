use Rattle.std.proofs.Common.{◌∙◌, ap}
use Rattle.std.specs.Prelude.{nat_lt}
use Rattle.rpl_core.specs.inside.Standing.{calls_only}
use Rattle.rpl_core.proofs.Walk.{seq_core, choice_core}
use Rattle.rpl_core.proofs.order.+within.Goals as goal

pub calls_within-returns-in-Seq : goal.calls_within-returns-in-Seq
calls_within-returns-in-Seq t c =
    c.all_call_within.ensures
    ∙ ap (calls_only (λ r. nat_lt r c.args.count)) (seq_core c.args.peg.now c.in-Seq.parts c.as_slice.result.now
    c.in-Seq.is c.as_slice.ensures)

pub calls_within-returns-in-Choice : goal.calls_within-returns-in-Choice
calls_within-returns-in-Choice t c =
    c.all_call_within-in-Choice.ensures
    ∙ ap (calls_only (λ r. nat_lt r c.args.count))
    (choice_core c.args.peg.now c.in-Choice.parts c.as_slice-in-Choice.result.now c.in-Choice.is
    c.as_slice-in-Choice.ensures)
