use Rattle.std.proofs.Common.{◌∙◌, ap}
use Rattle.rpl_core.specs.Listed.{rules_of}
use Rattle.rpl_core.specs.Table.{blocks_of}
use Rattle.rpl_core.specs.inside.Standing.{calls_only, may_call}
use Rattle.rpl_core.proofs.Walk.{seq_core, choice_core}
use Rattle.rpl_core.proofs.order.+only.Goals as goal

pub calls_only-returns-in-Seq : goal.calls_only-returns-in-Seq
calls_only-returns-in-Seq t c =
    c.all_call_only.ensures
    ∙ ap (calls_only (may_call (blocks_of (rules_of c.args.rules.now)) c.args.number))
    (seq_core c.args.peg.now c.in-Seq.parts c.as_slice.result.now c.in-Seq.is c.as_slice.ensures)

pub calls_only-returns-in-Choice : goal.calls_only-returns-in-Choice
calls_only-returns-in-Choice t c =
    c.all_call_only-in-Choice.ensures
    ∙ ap (calls_only (may_call (blocks_of (rules_of c.args.rules.now)) c.args.number))
    (choice_core c.args.peg.now c.in-Choice.parts c.as_slice-in-Choice.result.now c.in-Choice.is
    c.as_slice-in-Choice.ensures)
