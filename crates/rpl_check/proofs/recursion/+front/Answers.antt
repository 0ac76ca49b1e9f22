use Rattle.std.proofs.Common.{◌∙◌, ap}
use Rattle.rpl_compile_laws.specs.Static.{may_be_empty}
use Rattle.rpl_core.specs.Marks.{marked}
use Rattle.rpl_check.specs.inside.Search.{marked_from}
use Rattle.rpl_check.specs.inside.Search.{calls_within, within_or_none}
use Rattle.rpl_core.proofs.Walk.{seq_core, choice_core}
use Rattle.rpl_check.proofs.recursion.+front.Goals as goal

pub clean_front-returns-in-Seq : goal.clean_front-returns-in-Seq
clean_front-returns-in-Seq t c =
    let m = marked c.args.empties.now in
    let w = marked_from c.args.start c.args.clean.now in
    c.clean_front_in_turn.ensures
    ∙ ap (λ e. within_or_none (calls_within m w e) (may_be_empty m e))
    (seq_core c.args.peg.now c.in-Seq.parts c.as_slice.result.now c.in-Seq.is c.as_slice.ensures)

pub clean_front-returns-in-Choice : goal.clean_front-returns-in-Choice
clean_front-returns-in-Choice t c =
    let m = marked c.args.empties.now in
    let w = marked_from c.args.start c.args.clean.now in
    c.clean_front_of_each.ensures
    ∙ ap (λ e. within_or_none (calls_within m w e) (may_be_empty m e))
    (choice_core c.args.peg.now c.in-Choice.parts c.as_slice-in-Choice.result.now c.in-Choice.is
    c.as_slice-in-Choice.ensures)
