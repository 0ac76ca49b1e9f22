use Rattle.std.proofs.Common.{sym, ap, ◌∙◌, Some}
use Rattle.std.specs.Prelude.{not}
use Rattle.rpl_core.specs.Program.{labels_of}
use Rattle.rpl_unittest.specs.Verdicts.{is_type, is_met}
use Rattle.rpl_tree.specs.Trees.{trees_in}
use Rattle.rpl_unittest.proofs.Types.{any_below}
use Rattle.rpl_unittest.proofs.verdict.judge_match.Goals as goal

pub returns-in-Includes : goal.returns-in-Includes
returns-in-Includes c =
    c.has_type.ensures
    ∙ sym (any_below (labels_of c.args.program.now) (is_type c.args.asked.prefix.now c.args.asked.part.now)
    c.args.forest.now c.requires)
    ∙ sym (ap (λ v. is_met v c.args.asked.prefix.now c.args.asked.part.now c.args.text.now
    (Some (trees_in (labels_of c.args.program.now) c.args.forest.now))) c.in-Includes.is)

pub returns-in-Excludes : goal.returns-in-Excludes
returns-in-Excludes c =
    ap not (c.has_type-in-Excludes.ensures ∙ sym
    (any_below (labels_of c.args.program.now) (is_type c.args.asked.prefix.now c.args.asked.part.now) c.args.forest.now
    c.requires))
    ∙ sym (ap (λ v. is_met v c.args.asked.prefix.now c.args.asked.part.now c.args.text.now
    (Some (trees_in (labels_of c.args.program.now) c.args.forest.now))) c.in-Excludes.is)
