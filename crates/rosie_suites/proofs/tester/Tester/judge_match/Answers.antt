use Rattle.std.proofs.Common.{subst}
use Rattle.rpl_core.specs.Program.{labels_of}
use Rattle.rpl_tree.specs.Trees.{BuildsEach}
use Rattle.rosie_suites.proofs.Judged.{one_tree}
use Rattle.rosie_suites.proofs.tester.Tester.judge_match.Goals as goal

pub judge-requires : goal.judge-requires
judge-requires c =
    one_tree (labels_of c.args.program.now) c.args.self.now.scratch.captures c.fill.new.self c.built_as_one_tree.ensures
    (subst (λ caught. BuildsEach caught c.fill.new.self) c.captures-2.ensures c.in_ok-fill.ensures.built) c.requires
