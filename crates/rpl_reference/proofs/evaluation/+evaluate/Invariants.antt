use Rattle.std.proofs.Common.{◌+◌, drop}
use Rattle.rpl_core.specs.Listed.{rules_of}
use Rattle.rpl_core.specs.Table.{bodies_of}
use Rattle.rpl_core.specs.View.{core_of, cores}
use Rattle.rpl_reference.proofs.Weights.{weight, weight_all, reach}
use Rattle.rpl_reference.proofs.evaluation.+evaluate.Given as goal

abbrev pub decreases-evaluate_core : goal.decreases-evaluate_core
decreases-evaluate_core l = reach (bodies_of (rules_of l.over.now.rules.now)) l.depth (weight (core_of l.e.now))

abbrev pub decreases-evaluate_call : goal.decreases-evaluate_call
decreases-evaluate_call l = reach (bodies_of (rules_of l.over.now.rules.now)) l.depth 1

abbrev pub decreases-evaluate_all : goal.decreases-evaluate_all
decreases-evaluate_all l =
    reach (bodies_of (rules_of l.over.now.rules.now)) l.depth (weight_all (cores (drop l.from l.parts.now)))

abbrev pub decreases-evaluate_first : goal.decreases-evaluate_first
decreases-evaluate_first l =
    reach (bodies_of (rules_of l.over.now.rules.now)) l.depth (weight_all (cores (drop l.from l.ways.now)))

abbrev pub decreases-evaluate_lengths : goal.decreases-evaluate_lengths
decreases-evaluate_lengths l =
    reach (bodies_of (rules_of l.over.now.rules.now)) l.depth (weight (core_of l.body.now) + l.lengths.count + 1)

abbrev pub decreases-evaluate_turns : goal.decreases-evaluate_turns
decreases-evaluate_turns l = reach (bodies_of (rules_of l.over.now.rules.now)) l.depth (weight (core_of l.body.now) + 1)
