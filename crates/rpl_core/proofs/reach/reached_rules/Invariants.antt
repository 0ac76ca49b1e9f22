use Rattle.std.proofs.Common.{◌+◌, ◌-◌, length}
use Rattle.std.specs.BTreeSet.{btree_set_len}
use Rattle.rpl_core.specs.Listed.{rules_of}
use Rattle.rpl_core.specs.Table.{bodies_of}
use Rattle.rpl_core.specs.View.{core_of}
use Rattle.rpl_core.specs.inside.Searching.{Reached}
use Rattle.rpl_core.proofs.reach.reached_rules.Given as goal

abbrev pub invariant-loop-number : goal.invariant-loop-number
invariant-loop-number l = Reached (bodies_of (rules_of l.rules)) (core_of l.goal) l.search

abbrev pub decreases-loop-number : goal.decreases-loop-number
decreases-loop-number l =
    length l.search.waiting.items + (length (rules_of l.rules) - btree_set_len l.search.found)
