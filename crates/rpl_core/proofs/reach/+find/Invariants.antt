use Rattle.std.proofs.Common.{drop}
use Rattle.rpl_core.specs.Programs.{calls_any}
use Rattle.rpl_core.specs.View.{cores}
use Rattle.rpl_core.specs.inside.Searching.{Finds}
use Rattle.rpl_core.specs.declared.reach.RuleSearch.{RuleSearch}
use Rattle.rpl_core.proofs.reach.+find.Given as goal

abbrev pub invariant-find_all-loop-part : goal.invariant-find_all-loop-part
invariant-find_all-loop-part l =
    (x : RuleSearch) → Finds (calls_any (cores (drop l.part-index l.parts))) l.search x →
    Finds (calls_any (cores l.parts)) l.fn.search x
