use Rattle.std.proofs.Common.{drop}
use Rattle.rpl_core.specs.View.{cores}
use Rattle.rpl_forms.specs.Counting.{Adds, KnowsInners, seen_all}
use Rattle.rpl_forms.specs.Inlining.{Inners}
use Rattle.rpl_forms.proofs.inner.+weigh.Given as goal

abbrev pub invariant-weigh_all-loop-part : goal.invariant-weigh_all-loop-part
invariant-weigh_all-loop-part l =
    (I : Inners) → KnowsInners l.known I
    → Adds l.sum (seen_all l.in_lookbehind I (cores (drop l.part-index l.parts)))
    (seen_all l.in_lookbehind I (cores l.parts))
