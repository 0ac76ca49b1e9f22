use Rattle.std.proofs.Common.{drop}
use Rattle.rpl_macro.specs.declared.casing.Casing.{Casing}
use Rattle.rpl_forms.specs.Counting.{Adds, KnowsInners, seen_all}
use Rattle.rpl_forms.specs.Inlining.{Inners}
use Rattle.rpl_expand.specs.inside.Scopes.{scope_seen}
use Rattle.rpl_expand.proofs.Parts.{parts, items}
use Rattle.rpl_expand.proofs.measure.+measure.Given as goal

abbrev pub invariant-measure_all-loop-part : goal.invariant-measure_all-loop-part
invariant-measure_all-loop-part l =
    (c : Casing) (I : Inners) → KnowsInners l.around.known.now I
    → Adds l.sum (seen_all l.around.in_lookbehind I
    (parts c (scope_seen l.around.scope.now I) (drop l.part-index l.parts)))
    (seen_all l.around.in_lookbehind I (parts c (scope_seen l.around.scope.now I) l.parts))

abbrev pub invariant-measure_spaced-loop-number : goal.invariant-measure_spaced-loop-number
invariant-measure_spaced-loop-number l =
    (c : Casing) (I : Inners) → KnowsInners l.around.known.now I
    → Adds l.sum (seen_all l.around.in_lookbehind I (items c (scope_seen l.around.scope.now I) (drop l.number l.items)))
    (seen_all l.around.in_lookbehind I (items c (scope_seen l.around.scope.now I) l.items))
