use Rattle.std.proofs.Common.{◌≡◌, drop}
use Rattle.rpl_core.specs.Listed.{rules_of}
use Rattle.rpl_core.specs.View.{cores, listed}
use Rattle.rpl_forms.specs.Counting.{seen_all}
use Rattle.rpl_forms.specs.Forms as F
use Rattle.rpl_forms.specs.Rows.{inners_of}
use Rattle.rpl_expand.specs.inside.Scopes.{scope_seen}
use Rattle.rpl_expand.proofs.Parts as P
use Rattle.rpl_expand.proofs.build.+build.Given as goal

abbrev pub invariant-build_all-loop-item : goal.invariant-build_all-loop-item
invariant-build_all-loop-item l =
    let I = inners_of (rules_of l.base.rules.now) in
    let s = scope_seen l.base.scope I in
    F.joined (cores (listed l.parts)) (seen_all l.mode.in_lookbehind I
    (P.parts l.mode.casing s (drop l.item-index l.items)))
    ≡ seen_all l.mode.in_lookbehind I (P.parts l.mode.casing s l.items)

abbrev pub invariant-build_spaced-loop-number : goal.invariant-build_spaced-loop-number
invariant-build_spaced-loop-number l =
    let I = inners_of (rules_of l.base.rules.now) in
    let s = scope_seen l.base.scope I in
    F.joined (cores (listed l.parts))
    (seen_all l.mode.in_lookbehind I (P.items l.mode.casing s (drop l.number l.items)))
    ≡ seen_all l.mode.in_lookbehind I (P.items l.mode.casing s l.items)
