use Rattle.std.proofs.Common.{◌≡◌, ◌+◌, ◌*◌, take}
use Rattle.rpl_core.specs.Listed.{rules_of}
use Rattle.rpl_core.specs.View.{core_of, cores, listed}
use Rattle.rpl_forms.specs.Inlining.{inlined_all}
use Rattle.rpl_forms.specs.Rows.{inners_of}
use Rattle.rpl_forms.specs.Sizes.{deep, most_deep}
use Rattle.rpl_forms.proofs.Reach.{reach}
use Rattle.rpl_forms.proofs.inner.+inline.Given as goal

abbrev pub decreases-inline : goal.decreases-inline
decreases-inline l = reach (rules_of l.rules.now) l.limit + 3 * deep (core_of l.peg.now)

abbrev pub decreases-boxed : goal.decreases-boxed
decreases-boxed l = reach (rules_of l.rules.now) l.limit + (3 * deep (core_of l.body.now) + 1)

abbrev pub decreases-inline_all : goal.decreases-inline_all
decreases-inline_all l = reach (rules_of l.rules.now) l.limit + (3 * most_deep (cores l.parts.now) + 1)

abbrev pub decreases-inline_call : goal.decreases-inline_call
decreases-inline_call l = reach (rules_of l.rules.now) l.limit

abbrev pub invariant-inline_all-loop-part : goal.invariant-inline_all-loop-part
invariant-inline_all-loop-part l =
    cores (listed l.others) ≡ inlined_all (take l.limit (inners_of (rules_of l.rules)))
    (cores (take l.part-index l.parts))
