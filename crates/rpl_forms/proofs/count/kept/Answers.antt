use Rattle.std.proofs.Common.{sym, subst}
use Rattle.rpl_forms.specs.Counting.{Counts}
use Rattle.rpl_forms.specs.Forms.{passed, mark_name}
use Rattle.rpl_syntax.specs.declared.expr.Mark.TheVariants.{Hit, Skip}
use Rattle.rpl_forms.proofs.Counted.{seen_kept, seen_passed}
use Rattle.rpl_forms.proofs.count.kept.Goals as goal

pub returns : goal.returns
returns c = λ p I f.
    let hit = c.capture-hit.ensures p (mark_name Hit) I f in
    let skip =
    c.capture-before.ensures (passed p) (mark_name Skip) I
    (subst (Counts c.passed.result) (sym (seen_passed c.args.in_lookbehind I p)) (c.passed.ensures _ f)) in
    subst (Counts c.pair.result) (sym (seen_kept c.args.in_lookbehind I p)) (c.pair.ensures _ _ skip hit)
