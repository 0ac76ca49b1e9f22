use Rattle.std.proofs.Common.{sym, subst}
use Rattle.rpl_forms.specs.Counting.{Counts}
use Rattle.rpl_forms.specs.Forms.{mark_name}
use Rattle.rpl_syntax.specs.declared.expr.Mark.TheVariants.{Hit}
use Rattle.rpl_forms.proofs.Counted.{seen_found}
use Rattle.rpl_forms.proofs.count.found.Goals as goal

pub returns : goal.returns
returns c = λ p I f.
    let hit = c.capture-hit.ensures p (mark_name Hit) I f in
    subst (Counts c.pair.result) (sym (seen_found c.args.in_lookbehind I p))
    (c.pair.ensures _ _ (c.passed-before.ensures _ f) hit)
