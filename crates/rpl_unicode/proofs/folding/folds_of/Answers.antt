use Rattle.std.proofs.Common.{◌||◌, sym, ap₂, subst, ◌∙◌}
use Rattle.regex_class.specs.Ranges.{in_ranges, in_image, KeysRise}
use Rattle.std.specs.Prelude.{IfOk}
use Rattle.rpl_unicode.specs.Ranges.{IsListOf}
use Rattle.ucd_case.specs.CaseFolding.{IsFoldPairs}
use Rattle.rpl_unicode.proofs.Alike.{KeysRise-fold_pairs, alike_made}
use Rattle.rpl_unicode.proofs.folding.folds_of.Goals as goal

pub append_image-requires : goal.append_image-requires
append_image-requires c = subst KeysRise (sym c.fold_pairs.ensures.table) KeysRise-fold_pairs

pub returns : goal.returns
returns c =
    let u = c.in_ok-class.class.ranges.items in
    let copied = c.in_ok-all.ensures.items ∙ c.deref.ensures.value in
    alike_made c.args.ranges.now u c.append_image.new.out.items c.characters.result c.in_ok-class.ensures
    (subst IsFoldPairs c.fold_pairs.ensures.table c.fold_pairs.ensures.meaning)
    (λ x. c.in_ok-append_image.ensures.members x
    ∙ ap₂ (λ l ps. in_ranges l x || in_image ps u x) copied c.fold_pairs.ensures.table)
    (subst (λ l. IfOk c.characters.result (IsListOf (in_ranges l))) c.deref-2.ensures.value c.characters.ensures)
