use Rattle.std.proofs.Common.{◌||◌, ap, ap₂, refl, ◌∙◌}
use Rattle.regex_class.specs.Ranges.{in_range, in_ranges, range_at}
use Rattle.rpl_unicode.proofs.Cutting.{cut_none, cut_more}
use Rattle.rpl_unicode.proofs.ranges.cut.Goals as goal

pub loop-range-init : goal.loop-range-init
loop-range-init c = cut_none _ c.in_ok-parts.ensures.items

pub loop-range-preserved : goal.loop-range-preserved
loop-range-preserved c =
    let r = range_at c.args.ranges.now c.loop-range.range-index in
    let old = c.loop-range.parts.items in
    cut_more old _ _ _ r c.loop-range-test.true refl c.loop-range.invariant
    (λ x. c.in_ok-push_range-2.ensures x
    ∙ ap₂ (λ b m. b || in_range (m, r.1) x) (c.in_ok-push_range.ensures x
    ∙ ap (λ m. in_ranges old x || in_range (r.0, m) x) c.min.ensures) c.max.ensures)
