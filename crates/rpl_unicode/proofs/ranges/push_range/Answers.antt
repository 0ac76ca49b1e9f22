use Rattle.std.proofs.Common.{ap, refl, ◌∙◌}
use Rattle.regex_class.specs.Ranges.{in_ranges}
use Rattle.regex_class.proofs.RangesLemmas.{in_ranges-push}
use Rattle.rpl_unicode.proofs.Cutting.{none_added, last_longer}
use Rattle.rpl_unicode.proofs.ranges.push_range.Goals as goal

pub returns-then-high-low : goal.returns-then-high-low
returns-then-high-low c = λ x. none_added _ _ c.args.low c.args.high x c.if-high-low.true refl

pub returns-then-meets : goal.returns-then-meets
returns-then-meets c =
    let xs = c.args.ranges.now in
    λ x. last_longer xs.items _ _ c.index-last.result.now (c.args.low, c.args.high) c.max.result x (c.len-len.ensures
    ∙ xs.ok.0) c.if-len-gt0.true c.index-last.ensures refl
    (c.meets.ensures c.if-meets.true) c.if-high-low.false c.max.ensures

pub returns : goal.returns
returns c = λ x. ap (λ l. in_ranges l x) c.in_ok-push.ensures.items
    ∙ in_ranges-push c.args.ranges.now.items (c.args.low, c.args.high) x
