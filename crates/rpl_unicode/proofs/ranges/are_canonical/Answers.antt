use Rattle.regex_class.proofs.RangesLemmas.{rises_from-nil, next_free-nil}
use Rattle.rpl_unicode.proofs.Cutting.{rises_more, free_more}
use Rattle.rpl_unicode.proofs.ranges.are_canonical.Goals as goal

pub loop-range-init : goal.loop-range-init
loop-range-init c = (rises_from-nil 0, next_free-nil 0)

pub loop-range-preserved : goal.loop-range-preserved
loop-range-preserved c =
    let rs = c.args.ranges.now in
    let i = c.loop-range.range-index in (
      rises_more rs i c.loop-range.least c.loop-range-test.true c.loop-range.invariant.0 c.loop-range.invariant.1
          c.if-range-least.false c.if-range.false c.if-range-gt-MAX.false,
      free_more rs i c.loop-range-test.true,
    )
