use Rattle.std.proofs.Common.{◌≡◌, ◌+◌, ◌<◌, length, take, true, false, sym, ap, ◌∙◌, subst, arith}
use Rattle.std.specs.Prelude.{◌↔◌}
use Rattle.std.specs.Int.{bit_at}
use Rattle.std.proofs.lemmas.Nat.Bits.{bit_at-zero}
use Rattle.regex_class.specs.Ranges.{in_range, in_ranges, range_at}
use Rattle.regex_class.proofs.RangesLemmas.{in_ranges-more, in_ranges-nil}
use Rattle.rpl_classes.proofs.Bitmaps.{before, joined}
use Rattle.rpl_classes.proofs.bits.bitmap.Goals as goal

pub loop-range-init : goal.loop-range-init
loop-range-init c = λ k lt. (
  λ one. absurd (omega (arith, one, bit_at-zero k)),
  λ is. let f : false ≡ true = sym (in_ranges-nil (c.args.start + k)) ∙ is in absurd (cc),
)

pub returns-then-range-start : goal.returns-then-range-start
returns-then-range-start c = λ k lt.
    let class = c.args.class.now in
    let l = c.loop-range in
    let i = l.range-index in
    let value = c.deref-range-items.ensures.value in
    let inside : i < length class.ranges.items = omega (arith, c.loop-range-test.true, ap length value) in
    let start : (range_at c.deref-range-items.result.now i).0 ≡ (range_at class.ranges.items i).0 =
    ap (λ rs. (range_at rs i).0) value in
    let less : c.args.start + k < (range_at class.ranges.items i).0 = omega (arith, c.if-range-start.true, lt, start) in
    let same = before i 0 class.ranges.items (c.args.start + k) class.canonical inside less in
    subst (λ b. (bit_at l.bits k ≡ 1) ↔ (b ≡ true)) (sym same) (l.invariant k lt)

pub loop-range-preserved : goal.loop-range-preserved
loop-range-preserved c = λ k lt.
    let rs = c.args.class.now.ranges.items in
    let l = c.loop-range in
    let n = c.args.start + k in
    let i = l.range-index in
    let value = c.deref-range-items.ensures.value in
    let inside : i < length rs = omega (arith, c.loop-range-test.true, ap length value) in
    let here : (bit_at c.bits_in-bits.result k ≡ 1) ↔ (in_range (range_at rs i) n ≡ true) =
    subst (λ s. (bit_at c.bits_in-bits.result k ≡ 1) ↔ (in_range (range_at s i) n ≡ true)) value
    (c.bits_in-bits.ensures k lt) in
    joined l.bits c.bits_in-bits.result k (in_ranges (take i rs) n) (in_range (range_at rs i) n)
    (in_ranges (take (i + 1) rs) n) (l.invariant k lt) here (in_ranges-more rs i n inside)
