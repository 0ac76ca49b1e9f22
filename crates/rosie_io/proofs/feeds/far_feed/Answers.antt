use Rattle.std.proofs.Common.{◌≡◌, get_or, ap, ◌∙◌, sym, inl, inr, arith}
use Rattle.std.proofs.lemmas.Bool.{cases_lt, eqb-true, eq-eqb}
use Rattle.rosie_io.proofs.feeds.far_feed.Goals as goal

pub loop-place-preserved : goal.loop-place-preserved
loop-place-preserved c = λ k from to feed. elim (cases_lt k c.loop-place.place) [
  | inl less ↦ c.loop-place.invariant k from less feed
  | inr more ↦
      let here : k ≡ c.loop-place.place = omega (arith, more, to) in
      c.if-bytes-place-eq-LINE_FEED.false (ap (λ n. get_or c.args.bytes.now n 0) (sym here) ∙ eqb-true _ _ feed)
]

pub returns-then-bytes-place-eq-LINE_FEED : goal.returns-then-bytes-place-eq-LINE_FEED
returns-then-bytes-place-eq-LINE_FEED c = (
  record { low = omega arith; high = omega (arith, c.loop-place-test.true); before = c.loop-place.invariant },
  eq-eqb _ _ c.if-bytes-place-eq-LINE_FEED.true,
)
