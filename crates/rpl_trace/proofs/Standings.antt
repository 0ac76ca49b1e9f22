-- What stands, with more evaluations that ended.
use Rattle.std.proofs.Common.{◌≡◌, ◌+◌, refl, ap, arith}
use Rattle.rpl_trace.specs.Evaluations.{Evaluations, NoneLeft, One, joined, count}
use Rattle.rpl_trace.specs.inside.Standing.{Standing, Whole, Inside, Broken, add}

pub joined_none : (f : Evaluations) → joined f NoneLeft ≡ f
joined_none NoneLeft = refl
joined_none (One k i e f r) = ap (One k i e f) (joined_none r)

joined_joined : (f g h : Evaluations) → joined (joined f g) h ≡ joined f (joined g h)
joined_joined NoneLeft g h = refl
joined_joined (One k i e f r) g h = ap (One k i e f) (joined_joined r g h)

pub count_joined : (f g : Evaluations) → count (joined f g) ≡ count f + count g
count_joined NoneLeft g = omega arith
count_joined (One k i e f r) g = let h = count_joined r g in omega arith

pub add_none : (s : Standing) → add s NoneLeft ≡ s
add_none (Whole f) = ap Whole (joined_none f)
add_none (Inside s k i f) = ap (Inside s k i) (joined_none f)
add_none Broken = refl

pub add_add : (s : Standing) (f g : Evaluations) → add (add s f) g ≡ add s (joined f g)
add_add (Whole h) f g = ap Whole (joined_joined h f g)
add_add (Inside s k i h) f g = ap (Inside s k i) (joined_joined h f g)
add_add Broken f g = refl
