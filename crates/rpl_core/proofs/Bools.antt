-- Bools, and tests of numbers.
use Rattle.std.proofs.Common.{◌≡◌, ℕ, refl, sym, ap, arith}
use Rattle.std.specs.Prelude.{Bool, true, false, ◌||◌, ◌&&◌, not, nat_eq}

-- no test is both true and false
pub clash : {A : Type 0} (b : Bool) → b ≡ true → b ≡ false → A
clash true t f = absurd (cc)
clash false t f = absurd (cc)

-- what follows from either part of a disjunction follows from the disjunction
pub either : {X : Type 0} (a b : Bool) → (a ≡ true → X) → (b ≡ true → X) → (a || b) ≡ true → X
either true b f g e = f refl
either false b f g e = g e

-- a disjunction is true if its first part is
pub left : (a b : Bool) → a ≡ true → (a || b) ≡ true
left a b e = ap (λ c. c || b) e

-- a disjunction is true if its second part is
pub right : (a b : Bool) → b ≡ true → (a || b) ≡ true
right true b e = refl
right false b e = e

-- if a disjunction is false, both its parts are
pub neither : (a b : Bool) → (a || b) ≡ false → (a ≡ false) × (b ≡ false)
neither true b e = absurd (cc)
neither false b e = (refl, e)

-- if a conjunction is true, both its parts are
pub both : (a b : Bool) → (a && b) ≡ true → (a ≡ true) × (b ≡ true)
both true b e = (refl, e)
both false b e = absurd (cc)

-- a conjunction is true if both its parts are
pub paired : (a b : Bool) → a ≡ true → b ≡ true → (a && b) ≡ true
paired true b e f = f
paired false b e f = absurd (cc)

-- a test whose negation is true is false
pub not_on : (b : Bool) → not b ≡ true → b ≡ false
not_on true e = absurd (cc)
not_on false e = refl

-- a test whose negation is false is true
pub not_off : (b : Bool) → not b ≡ false → b ≡ true
not_off true e = refl
not_off false e = absurd (cc)

-- what is true with another is false with it
pub off_with : (a b : Bool) → (b ≡ true → a ≡ true) → a ≡ false → b ≡ false
off_with a true f e = clash a (f refl) e
off_with a false f e = refl

-- two tests that are true together are one
pub same_tests : (a b : Bool) → (a ≡ true → b ≡ true) → (b ≡ true → a ≡ true) → a ≡ b
same_tests true b f g = sym (f refl)
same_tests false true f g = g refl
same_tests false false f g = refl

-- numbers that the test of equality finds equal are equal
pub eq_of : (a b : ℕ) → nat_eq a b ≡ true → a ≡ b
eq_of a b e = grind arith

-- the test of equality finds each number equal to itself
pub eq_self : (q : ℕ) → nat_eq q q ≡ true
eq_self q = grind arith

-- the other of two that are not true one without the other
pub on_of : (a b : Bool) → (a && not b) ≡ false → a ≡ true → b ≡ true
on_of true b e x = not_off b e
on_of false b e x = absurd (cc)
