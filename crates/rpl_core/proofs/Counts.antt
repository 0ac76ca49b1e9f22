-- How many numbers below a bound are in a set.
use Rattle.std.proofs.Common.{◌≡◌, ℕ, zero, suc, ◌<◌, ◌≤◌, refl, sym, ap, ◌∙◌, subst, ⊎_elim, arith}
use Rattle.std.proofs.lemmas.Bool.{cases_lt}
use Rattle.std.specs.Prelude.{Bool, true, false}
use Rattle.rpl_core.specs.Marks.{one_if, count}

one_le : (a b : Bool) → (a ≡ true → b ≡ true) → one_if a ≤ one_if b
one_le true b h = rw (h refl) (omega arith)
one_le false b h = omega arith

-- a larger set has as many or more
pub count_le : (f g : ℕ → Bool) (n : ℕ) → ((q : ℕ) → f q ≡ true → g q ≡ true) → count f n ≤ count g n
count_le f g zero h = omega arith
count_le f g (suc n) h = let k = count_le f g n h in let e = one_le (f n) (g n) (h n) in omega arith

-- and more where it has one that the other hasn't
pub count_lt : (f g : ℕ → Bool) (n x : ℕ) → ((q : ℕ) → f q ≡ true → g q ≡ true) → x < n → f x ≡ false → g x ≡ true
    → count f n < count g n
count_lt f g zero x h lt a b = absurd (omega arith)
count_lt f g (suc n) x h lt a b = ⊎_elim (before (λ l. count_lt f g n x h l a b)) here (cases_lt x n)
  where
    before : (x < n → count f n < count g n) → x < n → count f (suc n) < count g (suc n)
    before k0 l = let k = k0 l in let e = one_le (f n) (g n) (h n) in omega arith

    here : n ≤ x → count f (suc n) < count g (suc n)
    here l =
        let z : x ≡ n = omega arith in
        let u = ap one_if (ap f (sym z) ∙ a) in
        let v = ap one_if (ap g (sym z) ∙ b) in
        let k = count_le f g n h in
        omega arith

count_all : (n : ℕ) → count (λ q. true) n ≡ n
count_all zero = refl
count_all (suc n) = let h = count_all n in omega arith

-- at most n of the first n numbers are in a set
pub count_all_le : (f : ℕ → Bool) (n : ℕ) → count f n ≤ n
count_all_le f n = subst (λ x. count f n ≤ x) (count_all n) (count_le f (λ q. true) n (λ q e. refl))

-- fewer than n of the first n numbers are in a set that lacks one of them
pub count_below : (f : ℕ → Bool) (n r : ℕ) → r < n → f r ≡ false → count f n < n
count_below f n r lt off =
    subst (λ x. count f n < x) (count_all n) (count_lt f (λ q. true) n r (λ q e. refl) lt off refl)
