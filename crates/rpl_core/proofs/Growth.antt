-- A set of numbers below a bound grows, one number at a time, until it lacks nothing.
use Rattle.std.proofs.Common.{◌≡◌, ℕ, zero, suc, ◌+◌, ◌<◌, refl, ap, subst, ⊎_elim, inl, inr, arith}
use Rattle.std.proofs.lemmas.Bool.{cases_lt}
use Rattle.std.specs.Prelude.{Bool, true, false, ◌||◌, ◌⊎◌, nat_eq}
use Rattle.rpl_core.specs.Marks.{count}
use Rattle.rpl_core.proofs.Bools.{right, eq_of, eq_self}
use Rattle.rpl_core.proofs.Counts.{count_lt, count_all_le}

-- a test of the numbers below n holds of one of them, or of none
pub some_below : (f : ℕ → Bool) (n : ℕ) → ((r : ℕ) × (r < n) × (f r ≡ true)) ⊎ ((r : ℕ) → r < n → f r ≡ false)
some_below f zero = inr (λ r lt. absurd (omega arith))
some_below f (suc n) =
    ⊎_elim (λ h. inl (h.0, omega (arith, h.1), h.2)) (λ none. here_or_not none (f n) refl) (some_below f n)
  where
    here_or_not : ((r : ℕ) → r < n → f r ≡ false) → (b : Bool) → f n ≡ b → ((r : ℕ) × (r < suc n) × (f r ≡ true))
        ⊎ ((r : ℕ) → r < suc n → f r ≡ false)
    here_or_not none true e = inl (n, omega arith, e)
    here_or_not none false e =
        inr (λ r lt. ⊎_elim (none r) (λ ge. let z : n ≡ r = omega arith in subst (λ x. f x ≡ false) z e) (cases_lt r n))

-- a test of pairs below n
pub pair_below : (f : ℕ → ℕ → Bool) (n k : ℕ) → ((q : ℕ) × (t : ℕ) × (t < n) × (f q t ≡ true))
    ⊎ ((q : ℕ) → q < k → (t : ℕ) → t < n → f q t ≡ false)
pair_below f n zero = inr (λ q lt t l. absurd (omega arith))
pair_below f n (suc k) =
    ⊎_elim (λ h. inl h) (λ none. ⊎_elim (λ h. inl (k, h.0, h.1, h.2)) (λ last. inr (all none last))
    (some_below (f k) n))
    (pair_below f n k)
  where
    all : ((q : ℕ) → q < k → (t : ℕ) → t < n → f q t ≡ false) → ((t : ℕ) → t < n → f k t ≡ false) → (q : ℕ) → q < suc k
        → (t : ℕ) → t < n → f q t ≡ false
    all none last q lt t l = ⊎_elim (λ x. none q x t l) (λ ge. let z : k ≡ q = omega arith in
        subst (λ x. f x t ≡ false) z (last t l)) (cases_lt q k)

-- what a set of numbers below n lacks: a number that belongs to it
abbrev pub Missing : (ℕ → Type 0) → ℕ → (ℕ → Bool) → Type 0
Missing In n m = (q : ℕ) × (q < n) × (m q ≡ false) × In q

-- all in the set belong to it
abbrev pub Belong : (ℕ → Type 0) → (ℕ → Bool) → Type 0
Belong In m = (r : ℕ) → m r ≡ true → In r

abbrev with_one : ℕ → (ℕ → Bool) → ℕ → Bool
with_one q m r = nat_eq q r || m r

with_cases : (In : ℕ → Type 0) (q : ℕ) (m : ℕ → Bool) → In q → Belong In m → Belong In (with_one q m)
with_cases In q m hq h r = go (nat_eq q r) refl
  where
    go : (b : Bool) → nat_eq q r ≡ b → (b || m r) ≡ true → In r
    go true e x = subst In (eq_of q r e) hq
    go false e x = h r x

module _ (closed : (ℕ → Bool) → Type 0) (In : ℕ → Type 0) (n : ℕ) (find : (m : ℕ → Bool) → Belong In m
    → closed m ⊎ Missing In n m) where
  grown : (fuel : ℕ) (m : ℕ → Bool) → n < fuel + count m n → Belong In m → (s : ℕ → Bool) × closed s × Belong In s
  grown zero m enough in_m = absurd (let h = count_all_le m n in omega arith)
  grown (suc fuel) m enough in_m = ⊎_elim (λ c. (m, c, in_m)) (more (λ m1. grown fuel m1)) (find m in_m)
    where
      more : ((m1 : ℕ → Bool) → n < fuel + count m1 n → Belong In m1 → (s : ℕ → Bool) × closed s × Belong In s)
          → Missing In n m → (s : ℕ → Bool) × closed s × Belong In s
      more again x =
          let m1 = with_one x.0 m in
          let new : m1 x.0 ≡ true = ap (λ b. b || m x.0) (eq_self x.0) in
          let up = count_lt m m1 n x.0 (λ r e. right (nat_eq x.0 r) (m r) e) x.1 x.2 new in
          again m1 (omega arith) (with_cases In x.0 m x.3 in_m)

  -- a set that lacks nothing, and in which all belong
  pub closed_exists : (s : ℕ → Bool) × closed s × Belong In s
  closed_exists = grown (suc n) (λ r. false) (omega arith) (λ r e. absurd (cc))
