-- Lists that stand at an address, and what holds at each place of a code.
use Rattle.std.proofs.Common.{◌≡◌, ℕ, zero, suc, ◌+◌, ◌<◌, List, [], ◌∷◌, ◌++◌, length, Option, Some, refl, ap, ◌∙◌}
use Rattle.std.proofs.Common.{subst, arith, length-append, append_assoc}
use Rattle.std.proofs.Math.Seq.{get_or-append_seam}
use Rattle.std.proofs.lemmas.Option.{slice_get-get_or}
use Rattle.std.specs.Prelude.{slice_get}
use Rattle.rpl_core.specs.Instr.{Instr}
use Rattle.rpl_safe.specs.Safe.{Shape}

-- the elements stand there from the address on
abbrev pub Stands : {A : Type 0} → (ℕ → Option A) → ℕ → List A → Type 0
Stands f a [] = Unit {0}
Stands f a (x ∷ xs) = (f a ≡ Some x) × Stands f (a + 1) xs

-- what stands first of two
pub stands_front : {A : Type 0} (f : ℕ → Option A) (a : ℕ) (x y : List A) → Stands f a (x ++ y) → Stands f a x
stands_front f a [] y h = tt
stands_front f a (i ∷ x) y h = (h.0, stands_front f (a + 1) x y h.1)

-- what stands after it
pub stands_back : {A : Type 0} (f : ℕ → Option A) (a n : ℕ) (x y : List A) → length x ≡ n → Stands f a (x ++ y)
    → Stands f (a + n) y
stands_back f a n [] y q h = let e : a ≡ a + n = omega (arith, q) in subst (λ m. Stands f m y) e h
stands_back f a n (i ∷ x) y q h =
    let e : a + 1 + length x ≡ a + n = omega (arith, q) in
    subst (λ m. Stands f m y) e (stands_back f (a + 1) (length x) x y refl h.1)

-- a list stands in itself
pub stands_all : {A : Type 0} (is pre : List A) → Stands (slice_get (pre ++ is)) (length pre) is
stands_all [] pre = tt
stands_all (i ∷ is) pre =
    let within : length pre < length (pre ++ i ∷ is) = omega (arith, length-append pre (i ∷ is)) in
    let here = slice_get-get_or (pre ++ i ∷ is) (length pre) i within ∙ ap Some (get_or-append_seam pre i is i) in
    let n : length (pre ++ i ∷ []) ≡ length pre + 1 = omega (arith, length-append pre (i ∷ [])) in
    let rest = stands_all is (pre ++ i ∷ []) in
    let rest' = subst (λ l. Stands (slice_get l) (length (pre ++ i ∷ [])) is) (append_assoc pre (i ∷ []) is) rest in
    (here, subst (λ m. Stands (slice_get (pre ++ i ∷ is)) m is) n rest')

-- it holds of each instruction with its address and its shape, and there are as many of both
abbrev pub Each : (ℕ → Instr → Shape → Type 0) → ℕ → List Instr → List Shape → Type 0
Each P a [] [] = Unit {0}
Each P a [] (s ∷ ss) = ⊥
Each P a (i ∷ is) [] = ⊥
Each P a (i ∷ is) (s ∷ ss) = P a i s × Each P (a + 1) is ss

-- of two lists after each other
pub each_append : (P : ℕ → Instr → Shape → Type 0) (a : ℕ) (x y : List Instr) (u v : List Shape) → Each P a x u
    → Each P (a + length x) y v → Each P a (x ++ y) (u ++ v)
each_append P a [] y [] v h k = let e : a + 0 ≡ a = omega arith in subst (λ m. Each P m y v) e k
each_append P a [] y (s ∷ u) v h k = absurd h
each_append P a (i ∷ x) y [] v h k = absurd h
each_append P a (i ∷ x) y (s ∷ u) v h k =
    let e : a + length (i ∷ x) ≡ a + 1 + length x = omega arith in
    (h.0, each_append P (a + 1) x y u v h.1 (subst (λ m. Each P m y v) e k))

-- what follows from it holds too
pub each_map : (P Q : ℕ → Instr → Shape → Type 0) → ((b : ℕ) (i : Instr) (s : Shape) → P b i s → Q b i s)
    → (a : ℕ) (x : List Instr) (u : List Shape) → Each P a x u → Each Q a x u
each_map P Q f a [] [] h = tt
each_map P Q f a [] (s ∷ u) h = absurd h
each_map P Q f a (i ∷ x) [] h = absurd h
each_map P Q f a (i ∷ x) (s ∷ u) h = (f a i s h.0, each_map P Q f (a + 1) x u h.1)

-- at one place
pub each_at : (P : ℕ → Instr → Shape → Type 0) (a : ℕ) (x : List Instr) (u : List Shape) (k : ℕ) (s : Shape)
    → Each P a x u → slice_get u k ≡ Some s → (i : Instr) × (slice_get x k ≡ Some i) × P (a + k) i s
each_at P a [] [] k s h e = absurd (cc)
each_at P a [] (r ∷ u) k s h e = absurd h
each_at P a (i ∷ x) [] k s h e = absurd h
each_at P a (i ∷ x) (r ∷ u) zero s h e =
    let same : r ≡ s = cc in
    let z : a ≡ a + 0 = omega arith in
    (i, refl, subst (λ m. P m i s) z (subst (λ q. P a i q) same h.0))
each_at P a (i ∷ x) (r ∷ u) (suc k) s h e =
    let there = each_at P (a + 1) x u k s h.1 e in
    let z : a + 1 + k ≡ a + suc k = omega arith in
    (there.0, there.1, subst (λ m. P m there.0 s) z there.2)
