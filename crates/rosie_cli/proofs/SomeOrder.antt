-- Each list has its elements in order.
use Rattle.std.proofs.Common.{◌≡◌, ℕ, zero, suc, ◌+◌, List, [], ◌∷◌, get_or, refl, subst, arith}
use Rattle.std.specs.Prelude.{Bool, true, false, cond}
use Rattle.std.specs.Cmp.{IsStrictWeakOrder}
use Rattle.std.specs.List.Sorted.{IsPermutation, IsSortedBy}
use Rattle.std.proofs.lemmas.List.Sorted.{IsPermutation-refl, IsPermutation-cons, IsPermutation-middle}
use Rattle.std.proofs.lemmas.List.Sorted.{IsPermutation-trans}

module _ {X : Type 0} (lt : X → X → Bool) (o : IsStrictWeakOrder lt) where
  -- no first element is less than y
  abbrev Leads : X → List X → Type 0
  Leads y [] = Unit {0}
  Leads y (z ∷ zs) = lt z y ≡ false

  cons_sorted : (y : X) (zs : List X) → Leads y zs → IsSortedBy lt zs → IsSortedBy lt (y ∷ zs)
  cons_sorted y [] first up k d low h = absurd (omega arith)
  cons_sorted y (z ∷ zs) first up zero d low h = first
  cons_sorted y (z ∷ zs) first up (suc k) d low h =
      let e : suc (k + 1) ≡ suc k + 1 = omega arith in
      let P : ℕ → Type 0 = λ j. lt (get_or (y ∷ z ∷ zs) j d) (get_or (z ∷ zs) k d) ≡ false in
      subst P e (up k d (omega arith) (omega arith))

  first_leads : (y : X) (zs : List X) → IsSortedBy lt (y ∷ zs) → Leads y zs
  first_leads y [] up = tt
  first_leads y (z ∷ zs) up = up 0 y (omega arith) (omega arith)

  tail_sorted : (y : X) (zs : List X) → IsSortedBy lt (y ∷ zs) → IsSortedBy lt zs
  tail_sorted y zs up k d low h =
      let e : suc k + 1 ≡ suc (k + 1) = omega arith in
      let P : ℕ → Type 0 = λ j. lt (get_or (y ∷ zs) j d) (get_or zs k d) ≡ false in
      subst P e (up (suc k) d (omega arith) (omega arith))

  -- x after those that are less
  put : X → List X → List X
  put x [] = x ∷ []
  put x (y ∷ ys) = cond (lt y x) (y ∷ put x ys) (x ∷ y ∷ ys)

  put_leads : (y x : X) (zs : List X) → lt x y ≡ false → Leads y zs → Leads y (put x zs)
  unfolding put
  put_leads y x [] e first = e
  put_leads y x (z ∷ zs) e first = by_case (lt z x)
    where
      by_case : (b : Bool) → Leads y (cond b (z ∷ put x zs) (x ∷ z ∷ zs))
      by_case true = first
      by_case false = e

  put_sorted : (x : X) (ys : List X) → IsSortedBy lt ys → IsSortedBy lt (put x ys)
  unfolding put
  put_sorted x [] up = cons_sorted x [] tt up
  put_sorted x (y ∷ ys) up = by_case (put_sorted x ys (tail_sorted y ys up)) (lt y x) refl
    where
      by_case : IsSortedBy lt (put x ys) → (b : Bool) → lt y x ≡ b → IsSortedBy lt (cond b (y ∷ put x ys) (x ∷ y ∷ ys))
      by_case more true e =
          cons_sorted y (put x ys) (put_leads y x ys (o.one_way y x e) (first_leads y ys up)) more
      by_case more false e = cons_sorted x (y ∷ ys) e up

  put_moved : (x : X) (ys : List X) → IsPermutation (x ∷ ys) (put x ys)
  unfolding put
  put_moved x [] = IsPermutation-refl (x ∷ [])
  put_moved x (y ∷ ys) = by_case (put_moved x ys) (lt y x)
    where
      by_case : IsPermutation (x ∷ ys) (put x ys) → (b : Bool)
          → IsPermutation (x ∷ y ∷ ys) (cond b (y ∷ put x ys) (x ∷ y ∷ ys))
      by_case more true =
          IsPermutation-trans (x ∷ y ∷ ys) (y ∷ x ∷ ys) (y ∷ put x ys) (IsPermutation-middle (x ∷ []) y ys)
          (IsPermutation-cons y (x ∷ ys) (put x ys) more)
      by_case more false = IsPermutation-refl (x ∷ y ∷ ys)

  pub some_order : (xs : List X) → (ys : List X) × IsPermutation xs ys × IsSortedBy lt ys
  some_order [] = ([], IsPermutation-refl [], (λ k d low h. absurd (omega arith)))
  some_order (x ∷ xs) =
      let s = some_order xs in (
        put x s.0,
        IsPermutation-trans (x ∷ xs) (x ∷ s.0) (put x s.0) (IsPermutation-cons x xs s.0 s.1) (put_moved x s.0),
        put_sorted x s.0 s.2,
      )
