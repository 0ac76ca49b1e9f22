-- What stands at a number, and under a name, in lists that grow at the end.
use Rattle.std.proofs.Common.{arith, ◌≡◌, ◌<◌, ◌⊎◌, inl, inr, ℕ, zero, suc, ◌+◌, List, [], ◌∷◌, ◌++◌, length}
use Rattle.std.proofs.Common.{Option, Some, None, refl, ap, true, false}
use Rattle.std.specs.Prelude.{Bool, if◌then◌else◌, slice_get}
use Rattle.std.specs.List.{AllByRecursion}
use Rattle.std.specs.Str.{bytes_eq}
use Rattle.rpl_scope.specs.Packages.{first_of}

-- ---- at a number

-- what stands at a number in a list stands there when others are put after it
pub nth_more : {A : Type 0} (xs ys : List A) (i : ℕ) (x : A) → slice_get xs i ≡ Some x → slice_get (xs ++ ys) i ≡ Some x
nth_more [] ys i x h = absurd (cc)
nth_more (y ∷ xs) ys zero x h = h
nth_more (y ∷ xs) ys (suc i) x h = nth_more xs ys i x h

-- what is put after a list stands at the number that was its length
pub nth_last : {A : Type 0} (xs : List A) (y : A) (i : ℕ) → i ≡ length xs → slice_get (xs ++ y ∷ []) i ≡ Some y
nth_last [] y zero h = refl
nth_last [] y (suc i) h = absurd (omega (arith, h))
nth_last (x ∷ xs) y zero h = absurd (omega (arith, h))
nth_last (x ∷ xs) y (suc i) h = nth_last xs y i (omega (arith, h))

-- it stands in the first list, or after it
pub nth_in : {A : Type 0} (xs ys : List A) (i : ℕ) (x : A) → slice_get (xs ++ ys) i ≡ Some x
    → (slice_get xs i ≡ Some x) ⊎ ((k : ℕ) × (i ≡ length xs + k) × (slice_get ys k ≡ Some x))
nth_in [] ys i x h = inr (i, omega arith, h)
nth_in (y ∷ xs) ys zero x h = inl h
nth_in (y ∷ xs) ys (suc i) x h = deeper (nth_in xs ys i x h)
  where
    deeper : (slice_get xs i ≡ Some x) ⊎ ((k : ℕ) × (i ≡ length xs + k) × (slice_get ys k ≡ Some x))
        → (slice_get xs i ≡ Some x) ⊎ ((k : ℕ) × (suc i ≡ length (y ∷ xs) + k) × (slice_get ys k ≡ Some x))
    deeper (inl g) = inl g
    deeper (inr g) = let e = g.1 in inr (g.0, omega (arith, e), g.2)

pub nth_behind : {A : Type 0} (xs ys : List A) (k n : ℕ) → n ≡ length xs + k → slice_get (xs ++ ys) n ≡ slice_get ys k
nth_behind [] ys k n h = let e : n ≡ k = omega (arith, h) in ap (slice_get ys) e
nth_behind (x ∷ xs) ys k zero h = absurd (omega (arith, h))
nth_behind (x ∷ xs) ys k (suc n) h = nth_behind xs ys k n (omega (arith, h))

one_only : {A : Type 0} (y : A) (k : ℕ) (x : A) → slice_get (y ∷ []) k ≡ Some x → (k ≡ 0) × (x ≡ y)
one_only y zero x h = (refl, cc)
one_only y (suc k) x h = absurd (cc)

-- it stands in the list, or is the one that was put after
pub nth_end : {A : Type 0} (xs : List A) (y : A) (i : ℕ) (x : A) → slice_get (xs ++ y ∷ []) i ≡ Some x
    → (slice_get xs i ≡ Some x) ⊎ ((i ≡ length xs) × (x ≡ y))
nth_end xs y i x h = by (nth_in xs (y ∷ []) i x h)
  where
    by : (slice_get xs i ≡ Some x) ⊎ ((k : ℕ) × (i ≡ length xs + k) × (slice_get (y ∷ []) k ≡ Some x))
        → (slice_get xs i ≡ Some x) ⊎ ((i ≡ length xs) × (x ≡ y))
    by (inl g) = inl g
    by (inr g) = let o = one_only y g.0 x g.2 in let z = o.0 in let e = g.1 in inr (omega (arith, z, e), o.1)

-- at each number below its length a list has something
pub nth_found : {A : Type 0} (xs : List A) (i : ℕ) → i < length xs → (x : A) × (slice_get xs i ≡ Some x)
nth_found [] i h = absurd (omega (arith, h))
nth_found (x ∷ xs) zero h = (x, refl)
nth_found (x ∷ xs) (suc i) h = nth_found xs i (omega (arith, h))

-- ---- under a name

-- one of two that a test picks
more_by : {A : Type 0} (b : Bool) (x y : A) (o e : Option A) → (o ≡ Some x → e ≡ Some x)
    → (if b then Some y else o) ≡ Some x
    → (if b then Some y else e) ≡ Some x
more_by true x y o e f h = h
more_by false x y o e f h = f h

pub first_more : {A : Type 0} (n : List ℕ) (ps qs : List (List ℕ × A)) (x : A) → first_of n ps ≡ Some x
    → first_of n (ps ++ qs) ≡ Some x
first_more n [] qs x h = absurd (cc)
first_more n (p ∷ ps) qs x h =
    more_by (bytes_eq n p.0) x p.1 (first_of n ps) (first_of n (ps ++ qs)) (first_more n ps qs x) h

-- what is found was there, or is the one that was put after, under that very name
abbrev pub Either : {A : Type 0} → Option A → (x v : A) → (n k : List ℕ) → Type 0
Either o x v n k = (o ≡ Some x) ⊎ ((bytes_eq n k ≡ true) × (x ≡ v))

end_one : {A : Type 0} (b : Bool) (n k : List ℕ) (v x : A) → bytes_eq n k ≡ b → (if b then Some v else None) ≡ Some x
    → Either None x v n k
end_one true n k v x e h = inr (e, cc)
end_one false n k v x e h = inl h

end_by : {A : Type 0} (b : Bool) (n k : List ℕ) (v x y : A) (o e : Option A) → (e ≡ Some x → Either o x v n k)
    → (if b then Some y else e) ≡ Some x
    → Either (if b then Some y else o) x v n k
end_by true n k v x y o e f h = inl h
end_by false n k v x y o e f h = f h

pub first_end : {A : Type 0} (n : List ℕ) (ps : List (List ℕ × A)) (k : List ℕ) (v x : A)
    → first_of n (ps ++ (k, v) ∷ []) ≡ Some x
    → Either (first_of n ps) x v n k
first_end n [] k v x h = end_one (bytes_eq n k) n k v x refl h
first_end n (p ∷ ps) k v x h =
    end_by (bytes_eq n p.0) n k v x p.1 (first_of n ps) (first_of n (ps ++ (k, v) ∷ [])) (first_end n ps k v x) h

-- ---- all of two lists

pub all_append : {A : Type 0} (P : A → Type 0) (xs ys : List A) → AllByRecursion P xs → AllByRecursion P ys
    → AllByRecursion P (xs ++ ys)
all_append P [] ys f g = g
all_append P (x ∷ xs) ys f g = (f.0, all_append P xs ys f.1 g)
