-- Tables that keep each thing once.
use Rattle.std.proofs.Common.{◌≡◌, ℕ, zero, suc, ◌<◌, List, [], ◌∷◌, ◌++◌, length, Some, refl, sym, ap, ◌∙◌, subst}
use Rattle.std.proofs.Common.{arith, inl, inr, ⊎_elim}
use Rattle.std.proofs.lemmas.Option.{slice_get_within}
use Rattle.std.specs.Prelude.{◌⊎◌, slice_get, slice_index_or}
use Rattle.std.specs.List.{Contains}
use Rattle.rpl_intern.specs.Uses.{Keeps}
use Rattle.rpl_codefile.specs.inside.Tables.{Apart}

some_eq : {A : Type 0} (x y : A) → Some x ≡ Some y → x ≡ y
some_eq x y e = cc

pub read_any : {A : Type 0} (xs : List A) (k : ℕ) (x d : A) → slice_get xs k ≡ Some x → slice_index_or xs k d ≡ x
read_any [] k x d e = absurd (cc)
read_any (y ∷ xs) zero x d e = cc
read_any (y ∷ xs) (suc k) x d e = read_any xs k x d e

pub there : {A : Type 0} (xs : List A) (k : ℕ) (x : A) → slice_get xs k ≡ Some x → Contains xs x
there xs k x e = (k, slice_get_within xs k x e, read_any xs k x x e)

pub get_there : {A : Type 0} (xs : List A) (k : ℕ) (d : A) → k < length xs
    → slice_get xs k ≡ Some (slice_index_or xs k d)
get_there [] k d lt = absurd (omega (arith, lt))
get_there (x ∷ xs) zero d lt = refl
get_there (x ∷ xs) (suc k) d lt = get_there xs k d (omega (arith, lt))

-- what stands in a list with one more
which : {A : Type 0} (xs : List A) (y : A) (k : ℕ) (x : A) → slice_get (xs ++ y ∷ []) k ≡ Some x
    → (slice_get xs k ≡ Some x) ⊎ ((k ≡ length xs) × (y ≡ x))
which [] y zero x e = inr (refl, some_eq y x e)
which [] y (suc k) x e = absurd (cc)
which (z ∷ xs) y zero x e = inl e
which (z ∷ xs) y (suc k) x e = ⊎_elim (λ h. inl h) (λ h. inr (ap suc h.0, h.1)) (which xs y k x e)

pub apart_more : {A : Type 0} (t : List A) (y : A) → (Contains t y → ⊥) → Apart t → Apart (t ++ y ∷ [])
apart_more t y new h i j x p q = ⊎_elim
    (λ a. ⊎_elim (λ b. h i j x a b) (λ b. absurd (new (subst (Contains t) (sym b.1) (there t i x a))))
    (which t y j x q))
    (λ a. ⊎_elim (λ b. absurd (new (subst (Contains t) (sym a.1) (there t j x b)))) (λ b. a.0
    ∙ sym b.0) (which t y j x q))
    (which t y i x p)

-- nothing is twice in a table that keeps each use once
pub keeps_apart : {A : Type 0} (t xs o : List A) → Apart t → Keeps t xs o → Apart o
keeps_apart t [] o h k = subst Apart (sym k) h
keeps_apart t (x ∷ xs) o h (inl k) = keeps_apart t xs o h k.1
keeps_apart t (x ∷ xs) o h (inr k) = keeps_apart (t ++ x ∷ []) xs o (apart_more t x k.0 h) k.1

pub none_apart : {A : Type 0} → Apart {A = A} []
none_apart i j x p q = absurd (cc)

-- and there is one such table
pub keeps_same : {A : Type 0} (t xs o p : List A) → Keeps t xs o → Keeps t xs p → o ≡ p
keeps_same t [] o p h k = h ∙ sym k
keeps_same t (x ∷ xs) o p (inl h) (inl k) = keeps_same t xs o p h.1 k.1
keeps_same t (x ∷ xs) o p (inl h) (inr k) = absurd (k.0 h.0)
keeps_same t (x ∷ xs) o p (inr h) (inl k) = absurd (h.0 k.0)
keeps_same t (x ∷ xs) o p (inr h) (inr k) = keeps_same (t ++ x ∷ []) xs o p h.1 k.1
