-- A list in another order, with a list in place of each member.
use Rattle.std.proofs.Common.{arith, ◌<◌, ℕ, zero, suc, List, [], ◌∷◌, ◌++◌, length, get_or, set, append_assoc}
use Rattle.std.proofs.Common.{sym, subst}
use Rattle.std.specs.List.{flat_map, swap}
use Rattle.std.specs.List.Sorted.{IsPermutation}
use Rattle.std.proofs.lemmas.List.Edits.{swap_is}
use Rattle.std.proofs.lemmas.List.Sorted.{IsPermutation-append_comm, IsPermutation-append_left}
use Rattle.std.proofs.lemmas.List.Sorted.{IsPermutation-append_right, IsPermutation-keeps}
use Rattle.std.proofs.lemmas.List.Sorted.{IsPermutation-refl, IsPermutation-trans}

fronts_swap : {A : Type 0} (a b c : List A) → IsPermutation (a ++ (b ++ c)) (b ++ (a ++ c))
fronts_swap {A} a b c =
    let P : List A → Type 0 = λ l. IsPermutation l (b ++ (a ++ c)) in
    let Q : List A → Type 0 = λ l. IsPermutation ((a ++ b) ++ c) l in
    subst P (append_assoc a b c) (subst Q (append_assoc b a c)
    (IsPermutation-append_left c (a ++ b) (b ++ a) (IsPermutation-append_comm a b)))

module _ {A B : Type 0} (f : A → List B) where
  -- a member comes to the front, and the first takes its place
  to_front : (l : List A) (k : ℕ) (x : A) → k < length l
      → IsPermutation (f x ++ flat_map f l) (f (get_or l k x) ++ flat_map f (set l k x))
  to_front [] k x h = absurd (omega arith)
  to_front (z ∷ l) zero x h = fronts_swap (f x) (f z) (flat_map f l)
  to_front (z ∷ l) (suc k) x h =
      let y = get_or l k x in
      let rest = flat_map f (set l k x) in
      let inner = to_front l k x (omega arith) in
      IsPermutation-trans (f x ++ (f z ++ flat_map f l)) (f z ++ (f x ++ flat_map f l)) (f y ++ (f z ++ rest))
      (fronts_swap (f x) (f z) (flat_map f l))
      (IsPermutation-trans (f z ++ (f x ++ flat_map f l)) (f z ++ (f y ++ rest)) (f y ++ (f z ++ rest))
      (IsPermutation-append_right (f z) (f x ++ flat_map f l) (f y ++ rest) inner)
      (fronts_swap (f z) (f y) rest))

  swapped : (l : List A) (i j : ℕ) → i < length l → j < length l
      → IsPermutation (flat_map f l) (flat_map f (swap l i j))
  swapped [] i j h k = absurd (omega arith)
  swapped (z ∷ l) zero zero h k = IsPermutation-refl (flat_map f (z ∷ l))
  swapped (z ∷ l) zero (suc j) h k = to_front l j z (omega arith)
  swapped (z ∷ l) (suc i) zero h k = to_front l i z (omega arith)
  swapped (z ∷ l) (suc i) (suc j) h k =
      let lt : i < length l = omega arith in
      let lt' : j < length l = omega arith in
      let P : List A → Type 0 = λ m. IsPermutation (f z ++ flat_map f l) (f z ++ flat_map f m) in
      subst P (sym (swap_is l i j z lt lt'))
      (IsPermutation-append_right (f z) (flat_map f l) (flat_map f (swap l i j)) (swapped l i j lt lt'))

  pub flat_moved : (xs ys : List A) → IsPermutation xs ys → IsPermutation (flat_map f xs) (flat_map f ys)
  flat_moved xs ys moved =
      IsPermutation-keeps xs (λ l. IsPermutation (flat_map f xs) (flat_map f l)) (IsPermutation-refl (flat_map f xs))
      (λ l i j h k is.
      IsPermutation-trans (flat_map f xs) (flat_map f l) (flat_map f (swap l i j)) is (swapped l i j h k))
      ys moved
