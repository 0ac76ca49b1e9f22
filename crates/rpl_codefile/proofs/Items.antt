-- Reading so many things one after the other, as a loop does.
use Rattle.std.proofs.Common.{◌≡◌, ℕ, zero, suc, ◌-◌, ◌+◌, ◌≤◌, ◌<◌, List, [], ◌∷◌, ◌++◌, length, take, Option, Some}
use Rattle.std.proofs.Common.{None, refl, sym, ap, ◌∙◌, append_assoc, subst, arith}
use Rattle.std.proofs.lemmas.List.{append-nil}
use Rattle.std.proofs.lemmas.List.Concat.{flat_map-cons}
use Rattle.std.specs.List.{All, AllByRecursion, flat_map}
use Rattle.std.proofs.lemmas.List.Elements.{All-from_recursion, recursion_from_All}
use Rattle.std.specs.Prelude.{slice_get}
use Rattle.rpl_text.specs.Options.{◌>>=◌}
use Rattle.rpl_codefile.specs.declared.fault.CodeFault.{CodeFault}
use Rattle.rpl_codefile.specs.declared.fault.CodeFault.TheVariants as errors
use Rattle.rpl_codefile.specs.inside.Reading.{items_at}

-- what was read before, and what is still read
abbrev pub with_front : {X : Type 0} → List X → Option (List X × List ℕ) → Option (List X × List ℕ)
with_front front read = read >>= λ x. Some (front ++ x.0, x.1)

-- the same of an error
abbrev pub Fails : {Y : Type 0} → CodeFault → Option Y → Type 0
Fails errors.NoMemory read = Unit {0}
Fails errors.NotCode read = read ≡ None
Fails errors.NotSafe read = ⊥

module _ {X : Type 0} (read : List ℕ → Option (X × List ℕ)) where
  regroup : (front : List X) (n : X) (o : Option (List X × List ℕ)) → with_front front (o >>= λ x. Some (n ∷ x.0, x.1))
      ≡ with_front (front ++ n ∷ []) o
  regroup front n (Some x) = ap (λ ns. Some (ns, x.1)) (sym (append_assoc front (n ∷ []) x.0))
  regroup front n None = refl

  pub goes_on : (front : List X) (count i : ℕ) (bytes : List ℕ) (n : X) (after : List ℕ) (total :
      Option (List X × List ℕ)) → i < count → read bytes ≡ Some (n, after)
      → with_front front (items_at read (count - i) bytes) ≡ total
      → with_front (front ++ n ∷ []) (items_at read (count - (i + 1)) after) ≡ total
  unfolding items_at
  goes_on front count i bytes n after total lt h so_far =
      let k : count - i ≡ suc (count - (i + 1)) = omega (arith, lt) in
      let one : with_front front (items_at read (count - i) bytes)
      ≡ with_front (front ++ n ∷ []) (items_at read (count - (i + 1)) after) =
      rw (k, h) (regroup front n (items_at read (count - (i + 1)) after)) in
      sym one ∙ so_far

  pub ends : (e : CodeFault) (front : List X) (count i : ℕ) (bytes : List ℕ) (total : Option (List X × List ℕ))
      → i < count → Fails e (read bytes) → with_front front (items_at read (count - i) bytes) ≡ total → Fails e total
  unfolding items_at
  ends errors.NoMemory front count i bytes total lt h so_far = tt
  ends errors.NotSafe front count i bytes total lt h so_far = absurd h
  ends errors.NotCode front count i bytes total lt h so_far =
      let k : count - i ≡ suc (count - (i + 1)) = omega (arith, lt) in
      let one : with_front front (items_at read (count - i) bytes) ≡ None = rw (k, h) refl in
      sym so_far ∙ one

  pub is_done : (front : List X) (count i : ℕ) (bytes : List ℕ) (total : Option (List X × List ℕ)) → count ≤ i
      → with_front front (items_at read (count - i) bytes) ≡ total → total ≡ Some (front, bytes)
  unfolding items_at
  is_done front count i bytes total le so_far =
      let k : count - i ≡ 0 = omega (arith, le) in
      let one : with_front front (items_at read (count - i) bytes) ≡ Some (front, bytes) =
      rw k (ap (λ ns. Some (ns, bytes)) (append-nil front)) in
      sym so_far ∙ one

  pub begins : (count : ℕ) (bytes : List ℕ) → with_front [] (items_at read (count - 0) bytes)
      ≡ items_at read count bytes
  begins count bytes = let z : count - 0 ≡ count = omega arith in ap (λ n. with_front [] (items_at read n bytes)) z
      ∙ same (items_at read count bytes)
    where
      same : (o : Option (List X × List ℕ)) → with_front [] o ≡ o
      same None = refl
      same (Some x) = refl

-- one text more
pub take_more : (xs : List (List ℕ)) (n : ℕ) (x : List ℕ) (f : List ℕ → List ℕ) → slice_get xs n ≡ Some x
    → flat_map f (take (n + 1) xs) ≡ flat_map f (take n xs) ++ f x
take_more [] n x f e = absurd (cc)
take_more (y ∷ xs) zero x f e = let z : y ≡ x = cc in flat_map-cons f y [] ∙ append-nil (f y) ∙ ap f z
take_more (y ∷ xs) (suc n) x f e =
    let m : suc n + 1 ≡ suc (n + 1) = omega arith in
    ap (λ k. flat_map f (take k (y ∷ xs))) m ∙ flat_map-cons f y (take (n + 1) xs)
    ∙ ap (λ l. f y ++ l) (take_more xs n x f e) ∙ sym (append_assoc (f y) (flat_map f (take n xs)) (f x))
    ∙ ap (λ l. l ++ f x) (sym (flat_map-cons f y (take n xs)))

pub not_past : {A : Type 0} (xs : List A) (n : ℕ) → None ≡ slice_get xs n → n < length xs → ⊥
not_past [] n e lt = omega (arith, lt)
not_past (x ∷ xs) zero e lt = absurd (cc)
not_past (x ∷ xs) (suc n) e lt = not_past xs n e (omega (arith, lt))

rec_more : {A : Type 0} (P : A → Type 0) (xs : List A) (i : ℕ) (x : A) → slice_get xs i ≡ Some x → P x
    → AllByRecursion P (take i xs) → AllByRecursion P (take (i + 1) xs)
rec_more P [] i x e p h = absurd (cc)
rec_more P (y ∷ xs) zero x e p h = let z : x ≡ y = cc in (subst P z p, tt)
rec_more P (y ∷ xs) (suc i) x e p h =
    let m : suc (i + 1) ≡ suc i + 1 = omega arith in
    subst (λ k. AllByRecursion P (take k (y ∷ xs))) m (h.0, rec_more P xs i x e p h.1)

-- what holds of the first ones and of the next
pub all_more : {A : Type 0} (P : A → Type 0) (xs : List A) (i : ℕ) (x : A) → slice_get xs i ≡ Some x → P x
    → All P (take i xs) → All P (take (i + 1) xs)
all_more P xs i x e p h =
    All-from_recursion P (take (i + 1) xs) (rec_more P xs i x e p (recursion_from_All P (take i xs) h))

-- one thing more
pub more_items : {A : Type 0} (f : A → List ℕ) (xs : List A) (i : ℕ) (x : A) → slice_get xs i ≡ Some x
    → flat_map f (take (i + 1) xs) ≡ flat_map f (take i xs) ++ f x
more_items f [] i x e = absurd (cc)
more_items f (y ∷ xs) zero x e = let z : y ≡ x = cc in flat_map-cons f y [] ∙ append-nil (f y) ∙ ap f z
more_items f (y ∷ xs) (suc n) x e =
    let m : suc n + 1 ≡ suc (n + 1) = omega arith in
    ap (λ k. flat_map f (take k (y ∷ xs))) m ∙ flat_map-cons f y (take (n + 1) xs)
    ∙ ap (λ l. f y ++ l) (more_items f xs n x e) ∙ sym (append_assoc (f y) (flat_map f (take n xs)) (f x))
    ∙ ap (λ l. l ++ f x) (sym (flat_map-cons f y (take n xs)))

-- both, after what was there
pub put_more : {A : Type 0} (f : A → List ℕ) (P : A → Type 0) (start out new : List ℕ) (xs : List A) (i : ℕ) (x : A)
    → slice_get xs i ≡ Some x → (out ≡ start ++ flat_map f (take i xs)) × All P (take i xs) → new ≡ out ++ f x → P x
    → (new ≡ start ++ flat_map f (take (i + 1) xs)) × All P (take (i + 1) xs)
put_more f P start out new xs i x e h n p = (
  n ∙ ap (λ l. l ++ f x) h.0 ∙ append_assoc start (flat_map f (take i xs)) (f x)
      ∙ ap (λ l. start ++ l) (sym (more_items f xs i x e)),
  all_more P xs i x e p h.1,
)
