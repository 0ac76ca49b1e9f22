-- Names of which no two are the same, in lists and under the keys of lists.
use Rattle.std.proofs.Common.{◌≡◌, ◌≢◌, ℕ, zero, suc, List, [], ◌∷◌, ◌++◌, Option, Some, None, refl, sym, ap, ◌∙◌}
use Rattle.std.specs.Prelude.{Bool, true, false, if◌then◌else◌, slice_get}
use Rattle.std.specs.List.{AllByRecursion}
use Rattle.std.specs.Str.{bytes_eq}
use Rattle.std.proofs.lemmas.Slice.Eq.{bytes_eq-Decides}
use Rattle.rpl_core.specs.Table.{AreDistinct}
use Rattle.rpl_scope.specs.Packages.{first_of}
use Rattle.rpl_expand.proofs.FullNames.{IsUnbroken}

-- ---- in a list

-- none of them is x
abbrev pub Lacks : List (List ℕ) → List ℕ → Type 0
Lacks [] x = Unit {0}
Lacks (y ∷ ys) x = (x ≢ y) × Lacks ys x

-- no two are the same
abbrev pub AllApart : List (List ℕ) → Type 0
AllApart [] = Unit {0}
AllApart (x ∷ xs) = Lacks xs x × AllApart xs

-- none of the first is one of the second
abbrev pub NoneOf : List (List ℕ) → List (List ℕ) → Type 0
NoneOf [] ys = Unit {0}
NoneOf (x ∷ xs) ys = Lacks ys x × NoneOf xs ys

pub lacks_append : (xs ys : List (List ℕ)) (x : List ℕ) → Lacks xs x → Lacks ys x → Lacks (xs ++ ys) x
lacks_append [] ys x g h = h
lacks_append (y ∷ xs) ys x g h = (g.0, lacks_append xs ys x g.1 h)

pub apart_append : (xs ys : List (List ℕ)) → AllApart xs → AllApart ys → NoneOf xs ys → AllApart (xs ++ ys)
apart_append [] ys g h n = h
apart_append (x ∷ xs) ys g h n = (lacks_append xs ys x g.0 n.0, apart_append xs ys g.1 h n.1)

lacks_at : (xs : List (List ℕ)) (x y : List ℕ) (i : ℕ) → Lacks xs x → slice_get xs i ≡ Some y → x ≢ y
lacks_at [] x y i l h e = absurd cc
lacks_at (z ∷ xs) x y zero l h e = let k : z ≡ y = cc in l.0 (e ∙ sym k)
lacks_at (z ∷ xs) x y (suc i) l h e = lacks_at xs x y i l.1 h e

-- each stands at one number
pub apart_distinct : (xs : List (List ℕ)) → AllApart xs → AreDistinct xs
apart_distinct [] a i j x f g = absurd cc
apart_distinct (y ∷ xs) a zero zero x f g = refl
apart_distinct (y ∷ xs) a zero (suc j) x f g =
    let e : y ≡ x = cc in absurd (lacks_at xs y x j a.0 g e)
apart_distinct (y ∷ xs) a (suc i) zero x f g =
    let e : y ≡ x = cc in absurd (lacks_at xs y x i a.0 f e)
apart_distinct (y ∷ xs) a (suc i) (suc j) x f g = ap suc (apart_distinct xs a.1 i j x f g)

-- ---- the keys of a list

abbrev pub keys : {A : Type 0} → List (List ℕ × A) → List (List ℕ)
keys [] = []
keys (p ∷ ps) = p.0 ∷ keys ps

none_at : {A : Type 0} (b : Bool) (x : A) (o : Option A) → (if b then Some x else o) ≡ None → (b ≡ false) × (o ≡ None)
none_at true x o h = absurd cc
none_at false x o h = (refl, h)

-- under a name where nothing stands, no key is that name
none_lacks : {A : Type 0} (k : List ℕ) (ps : List (List ℕ × A)) → first_of k ps ≡ None → Lacks (keys ps) k
none_lacks k [] h = tt
none_lacks k (p ∷ ps) h =
    let n = none_at (bytes_eq k p.0) p.1 (first_of k ps) h in (
      λ e. (let same : bytes_eq k p.0 ≡ true = (bytes_eq-Decides k p.0).1 e in let other = n.0 in absurd cc),
      none_lacks k ps n.1,
    )

lacks_more : {A : Type 0} (n k : List ℕ) (x : A) (ps : List (List ℕ × A)) → Lacks (keys ps) n → n ≢ k
    → Lacks (keys (ps ++ (k, x) ∷ [])) n
lacks_more n k x [] l d = (d, tt)
lacks_more n k x (p ∷ ps) l d = (l.0, lacks_more n k x ps l.1 d)

one_more : {A : Type 0} (k : List ℕ) (x : A) (ps : List (List ℕ × A)) → AllApart (keys ps) → Lacks (keys ps) k
    → AllApart (keys (ps ++ (k, x) ∷ []))
one_more k x [] a l = (tt, tt)
one_more k x (p ∷ ps) a l = (lacks_more p.0 k x ps a.0 (λ e. l.0 (sym e)), one_more k x ps a.1 l.1)

-- a new key is another one
pub keys_more : {A : Type 0} (k : List ℕ) (x : A) (ps : List (List ℕ × A)) → AllApart (keys ps) → first_of k ps ≡ None
    → AllApart (keys (ps ++ (k, x) ∷ []))
keys_more k x ps a h = one_more k x ps a (none_lacks k ps h)

pub unbroken_more : {A : Type 0} (k : List ℕ) (x : A) (ps : List (List ℕ × A)) → AllByRecursion IsUnbroken (keys ps)
    → IsUnbroken k → AllByRecursion IsUnbroken (keys (ps ++ (k, x) ∷ []))
unbroken_more k x [] a d = (d, tt)
unbroken_more k x (p ∷ ps) a d = (a.0, unbroken_more k x ps a.1 d)
