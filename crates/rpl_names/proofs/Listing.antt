-- Steps of a listing.
use Rattle.std.proofs.Common.{arith, ◌≡◌, ◌≢◌, ◌≤◌, ◌+◌, ◌++◌, ℕ, zero, suc, List, [], ◌∷◌, length, map, take}
use Rattle.std.proofs.Common.{Bool, true, false, Some, None, refl, sym, ap, ◌∙◌}
use Rattle.std.specs.Prelude.{cond, if◌then◌else◌, nat_lt, slice_get}
use Rattle.std.specs.List.{flat_map}
use Rattle.std.specs.Str.{bytes_eq}
use Rattle.std.proofs.lemmas.List.{flat_map_more, take_all}
use Rattle.std.proofs.lemmas.List.Concat.{flat_map-append}
use Rattle.rpl_scope.specs.Packages.{Module, bound, first_of, offered, prefixed, shared, shared_of}
use Rattle.rpl_scope.specs.declared.module.Entry.{Entry}
use Rattle.rpl_scope.specs.declared.module.Referent.{Referent}
use Rattle.rpl_scope.specs.declared.module.Referent.TheVariants.{Own, Of, BuiltIn}
use Rattle.rpl_scope.specs.declared.scope.Found.{Found}
use Rattle.rpl_scope.specs.declared.scope.Found.TheVariants.{Unknown}
use Rattle.rpl_scope.proofs.Scopes.{bound_full}
use Rattle.rpl_names.specs.Names.{listed, listed_by}
use Rattle.rpl_names.specs.Roots.{Packages}
use Rattle.rpl_names.specs.Tables.{boundary_name}
use Rattle.rpl_names.specs.Targets.{binds, is_own, resolved, resolved_in, size_of, target}
use Rattle.rpl_names.specs.inside.Listing.{IsUnder, named}

take_next : {A : Type 0} (xs : List A) (i : ℕ) (x : A) → slice_get xs i ≡ Some x → take (i + 1) xs ≡ take i xs ++ x ∷ []
take_next [] i x h = absurd (cc)
take_next (y ∷ ys) zero x h = let e : y ≡ x = cc in ap (λ z. z ∷ []) e
take_next (y ∷ ys) (suc i) x h = let e : suc i + 1 ≡ suc (i + 1) = omega arith in rw e
    (ap (λ l. y ∷ l) (take_next ys i x h))

flat_of_map : {A B C : Type 0} (f : B → List C) (h : A → B) (xs : List A)
    → flat_map f (map h xs) ≡ flat_map (λ x. f (h x)) xs
flat_of_map f h [] = refl
flat_of_map f h (x ∷ xs) = ap (λ l. f (h x) ++ l) (flat_of_map f h xs)

pub flat_of_flat : {A B C : Type 0} (f : B → List C) (g : A → List B) (xs : List A)
    → flat_map f (flat_map g xs) ≡ flat_map (λ x. flat_map f (g x)) xs
flat_of_flat f g [] = refl
flat_of_flat f g (x ∷ xs) = flat_map-append f (g x) (flat_map g xs)
    ∙ ap (λ l. flat_map f (g x) ++ l) (flat_of_flat f g xs)

-- the members up to the i-th are listed after the start, and then that one
pub more : {A C : Type 0} (f : A → List C) (xs : List A) (i : ℕ) (x : A) (start now new : List C)
    → slice_get xs i ≡ Some x → now ≡ start ++ flat_map f (take i xs) → new ≡ now ++ f x
    → new ≡ start ++ flat_map f (take (i + 1) xs)
more f xs i x start now new h e k =
    k ∙ ap (λ l. l ++ f x) e ∙ flat_map_more f start (take i xs) x
    ∙ ap (λ l. start ++ flat_map f l) (sym (take_next xs i x h))

pub all_of : {A C : Type 0} (f : A → List C) (xs : List A) (i : ℕ) (start now : List C) → length xs ≤ i
    → now ≡ start ++ flat_map f (take i xs) → now ≡ start ++ flat_map f xs
all_of f xs i start now h e = e ∙ ap (λ l. start ++ flat_map f l) (take_all i xs h)

-- all of them
pub done : {A B C : Type 0} (f : B → List C) (h : A → B) (xs : List A) (i : ℕ) (start now : List C) → length xs ≤ i
    → now ≡ start ++ flat_map (λ x. f (h x)) (take i xs) → now ≡ start ++ flat_map f (map h xs)
done f h xs i start now n e = all_of (λ x. f (h x)) xs i start now n e ∙ ap (λ l. start ++ l) (sym (flat_of_map f h xs))

pub done_each : {A B C : Type 0} (f : B → List C) (g : A → List B) (xs : List A) (i : ℕ) (start now : List C)
    → length xs ≤ i → now ≡ start ++ flat_map (λ x. flat_map f (g x)) (take i xs)
    → now ≡ start ++ flat_map f (flat_map g xs)
done_each f g xs i start now n e = all_of (λ x. flat_map f (g x)) xs i start now n e
    ∙ ap (λ l. start ++ l) (sym (flat_of_flat f g xs))

-- ---- names that a module has taken in

cond_same : {A : Type 0} (b : Bool) (x : A) → cond b x x ≡ x
cond_same true x = refl
cond_same false x = refl

-- what an entry is to importers, where no statement of its module binds the name
not_offered : (i : ℕ) (e : Entry) (r : Referent) → is_own r ≡ false → offered i e r ≡ Unknown
not_offered i e (Own k) h = absurd (cc)
not_offered i e (Of m k) h = refl
not_offered i e BuiltIn h = refl

since_either : (b : Bool) (f : Found) → f ≡ Unknown → (if b then Unknown else f) ≡ Unknown
since_either true f h = refl
since_either false f h = h

module _ (p : Packages) (pre : List ℕ) (number : ℕ) (n : List ℕ) (u : IsUnder p pre number) where
  -- it isn't listed
  pub passed_over : (from : Module) (e : Entry) → pre ≢ [] → slice_get p.stock.modules number ≡ Some from
      → first_of n from.names ≡ Some e → binds (Some e) ≡ false → listed p (named (Some pre) n) ≡ []
  passed_over from e full there entry own =
      let ms = p.stock.modules in
      let q = named (Some pre) n in
      let start = length u.top.rules in
      let offers = ap (shared number) entry ∙ not_offered number e e.referent own in
      let unknown = ap (λ o. shared_of number n o) there ∙ offers in
      let under = ap (λ i. shared_of i n (slice_get ms i)) u.numbered ∙ unknown in
      let found = since_either (nat_lt start u.under.since) (shared_of u.under.number n (slice_get ms u.under.number))
      under
      in
      let stands : bound ms u.top start q ≡ Unknown =
      sym (bound_full ms u.top start q pre refl full) ∙ ap (prefixed ms start n) u.stands ∙ found in
      let site : resolved p None q ≡ target ms p.top (bound ms u.top start q) =
      ap (λ o. resolved_in ms p.top (size_of o) q o) u.is in
      let none = site ∙ ap (target ms p.top) stands in
      ap (λ r. cond (bytes_eq n boundary_name) [] (listed_by p q r)) none ∙ cond_same (bytes_eq n boundary_name) []
