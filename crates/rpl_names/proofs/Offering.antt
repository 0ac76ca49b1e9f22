-- The names under a prefix, and those that the module there offers.
use Rattle.std.proofs.Common.{arith, ◌≡◌, ◌≢◌, ◌≤◌, ℕ, zero, suc, List, [], ◌∷◌, ◌++◌, length, map, Option, Some, None}
use Rattle.std.proofs.Common.{Bool, true, false, refl, sym, ap, ap₂, ◌∙◌}
use Rattle.std.specs.Prelude.{Result, Ok, Err, cond, if◌then◌else◌, nat_lt, not, slice_get}
use Rattle.std.specs.List.{flat_map}
use Rattle.std.specs.Str.{bytes_eq}
use Rattle.std.proofs.lemmas.List.{map-append}
use Rattle.std.proofs.lemmas.List.Concat.{flat_map-append}
use Rattle.rpl_scope.specs.Packages.{Module, bound, first_of, prefixed, shared_of}
use Rattle.rpl_scope.specs.declared.module.Entry.{Entry}
use Rattle.rpl_scope.specs.declared.module.Prefix.{Prefix}
use Rattle.rpl_scope.specs.declared.scope.Found.TheVariants.{Unknown}
use Rattle.rpl_scope.proofs.Scopes.{bound_full}
use Rattle.rpl_names.specs.Names.{after, all_listed, listed, listed_by, listed_under, names_of, offered_in}
use Rattle.rpl_names.specs.Names.{offered_name, known_in, own_listed, prefixes, prefixes_of, StandsUnder}
use Rattle.rpl_names.specs.Roots.{Packages}
use Rattle.rpl_names.specs.Tables.{boundary_name}
use Rattle.rpl_names.specs.Targets.{resolved, resolved_in, size_of, target}
use Rattle.rpl_names.specs.declared.targets.NameFault.{NameFault}
use Rattle.rpl_names.specs.declared.targets.Target.{Target}
use Rattle.rpl_names.specs.inside.Listing.{named}
use Rattle.rpl_names.proofs.Listing.{flat_of_flat}

pub not_true : (b : Bool) → not b ≡ true → b ≡ false
not_true true h = absurd (cc)
not_true false h = refl

-- a target is listed under a prefix as it is without one, after the prefix
retold : (p : Packages) (pre n : List ℕ) (b : Bool) (r : Result Target NameFault)
    → cond b [] (listed_by p (named (Some pre) n) r) ≡ map (after pre) (cond b [] (listed_by p (named None n) r))
retold p pre n true r = refl
retold p pre n false (Ok t) = refl
retold p pre n false (Err f) = refl

module _ (p : Packages) (pre : List ℕ) (top : Module) (u : Prefix) (is : slice_get p.stock.modules p.top ≡ Some top)
    (stands : first_of pre top.prefixes ≡ Some u) (full : pre ≢ [])
    (seen : nat_lt (length top.rules) u.since ≡ false) where
  one_name : (n : List ℕ) → listed p (named (Some pre) n) ≡ map (after pre) (offered_name p u.number n)
  one_name n =
      let ms = p.stock.modules in
      let q = named (Some pre) n in
      let start = length top.rules in
      let found = shared_of u.number n (slice_get ms u.number) in
      let there : bound ms top start q ≡ found =
      sym (bound_full ms top start q pre refl full) ∙ ap (prefixed ms start n) stands
      ∙ ap (λ b. if b then Unknown else found) seen in
      let site : resolved p None q ≡ target ms p.top (bound ms top start q) =
      ap (λ o. resolved_in ms p.top (size_of o) q o) is in
      ap (λ r. cond (bytes_eq n boundary_name) [] (listed_by p q r)) (site ∙ ap (target ms p.top) there)
      ∙ retold p pre n (bytes_eq n boundary_name) (target ms p.top found)

  each_name : (es : List (List ℕ × Entry)) → flat_map (listed p) (map (λ e. named (Some pre) e.0) es)
      ≡ map (after pre) (flat_map (λ e. offered_name p u.number e.0) es)
  each_name [] = refl
  each_name (e ∷ es) =
      ap₂ (λ xs ys. xs ++ ys) (one_name e.0) (each_name es)
      ∙ sym (map-append (after pre) (offered_name p u.number e.0) (flat_map (λ e. offered_name p u.number e.0) es))

  in_module : (o : Option Module) → flat_map (listed p) (names_of (Some pre) o)
      ≡ map (after pre) (offered_in p u.number o)
  in_module None = refl
  in_module (Some m) = each_name m.names

  pub stands_under : (k : ℕ) → slice_get top.prefixes k ≡ Some (pre, u) → StandsUnder p k pre (Some u.number)
  stands_under k there = record {
    entry = (pre, u);
    is = ap (λ o. slice_get (prefixes_of o) k) is ∙ there;
    named = refl;
    offered = in_module (slice_get p.stock.modules u.number);
  }

-- a prefix of which nothing more is said
pub stands : (p : Packages) (pre : List ℕ) (top : Module) (u : Prefix) (k : ℕ)
    → slice_get p.stock.modules p.top ≡ Some top → slice_get top.prefixes k ≡ Some (pre, u) → StandsUnder p k pre None
stands p pre top u k is there = record {
  entry = (pre, u);
  is = ap (λ o. slice_get (prefixes_of o) k) is ∙ there;
  named = refl;
  offered = tt;
}

pub beyond : {A : Type 0} (xs : List A) (k : ℕ) → slice_get xs k ≡ None → length xs ≤ k
beyond [] k h = omega arith
beyond (x ∷ xs) zero h = absurd (cc)
beyond (x ∷ xs) (suc k) h = let n = beyond xs k h in omega (arith, n)

in_parts : (p : Packages) (o : Option Module) → flat_map (listed p) (known_in p.stock.modules o)
    ≡ flat_map (listed p) (names_of None o) ++ flat_map (listed_under p) (prefixes_of o)
in_parts p None = refl
in_parts p (Some m) =
    let below = λ (e : List ℕ × Prefix). names_of (Some e.0) (slice_get p.stock.modules e.1.number) in
    flat_map-append (listed p) (names_of None (Some m)) (flat_map below m.prefixes)
    ∙ ap (λ l. flat_map (listed p) (names_of None (Some m)) ++ l) (flat_of_flat (listed p) below m.prefixes)

-- all names are those of the top module, and those under each of its prefixes
pub all_in_parts : (p : Packages) → all_listed p ≡ own_listed p ++ flat_map (listed_under p) (prefixes p)
all_in_parts p = in_parts p (slice_get p.stock.modules p.top)
