-- Imports that are entered, where the names of some modules are all there already.
use Rattle.std.proofs.Common.{◌≡◌, ℕ, zero, suc, ◌<◌, List, [], ◌∷◌, ◌++◌, length, Some, true, refl, sym, ap, ap₂}
use Rattle.std.proofs.Common.{subst, arith}
use Rattle.std.specs.Prelude.{Ok, nat_eq, take, slice_get}
use Rattle.std.specs.List.{All, list_any}
use Rattle.std.proofs.lemmas.Bool.{eqb-true}
use Rattle.std.proofs.lemmas.List.{length-map}
use Rattle.std.proofs.lemmas.List.Elements.{All-get_or, All-push, All-weaker}
use Rattle.std.proofs.lemmas.Map.Views.{Contains-from_any}
use Rattle.rpl_syntax.specs.declared.module.Import.{Import}
use Rattle.rpl_syntax.specs.declared.module.ImportAs.{ImportAs}
use Rattle.rpl_syntax.specs.declared.module.ImportAs.TheVariants.{Last, Named, Plain}
use Rattle.rpl_scope.specs.Faults.{◌>>=◌, StopIs}
use Rattle.rpl_scope.specs.Imports.{numbered, take_in}
use Rattle.rpl_scope.specs.Packages.{Module}
use Rattle.rpl_scope.specs.Seen.{module_seen, modules_seen}
use Rattle.rpl_scope.specs.declared.fault.Stop.{Stop}
use Rattle.rpl_scope.specs.declared.module.Module.{Module as Declared}
use Rattle.rpl_scope.specs.Taken.{Grows, HasAll}
use Rattle.rpl_scope.proofs.Stops.{stops}
use Rattle.rpl_scope.proofs.Taken.{grows, has_more, plain_taken}
use Rattle.rpl_package.specs.Asking.{IsTold, Outcome}
use Rattle.rpl_package.specs.inside.Stopping.{Comes, MayStop}
use Rattle.rpl_names.specs.Loading.{World, Walk, Stock, State, brought, import_entry, import_entries, load_import}
use Rattle.rpl_names.specs.Loading.{walk, world}
use Rattle.rpl_names.specs.declared.stock.Head.{Head}
use Rattle.rpl_package.specs.inside.Taken.{is_plain}
use Rattle.rpl_package.proofs.Outcomes.{Follows, comes_lead, may, may_lead, may_then, same, then_follows, there}
use Rattle.rpl_package.proofs.Outcomes.{told_lead, told_then, turn_on, turn_stop, turn_told}

pub plain : (a : ImportAs) → is_plain a ≡ true → a ≡ Plain
plain Last h = absurd (cc)
plain (Named p) h = absurd (cc)
plain Plain h = refl

-- ---- the modules whose names are all there

-- a module of these is one of them
pub is_taken : (ms : List Module) (m : Module) (js : List ℕ) (j : ℕ) → All (HasAll ms m) js
    → list_any (λ i. nat_eq i j) js ≡ true → HasAll ms m j
is_taken ms m js j h e =
    let c = Contains-from_any {eq = λ x y. nat_eq y x} (λ x y t. sym (eqb-true y x t)) j js e in
    subst (HasAll ms m) c.2 (All-get_or (HasAll ms m) js c.0 j c.1 h)

-- they stay so while names are added
pub all_more : (ms : List Module) (m n : Module) (js : List ℕ) → Grows m n → All (HasAll ms m) js → All (HasAll ms n) js
all_more ms m n js g h =
    All-weaker (HasAll ms m) (HasAll ms n) (λ j x. (x.0, x.1, has_more j (numbered 0 x.0.rules) m n g x.2)) js h

-- and while modules are loaded
nth_same : {A : Type 0} (xs ys : List A) (j : ℕ) (x : A) → take (length xs) ys ≡ xs → slice_get xs j ≡ Some x
    → slice_get ys j ≡ Some x
nth_same [] ys j x e h = absurd (cc)
nth_same (a ∷ xs) [] j x e h = absurd (cc)
nth_same (a ∷ xs) (b ∷ ys) zero x e h = cc
nth_same (a ∷ xs) (b ∷ ys) (suc j) x e h = nth_same xs ys j x (cc) h

pub all_on : (ms ns : List Module) (m : Module) (js : List ℕ) → take (length ms) ns ≡ ms → All (HasAll ms m) js
    → All (HasAll ns m) js
all_on ms ns m js e h = All-weaker (HasAll ms m) (HasAll ns m) (λ j x. (x.0, nth_same ms ns j x.0 e x.1, x.2)) js h

-- what an import brings leaves them so
pub stay : (f : List ℕ) (i : Import) (j : ℕ) (ms : List Module) (m n : Module) (js : List ℕ) → take_in f i j ms m ≡ Ok n
    → All (HasAll ms m) js → All (HasAll ms n) js
stay f i j ms m n js e h = all_more ms m n js (grows f i j ms m n e) h

nth_some : {A : Type 0} (xs : List A) (j : ℕ) → j < length xs → (x : A) × (slice_get xs j ≡ Some x)
nth_some [] j lt = absurd (omega (arith, lt))
nth_some (x ∷ xs) zero lt = (x, refl)
nth_some (x ∷ xs) (suc j) lt = nth_some xs j (omega (arith, lt))

-- and where it brings names without a prefix, its module is one of them
pub stay_with : (f : List ℕ) (i : Import) (j : ℕ) (ms : List Declared) (m n : Module) (js : List ℕ)
    → is_plain i.name ≡ true → j < length ms → take_in f i j (modules_seen ms) m ≡ Ok n
    → All (HasAll (modules_seen ms) m) js → All (HasAll (modules_seen ms) n) (js ++ j ∷ [])
stay_with f i j ms m n js is lt e h =
    let count = length-map ms module_seen in
    let from = nth_some (modules_seen ms) j (omega (arith, lt, count)) in
    All-push (HasAll (modules_seen ms) n) js j (stay f i j (modules_seen ms) m n js e h)
    (plain_taken f i j (modules_seen ms) m n from.0 (plain i.name is) from.1 e)

-- ---- an import entry, whose module is reached

module _ {m n : List (List ℕ)} (w : World) (below : Walk) (hs : List Head) (f : List ℕ) (i : Import) (s : State) (r :
    ℕ × Stock) (reached : Comes m n r (load_import w below hs f i s.stock)) where
  -- what stops what it brings stops the entry
  entry_stops : (stop : Stop) → StopIs stop (take_in f i r.0 r.1.modules s.own)
      → MayStop m n stop (import_entry w below hs f i s)
  entry_stops stop h =
      may_lead stop _ _ (then_follows (load_import w below hs f i s.stock) r (brought f i s.own) reached)
      (may stop _ (stops stop (take_in f i r.0 r.1.modules s.own) (λ n. Ok (record { stock = r.1; own = n })) h))

  entry_comes : (o : Module) → take_in f i r.0 r.1.modules s.own ≡ Ok o
      → Comes m n (record { stock = r.1; own = o }) (import_entry w below hs f i s)
  entry_comes o h =
      comes_lead (record { stock = r.1; own = o }) (brought f i s.own r) (import_entry w below hs f i s)
      (then_follows (load_import w below hs f i s.stock) r (brought f i s.own) reached)
      (there _ _ (ap (λ x. x >>= λ n. Ok (record { stock = r.1; own = n })) h))

-- ---- the import entries that are left, while the files and the modules that are being loaded stay

module _ {l m : List (List ℕ)} (ds : List (List ℕ)) (d : ℕ) (f : List ℕ) (i : Import) (s : State) (T U :
    List (List ℕ × List ℕ)) (hs hn : List Head) (is rest : List Import) (all : Outcome State)
    (tree : U ≡ T) (held : hn ≡ hs) (at : is ≡ i ∷ rest) (led :
    Follows m l (import_entries (world T ds) (walk (world T ds) d) hs f is s) all) where
  abbrev way : World → List Head → Outcome (ℕ × Stock)
  way w h = load_import w (walk w d) h f i s.stock

  moved : Follows m m (way (world U ds) hn) (way (world T ds) hs)
  moved = same _ _ (ap₂ (λ V h. way (world V ds) h) tree held)

  comes_back : {n : List (List ℕ)} (r : ℕ × Stock) → Comes m n r (way (world U ds) hn)
      → Comes m n r (way (world T ds) hs)
  comes_back r h = comes_lead r _ _ moved h

  -- where they are told, so is the way to the module of the first of them
  pub way_told : (K : Type 0) → IsTold K all.asked → IsTold K (way (world U ds) hn).asked
  way_told K h =
      told_lead K _ _ moved
      (told_then K (way (world T ds) hs) (brought f i s.own)
      (turn_told (import_entry (world T ds) (walk (world T ds) d) hs f) is rest i s all at led K h))

  -- what stops that, or what it brings, stops them
  pub way_stops : {n : List (List ℕ)} (stop : Stop) → MayStop m n stop (way (world U ds) hn) → MayStop l n stop all
  way_stops stop h =
      turn_stop (import_entry (world T ds) (walk (world T ds) d) hs f) is rest i s all at led stop
      (may_then stop (way (world T ds) hs) (brought f i s.own) (may_lead stop _ _ moved h))

  pub take_stops : {n : List (List ℕ)} (r : ℕ × Stock) → Comes m n r (way (world U ds) hn)
      → (stop : Stop)
      → StopIs stop (take_in f i r.0 r.1.modules s.own) → MayStop l n stop all
  take_stops r reached stop h =
      turn_stop (import_entry (world T ds) (walk (world T ds) d) hs f) is rest i s all at led stop
      (entry_stops (world T ds) (walk (world T ds) d) hs f i s r (comes_back r reached) stop h)

  -- and where it brings its names, the rest are left
  pub rest_left : {n : List (List ℕ)} (r : ℕ × Stock) → Comes m n r (way (world U ds) hn)
      → (o : Module)
      → take_in f i r.0 r.1.modules s.own ≡ Ok o
      → Follows n l (import_entries (world T ds) (walk (world T ds) d) hs f rest (record { stock = r.1; own = o })) all
  rest_left r reached o h =
      turn_on (import_entry (world T ds) (walk (world T ds) d) hs f) is rest i s all at led (record {
        stock = r.1;
        own = o;
      })
      (entry_comes (world T ds) (walk (world T ds) d) hs f i s r (comes_back r reached) o h)
