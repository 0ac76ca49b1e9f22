-- Names that a module has taken in: taking them in once more changes nothing.
use Rattle.std.proofs.Common.{◌≡◌, inl, inr, ℕ, List, [], ◌∷◌, length, Option, Some, None, true, false, refl, sym, ap}
use Rattle.std.proofs.Common.{subst, ◌∙◌, tests, rules}
use Rattle.std.specs.Prelude.{Bool, ◌||◌, if◌then◌else◌, Ok, Err, nat_eq, slice_get}
use Rattle.rpl_syntax.specs.declared.module.Import.{Import}
use Rattle.rpl_syntax.specs.declared.module.ImportAs.{ImportAs}
use Rattle.rpl_syntax.specs.declared.module.ImportAs.TheVariants.{Last, Named, Plain}
use Rattle.rpl_scope.specs.Faults.{Or, fault, in_turn, ◌>>=◌}
use Rattle.rpl_scope.specs.Imports.{add_name, add_name_at, add_prefix, add_prefix_at, is_same, last_part, numbered}
use Rattle.rpl_scope.specs.Imports.{rules_at, take_as, take_in, with_name}
use Rattle.rpl_scope.specs.Packages.{Module, Rule, first_of}
use Rattle.rpl_scope.specs.declared.fault.LoadFault.{LoadFault}
use Rattle.rpl_scope.specs.declared.fault.LoadKind.TheVariants.{Duplicate}
use Rattle.rpl_scope.specs.declared.module.Entry.{Entry}
use Rattle.rpl_scope.specs.declared.module.Prefix.{Prefix}
use Rattle.rpl_scope.specs.declared.module.Referent.TheVariants.{Of}
use Rattle.rpl_scope.specs.Taken.{Grows, HasAll, HasName, HasNames, StandsFor}
use Rattle.rpl_scope.proofs.Growing.{both, first_last, first_more}

has_on : (i : ℕ) (r : ℕ × Rule) (m n : Module) → Grows m n → HasName i r m → HasName i r n
has_on i r m n g (inl h) = inl h
has_on i r m n g (inr h) = inr (h.0, g r.1.name h.0 h.1, h.2)

-- names stay there while names are added
pub has_more : (i : ℕ) (rs : List (ℕ × Rule)) (m n : Module) → Grows m n → HasNames i rs m → HasNames i rs n
has_more i [] m n g h = tt
has_more i (r ∷ rs) m n g h = (has_on i r m n g h.0, has_more i rs m n g h.1)

-- ---- once more

unless_seen : (b : Bool) (m : Module) (o : Or Module) → o ≡ Ok m → (if b then Ok m else o) ≡ Ok m
unless_seen true m o h = refl
unless_seen false m o h = h

one_again : (f : List ℕ) (at i : ℕ) (r : ℕ × Rule) (m : Module) → HasName i r m → add_name f at i r m ≡ Ok m
one_again f at i r m (inl h) =
    ap (λ b. if b then Ok m else add_name_at (first_of r.1.name m.names) f at i r.0 r.1.name m) h
one_again f at i r m (inr h) =
    unless_seen (r.1.local || r.1.hidden) m (add_name_at (first_of r.1.name m.names) f at i r.0 r.1.name m)
    (ap (λ o. add_name_at o f at i r.0 r.1.name m) h.1
    ∙ ap (λ b. if b then Ok m else fault f at (Duplicate r.1.name)) h.2)

-- names that are all there already change nothing
pub again : (f : List ℕ) (at i : ℕ) (rs : List (ℕ × Rule)) (m : Module) → HasNames i rs m
    → in_turn (add_name f at i) rs m ≡ Ok m
again f at i [] m h = refl
again f at i (r ∷ rs) m h = ap (λ x. x >>= in_turn (add_name f at i) rs) (one_again f at i r m h.0)
    ∙ again f at i rs m h.1

-- an import without a prefix changes nothing where all its names are there already
pub plain_again : (f : List ℕ) (i : Import) (j : ℕ) (ms : List Module) (m : Module) → i.name ≡ Plain → HasAll ms m j
    → take_in f i j ms m ≡ Ok m
plain_again f i j ms m is h =
    ap (λ a. take_as f i a j ms m) is ∙ ap (λ o. in_turn (add_name f i.at j) (numbered 0 (rules_at o)) m) h.1
    ∙ again f i.at j (numbered 0 h.0.rules) m h.2

-- ---- once

grows_same : (m n : Module) → m ≡ n → Grows m n
grows_same m n e = λ w x h. subst (λ y. first_of w y.names ≡ Some x) e h

self : (i k : ℕ) → is_same (Of i k) i k ≡ true
self i k = search (tests, rules)

kept_by : (b : Bool) (m n : Module) (e : LoadFault) → (if b then Ok m else Err e) ≡ Ok n → (b ≡ true) × (m ≡ n)
kept_by true m n e h = (refl, cc)
kept_by false m n e h = absurd (cc)

named_by : (o : Option Entry) (f : List ℕ) (at i k : ℕ) (w : List ℕ) (m n : Module) → first_of w m.names ≡ o
    → add_name_at o f at i k w m ≡ Ok n → StandsFor i k w n × Grows m n
named_by None f at i k w m n is h =
    let new : Entry = record { since = length m.rules; local = false; hidden = false; referent = Of i k } in
    let e : with_name m w new ≡ n = cc in
    subst (λ x. StandsFor i k w x × Grows m x) e (
      (new, first_last w m.names new is, self i k),
      λ v x g. first_more v m.names ((w, new) ∷ []) x g,
    )
named_by (Some y) f at i k w m n is h =
    let p = kept_by (is_same y.referent i k) m n _ h in
    (subst (StandsFor i k w) p.1 (y, is, p.0), grows_same m n p.1)

taken_by : (b : Bool) (i : ℕ) (r : ℕ × Rule) (m n : Module) (o : Or Module) → (r.1.local || r.1.hidden) ≡ b
    → (o ≡ Ok n → StandsFor i r.0 r.1.name n × Grows m n)
    → (if b then Ok m else o) ≡ Ok n → HasName i r n × Grows m n
taken_by true i r m n o is k h =
    let e : m ≡ n = cc in
    (inl is, grows_same m n e)
taken_by false i r m n o is k h =
    let p = k h in
    (inr p.0, p.1)

taken_one : (f : List ℕ) (at i : ℕ) (r : ℕ × Rule) (m n : Module) → add_name f at i r m ≡ Ok n → HasName i r n
    × Grows m n
taken_one f at i r m n h =
    taken_by (r.1.local || r.1.hidden) i r m n (add_name_at (first_of r.1.name m.names) f at i r.0 r.1.name m) refl
    (named_by (first_of r.1.name m.names) f at i r.0 r.1.name m n refl) h

-- names that were taken in are all there, and no name got lost
pub taken : (f : List ℕ) (at i : ℕ) (rs : List (ℕ × Rule)) (m n : Module) → in_turn (add_name f at i) rs m ≡ Ok n
    → HasNames i rs n × Grows m n
taken f at i [] m n h =
    let e : m ≡ n = cc in
    (tt, grows_same m n e)
taken f at i (r ∷ rs) m n h =
    let b = both (add_name f at i r m) (in_turn (add_name f at i) rs) n h in
    let one = taken_one f at i r m b.0 b.1 in
    let rest = taken f at i rs b.0 n b.2 in
    ((has_on i r b.0 n rest.1 one.0, rest.0), λ w x g. rest.1 w x (one.1 w x g))

abbrev names_in : Module → Or Module → List (List ℕ × Entry)
names_in m (Ok n) = n.names
names_in m (Err e) = m.names

prefix_by : (o : Option Prefix) (f : List ℕ) (at : ℕ) (p : List ℕ) (j : ℕ) (m n : Module)
    → add_prefix_at o f at p j m ≡ Ok n → m.names ≡ n.names
prefix_by None f at p j m n h = ap (λ r. names_in m r) h
prefix_by (Some q) f at p j m n h = ap (λ x. x.names) (kept_by (nat_eq q.number j) m n _ h).1

prefix_grows : (f : List ℕ) (at : ℕ) (p : List ℕ) (j : ℕ) (m n : Module) → add_prefix f at p j m ≡ Ok n → Grows m n
prefix_grows f at p j m n h =
    let e = prefix_by (first_of p m.prefixes) f at p j m n h in
    λ w x g. subst (λ l. first_of w l ≡ Some x) e g

grows_as : (f : List ℕ) (i : Import) (a : ImportAs) (j : ℕ) (ms : List Module) (m n : Module)
    → take_as f i a j ms m ≡ Ok n → Grows m n
grows_as f i Last j ms m n h = prefix_grows f i.at (last_part [] i.path) j m n h
grows_as f i (Named p) j ms m n h = prefix_grows f i.at p j m n h
grows_as f i Plain j ms m n h = (taken f i.at j (numbered 0 (rules_at (slice_get ms j))) m n h).1

-- no import takes a name away
pub grows : (f : List ℕ) (i : Import) (j : ℕ) (ms : List Module) (m n : Module) → take_in f i j ms m ≡ Ok n → Grows m n
grows f i j ms m n h = grows_as f i i.name j ms m n h

-- and a plain one leaves all names of its module there
pub plain_taken : (f : List ℕ) (i : Import) (j : ℕ) (ms : List Module) (m n from : Module) → i.name ≡ Plain
    → slice_get ms j ≡ Some from → take_in f i j ms m ≡ Ok n → HasAll ms n j
plain_taken f i j ms m n from is there h =
    let plain : in_turn (add_name f i.at j) (numbered 0 from.rules) m ≡ Ok n =
    sym (ap (λ a. take_as f i a j ms m) is ∙ ap (λ o. in_turn (add_name f i.at j) (numbered 0 (rules_at o)) m) there)
    ∙ h in
    (from, there, (taken f i.at j (numbered 0 from.rules) m n plain).0)
