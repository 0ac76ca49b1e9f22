-- A module stays as it is to be when imports bring names into it.
use Rattle.std.proofs.Common.{arith, ◌≡◌, ◌≤◌, ◌<◌, ◌⊎◌, inl, inr, ℕ, ◌+◌, List, [], ◌∷◌, length}
use Rattle.std.proofs.Common.{Option, Some, None, refl, sym, ap, subst, ◌∙◌}
use Rattle.std.specs.Prelude.{Bool, true, false, nat_eq, ◌||◌, if◌then◌else◌, Ok, slice_get}
use Rattle.rpl_syntax.specs.declared.module.Import.{Import}
use Rattle.rpl_syntax.specs.declared.module.ImportAs.{ImportAs}
use Rattle.rpl_syntax.specs.declared.module.ImportAs.TheVariants.{Last, Named, Plain}
use Rattle.rpl_scope.specs.Faults.{fault, in_turn}
use Rattle.rpl_scope.specs.Imports.{with_prefix, add_prefix, add_prefix_at, with_name, is_same, add_name, add_name_at}
use Rattle.rpl_scope.specs.Imports.{numbered, rules_at, take_as, take_in, last_part}
use Rattle.rpl_scope.specs.Packages.{Rule, Module, first_of}
use Rattle.rpl_scope.specs.declared.fault.LoadKind.TheVariants.{Duplicate}
use Rattle.rpl_scope.specs.declared.module.Entry.{Entry}
use Rattle.rpl_scope.specs.declared.module.Prefix.{Prefix}
use Rattle.rpl_scope.specs.declared.module.Referent.TheVariants.{Of}
use Rattle.rpl_names.specs.Targets.{size_of}
use Rattle.rpl_expand.proofs.Lists.{first_more, first_end, Either}
use Rattle.rpl_expand.proofs.Modules.{size, Means, IsModule, Extends, grows_same, said_on}
use Rattle.rpl_expand.proofs.Steps.{both}

-- ---- a prefix

module _ (done : Bool) (ms : List Module) (i : ℕ) (m : Module) (k : List ℕ) (x : Prefix) (h : IsModule done ms i m)
    (may : (x.number < i) ⊎ ((done ≡ true) × (length m.rules ≤ x.since))) where
  prefix_is : (p : Prefix) (n : List ℕ) → Either (first_of n m.prefixes) p x n k → (p.number < i)
      ⊎ ((done ≡ true) × (length m.rules ≤ p.since))
  prefix_is p n (inl f) = h.formed.prefixes n p f
  prefix_is p n (inr f) = subst (λ y. (y.number < i) ⊎ ((done ≡ true) × (length m.rules ≤ y.since))) (sym f.1) may

  prefix_extends : Extends (length m.rules) m (with_prefix m k x)
  prefix_extends = record {
    names = λ n e f. f;
    fresh = λ n e f g. absurd (cc);
    prefixes = λ n p f. first_more n m.prefixes ((k, x) ∷ []) p f;
  }

  pub prefix_more : IsModule done ms i (with_prefix m k x)
  prefix_more = record {
    formed = record {
      laid = h.formed.laid;
      names = h.formed.names;
      prefixes = λ n p f. prefix_is p n (first_end n m.prefixes k x p f);
    };
    said = said_on ms ms m (with_prefix m k x) (grows_same ms) prefix_extends refl h.formed.laid h.said;
  }

same_or : (t : Bool) (f : List ℕ) (at : ℕ) (k : List ℕ) (m n : Module)
    → (if t then Ok m else fault f at (Duplicate k)) ≡ Ok n → m ≡ n
same_or true f at k m n h = cc
same_or false f at k m n h = absurd (cc)

by_prefix : (done : Bool) (ms : List Module) (i : ℕ) (f : List ℕ) (at : ℕ) (k : List ℕ) (j : ℕ) (m n : Module)
    (o : Option Prefix) → IsModule done ms i m
    → (j < i) ⊎ (done ≡ true) → add_prefix_at o f at k j m ≡ Ok n → IsModule done ms i n
by_prefix done ms i f at k j m n (Some q) h may e =
    subst (IsModule done ms i) (same_or (nat_eq q.number j) f at k m n e) h
by_prefix done ms i f at k j m n None h may e =
    let is : with_prefix m k (record { since = length m.rules; number = j }) ≡ n = cc in
    subst (IsModule done ms i) is (prefix_more done ms i m k (record { since = length m.rules; number = j }) h
    (by may))
  where
    by : (j < i) ⊎ (done ≡ true) → (j < i) ⊎ ((done ≡ true) × (length m.rules ≤ length m.rules))
    by (inl lt) = inl lt
    by (inr d) = inr (d, omega arith)

pub prefix_added : (done : Bool) (ms : List Module) (i : ℕ) (f : List ℕ) (at : ℕ) (k : List ℕ) (j : ℕ) (m n : Module)
    → IsModule done ms i m
    → (j < i) ⊎ (done ≡ true) → add_prefix f at k j m ≡ Ok n → IsModule done ms i n
prefix_added done ms i f at k j m n h may e = by_prefix done ms i f at k j m n (first_of k m.prefixes) h may e

-- ---- a plain name

module _ (ms : List Module) (i : ℕ) (m : Module) (k : List ℕ) (x : Entry) (h : IsModule false ms i m)
    (free : first_of k m.names ≡ None)
    (late : x.since ≡ length m.rules) (means : Means ms i m.rules k x.since x.referent) (j l : ℕ)
    (other : x.referent ≡ Of j l) where
  name_is : (e : Entry) (n : List ℕ) → Either (first_of n m.names) e x n k → Means ms i m.rules n e.since e.referent
  name_is e n (inl f) = h.formed.names n e f
  name_is e n (inr f) =
      let there : Means ms i m.rules n x.since x.referent = subst (Means ms i m.rules n x.since) (sym other)
      (subst (Means ms i m.rules k x.since) other means) in
      subst (λ y. Means ms i m.rules n y.since y.referent) (sym f.1) there

  name_fresh : (n : List ℕ) (e : Entry) → first_of n m.names ≡ None → Either (first_of n m.names) e x n k
      → length m.rules ≤ e.since
  name_fresh n e none (inl f) = absurd (cc)
  name_fresh n e none (inr f) = let s : e.since ≡ length m.rules = ap (λ y. y.since) f.1 ∙ late in omega (arith, s)

  name_extends : Extends (length m.rules) m (with_name m k x)
  name_extends = record {
    names = λ n e f. first_more n m.names ((k, x) ∷ []) e f;
    fresh = λ n e none f. name_fresh n e none (first_end n m.names k x e f);
    prefixes = λ n p f. f;
  }

  name_more : IsModule false ms i (with_name m k x)
  name_more = record {
    formed = record {
      laid = h.formed.laid;
      names = λ n e f. name_is e n (first_end n m.names k x e f);
      prefixes = h.formed.prefixes;
    };
    said = said_on ms ms m (with_name m k x) (grows_same ms) name_extends refl h.formed.laid h.said;
  }

by_name : (ms : List Module) (i : ℕ) (f : List ℕ) (at j l : ℕ) (k : List ℕ) (m n : Module) (o : Option Entry)
    → IsModule false ms i m → first_of k m.names ≡ o
    → j < i → l < size ms j → add_name_at o f at j l k m ≡ Ok n → (IsModule false ms i n) × (n.rules ≡ m.rules)
by_name ms i f at j l k m n (Some y) h is lt le e =
    let s = same_or (is_same y.referent j l) f at k m n e in
    (subst (IsModule false ms i) s h, sym (ap (λ z. z.rules) s))
by_name ms i f at j l k m n None h is lt le e =
    let x : Entry = record { since = length m.rules; local = false; hidden = false; referent = Of j l } in
    let s : with_name m k x ≡ n = cc in
    (subst (IsModule false ms i) s (name_more ms i m k x h is refl (lt, le) j l refl), sym (ap (λ z. z.rules) s))

by_seen : (ms : List Module) (i : ℕ) (f : List ℕ) (at j l : ℕ) (r : Rule) (m n : Module) (t : Bool)
    → IsModule false ms i m
    → j < i → l < size ms j → (if t then Ok m else add_name_at (first_of r.name m.names) f at j l r.name m) ≡ Ok n
    → IsModule false ms i n
by_seen ms i f at j l r m n true h lt le e = let s : m ≡ n = cc in subst (IsModule false ms i) s h
by_seen ms i f at j l r m n false h lt le e =
    (by_name ms i f at j l r.name m n (first_of r.name m.names) h refl lt le e).0

-- those of all rules from the k-th on
names_added : (ms : List Module) (i : ℕ) (f : List ℕ) (at j k : ℕ) (rs : List Rule) (m n : Module)
    → IsModule false ms i m
    → j < i → k + length rs ≤ size ms j → in_turn (add_name f at j) (numbered k rs) m ≡ Ok n → IsModule false ms i n
names_added ms i f at j k [] m n h lt le e = let s : m ≡ n = cc in subst (IsModule false ms i) s h
names_added ms i f at j k (r ∷ rs) m n h lt le e =
    let b = both (add_name f at j (k, r) m) (in_turn (add_name f at j) (numbered (k + 1) rs)) n e in
    let here = by_seen ms i f at j k r m b.0 (r.local || r.hidden) h lt (omega (arith, le)) b.1 in
    names_added ms i f at j (k + 1) rs b.0 n here lt (omega (arith, le)) b.2

all_there : (o : Option Module) → 0 + length (rules_at o) ≤ size_of o
all_there None = omega arith
all_there (Some m) = omega arith

by_form : (ms : List Module) (i : ℕ) (f : List ℕ) (e : Import) (form : ImportAs) (j : ℕ) (m n : Module)
    → IsModule false ms i m → j < i
    → take_as f e form j ms m ≡ Ok n → IsModule false ms i n
by_form ms i f e Last j m n h lt is = prefix_added false ms i f e.at (last_part [] e.path) j m n h (inl lt) is
by_form ms i f e (Named p) j m n h lt is = prefix_added false ms i f e.at p j m n h (inl lt) is
by_form ms i f e Plain j m n h lt is =
    names_added ms i f e.at j 0 (rules_at (slice_get ms j)) m n h lt (all_there (slice_get ms j)) is

-- what an import brings of an earlier module
pub taken_in : (ms : List Module) (i : ℕ) (f : List ℕ) (e : Import) (j : ℕ) (m n : Module) → IsModule false ms i m
    → j < i
    → take_in f e j ms m ≡ Ok n → IsModule false ms i n
taken_in ms i f e j m n h lt is = by_form ms i f e e.name j m n h lt is

-- ---- a prefix changes nothing else

keeps_by : (f : List ℕ) (at : ℕ) (k : List ℕ) (j : ℕ) (m n : Module) (o : Option Prefix)
    → add_prefix_at o f at k j m ≡ Ok n → (n.names ≡ m.names) × (n.rules ≡ m.rules)
keeps_by f at k j m n (Some q) e =
    let s = same_or (nat_eq q.number j) f at k m n e in
    (sym (ap (λ x. x.names) s), sym (ap (λ x. x.rules) s))
keeps_by f at k j m n None e =
    let s : with_prefix m k (record { since = length m.rules; number = j }) ≡ n = cc in
    (sym (ap (λ x. x.names) s), sym (ap (λ x. x.rules) s))

pub prefix_keeps : (f : List ℕ) (at : ℕ) (k : List ℕ) (j : ℕ) (m n : Module) → add_prefix f at k j m ≡ Ok n
    → (n.names ≡ m.names) × (n.rules ≡ m.rules)
prefix_keeps f at k j m n e = keeps_by f at k j m n (first_of k m.prefixes) e
