-- Each rule of a module stands under its name there, so that no two have one name; no name and no prefix stands there
-- twice; and no name or prefix has a dot or a space.
use Rattle.std.proofs.Common.{◌≡◌, ◌⊎◌, inl, inr, ℕ, suc, ◌+◌, List, [], ◌∷◌, ◌++◌, length, Option, Some, None, refl}
use Rattle.std.proofs.Common.{sym, ap}
use Rattle.std.proofs.Common.{subst, ◌∙◌}
use Rattle.std.specs.Prelude.{Bool, true, false, nat_eq, ◌||◌, if◌then◌else◌, Ok, slice_get}
use Rattle.std.specs.List.{AllByRecursion}
use Rattle.std.specs.Str.{bytes_eq}
use Rattle.std.proofs.lemmas.Slice.Eq.{bytes_eq-Decides}
use Rattle.rpl_syntax.specs.Modules as S
use Rattle.rpl_syntax.specs.declared.module.Import.{Import}
use Rattle.rpl_syntax.specs.declared.module.ImportAs.{ImportAs}
use Rattle.rpl_syntax.specs.declared.module.ImportAs.TheVariants.{Last, Named, Plain}
use Rattle.rpl_scope.specs.Faults.{fault, in_turn, unless}
use Rattle.rpl_scope.specs.Imports.{with_prefix, add_prefix_at, with_name, is_same, add_name, add_name_at}
use Rattle.rpl_scope.specs.Imports.{numbered, rules_at, take_as, take_in, last_part}
use Rattle.rpl_scope.specs.Packages.{Rule, Module, first_of}
use Rattle.rpl_scope.specs.Statements.{entry_for, with_rule, enter, enter_at, enter_all, block_rules, rules_of}
use Rattle.rpl_scope.specs.Statements.{bindings_of}
use Rattle.rpl_scope.specs.Statements.{bodies_fault, statement, statements}
use Rattle.rpl_scope.specs.declared.fault.LoadKind.TheVariants.{Duplicate}
use Rattle.rpl_scope.specs.declared.module.Entry.{Entry}
use Rattle.rpl_scope.specs.declared.module.Prefix.{Prefix}
use Rattle.rpl_scope.specs.declared.module.Referent.TheVariants.{Own, Of}
use Rattle.rpl_expand.proofs.Apart.{AllApart, unbroken_more, keys, keys_more}
use Rattle.rpl_expand.proofs.FullNames.{AreUnbroken, AreUnbrokenEntries, IsUnbroken, IsUnbrokenEntry}
use Rattle.rpl_expand.proofs.Lists.{all_append, first_more, nth_end}
use Rattle.rpl_expand.proofs.Steps.{both, passed}

pub record AreUnder (m : Module) : Type 0 where
  pub each : (k : ℕ) (r : Rule) → slice_get m.rules k ≡ Some r
      → (e : Entry) × (first_of r.name m.names ≡ Some e) × (e.referent ≡ Own k)
  pub unbroken : (k : ℕ) (r : Rule) → slice_get m.rules k ≡ Some r → IsUnbroken r.name
  pub names : AllApart (keys m.names)
  pub plain : AllByRecursion IsUnbroken (keys m.names)
  pub prefixes : AllApart (keys m.prefixes)
  pub clear : AllByRecursion IsUnbroken (keys m.prefixes)

-- the prefix that an import of this path brings is unbroken
abbrev pub BringsUnbroken : ImportAs → List ℕ → Type 0
BringsUnbroken Last path = IsUnbroken (last_part [] path)
BringsUnbroken (Named p) path = IsUnbroken p
BringsUnbroken Plain path = Unit {0}

all_at : {A : Type 0} (P : A → Type 0) (xs : List A) → ((k : ℕ) (x : A) → slice_get xs k ≡ Some x → P x)
    → AllByRecursion P xs
all_at P [] f = tt
all_at P (x ∷ xs) f = (f 0 x refl, all_at P xs (λ k y h. f (suc k) y h))

-- each rule of a module, if it is there, has an unbroken name
pub plain_rules : (o : Option Module) → ((m : Module) → o ≡ Some m → AreUnder m)
    → AllByRecursion (λ r. IsUnbroken r.name) (rules_at o)
plain_rules None f = tt
plain_rules (Some m) f = all_at (λ (r : Rule). IsUnbroken r.name) m.rules (f m refl).unbroken

pub all_unit : (rs : List Rule) → AllByRecursion (λ r. Unit {0}) rs
all_unit [] = tt
all_unit (r ∷ rs) = (tt, all_unit rs)

-- so two rules of one name are one
pub one_of_name : (m : Module) (j k : ℕ) (q r : Rule) → AreUnder m → slice_get m.rules j ≡ Some q
    → slice_get m.rules k ≡ Some r
    → q.name ≡ r.name → j ≡ k
one_of_name m j k q r h f g e =
    let x = h.each j q f in
    let y = h.each k r g in
    let same : Some x.0 ≡ Some y.0 = sym x.1 ∙ ap (λ n. first_of n m.names) e ∙ y.1 in
    let entry : x.0 ≡ y.0 = cc in
    let own : Own j ≡ Own k = sym x.2 ∙ ap (λ z. z.referent) entry ∙ y.2 in
    cc

new_at : {A : Type 0} (b : Bool) (y x : A) (o t : Option A) → (if b then Some y else o) ≡ None
    → (o ≡ None → t ≡ Some x) → (if b then Some y else t) ≡ Some x
new_at true y x o t h f = absurd (cc)
new_at false y x o t h f = f h

itself : {A : Type 0} (b : Bool) (x : A) → b ≡ true → (if b then Some x else None) ≡ Some x
itself true x h = refl
itself false x h = absurd (cc)

-- a new name is found
pub first_new : {A : Type 0} (n : List ℕ) (ps : List (List ℕ × A)) (x : A) → first_of n ps ≡ None
    → first_of n (ps ++ (n, x) ∷ []) ≡ Some x
first_new n [] x h = itself (bytes_eq n n) x ((bytes_eq-Decides n n).1 refl)
first_new n (p ∷ ps) x h =
    new_at (bytes_eq n p.0) p.1 x (first_of n ps) (first_of n (ps ++ (n, x) ∷ [])) h (first_new n ps x)

-- ---- what holds of a module when rules, prefixes and names come into it

-- one rule, prefix or name more keeps it, where that isn't there yet, R holds of the rule and D of the name
pub record IsKept (P : Module → Type 0) (D : List ℕ → Type 0) (R : Rule → Type 0) : Type 0 where
  pub rule : (m : Module) (r : Rule) → P m → R r → first_of r.name m.names ≡ None → P (with_rule m r)
  pub prefix : (m : Module) (k : List ℕ) (x : Prefix) → P m → IsUnbroken k → first_of k m.prefixes ≡ None
      → P (with_prefix m k x)
  pub name : (m : Module) (k : List ℕ) (x : Entry) → P m → D k → first_of k m.names ≡ None → P (with_name m k x)

-- R holds of each rule that these statements of the text k make, wherever they start
abbrev pub AllMake : (Rule → Type 0) → ℕ → List S.Entry → Type 0
AllMake R k is = AllByRecursion (λ i. (n : ℕ) → AllByRecursion R (rules_of k n i)) is

abbrev pub Unbroken : Rule → Type 0
Unbroken r = IsUnbroken r.name

-- each rule of a statement has an unbroken name
block_unbroken : (k start : ℕ) (hidden : Bool) (bs : List S.Rule) → AreUnbroken bs
    → AllByRecursion Unbroken (block_rules k start hidden bs)
block_unbroken k start hidden [] d = tt
block_unbroken k start hidden (b ∷ bs) d = (d.0, block_unbroken k start hidden bs d.1)

rules_unbroken : (k n : ℕ) (i : S.Entry) → IsUnbrokenEntry i → AllByRecursion Unbroken (rules_of k n i)
rules_unbroken k n (S.One b) d = (d, tt)
rules_unbroken k n (S.Block h v) d =
    all_append Unbroken (block_rules k n true h) (block_rules k n false v)
    (block_unbroken k n true h d.0) (block_unbroken k n false v d.1)

pub all_unbroken : (k : ℕ) (is : List S.Entry) → AreUnbrokenEntries is → AllMake Unbroken k is
all_unbroken k [] d = tt
all_unbroken k (i ∷ is) d = (λ n. rules_unbroken k n i d.0, all_unbroken k is d.1)

module _ (P : Module → Type 0) (D : List ℕ → Type 0) (R : Rule → Type 0) (keeps : IsKept P D R) where
  entered : (f : List ℕ) (r : Rule) (m n : Module) (o : Option Entry) → R r → first_of r.name m.names ≡ o
      → P m → enter_at o f r m ≡ Ok n → P n
  entered f r m n None d none h e = let s : with_rule m r ≡ n = cc in subst P s (keeps.rule m r h d none)
  entered f r m n (Some x) d some h e = absurd (cc)

  all_entered : (f : List ℕ) (rs : List Rule) (m n : Module) → AllByRecursion R rs → P m
      → enter_all f rs m ≡ Ok n → P n
  all_entered f [] m n d h e = let s : m ≡ n = cc in subst P s h
  all_entered f (r ∷ rs) m n d h e =
      let c = both (enter f r m) (in_turn (enter f) rs) n e in
      all_entered f rs c.0 n d.1 (entered f r m c.0 (first_of r.name m.names) d.0 refl h c.1) c.2

  statement_in : (f : List ℕ) (k : ℕ) (ms : List Module) (i : S.Entry) (m n : Module)
      → AllByRecursion R (rules_of k (length m.rules) i) → P m → statement f k ms i m ≡ Ok n → P n
  statement_in f k ms i m n d h e =
      let l = length m.rules in
      let c = both (enter_all f (rules_of k l i) m) (λ m1. unless (bodies_fault f ms l (bindings_of i) m1) m1) n e in
      let p = passed (bodies_fault f ms l (bindings_of i) c.0) c.0 n c.2 in
      subst P p.1 (all_entered f (rules_of k l i) m c.0 d h c.1)

  pub statements_in : (f : List ℕ) (k : ℕ) (ms : List Module) (is : List S.Entry) (m n : Module) → AllMake R k is
      → P m → statements f k ms is m ≡ Ok n → P n
  statements_in f k ms [] m n d h e = let s : m ≡ n = cc in subst P s h
  statements_in f k ms (i ∷ is) m n d h e =
      let c = both (statement f k ms i m) (in_turn (statement f k ms) is) n e in
      statements_in f k ms is c.0 n d.1 (statement_in f k ms i m c.0 (d.0 (length m.rules)) h c.1) c.2

  same_or : (t : Bool) (f : List ℕ) (at : ℕ) (k : List ℕ) (m n : Module)
      → (if t then Ok m else fault f at (Duplicate k)) ≡ Ok n → P m → P n
  same_or true f at k m n e h = let s : m ≡ n = cc in subst P s h
  same_or false f at k m n e h = absurd (cc)

  pub prefix_at : (f : List ℕ) (at : ℕ) (k : List ℕ) (j : ℕ) (m n : Module) (o : Option Prefix)
      → IsUnbroken k → first_of k m.prefixes ≡ o → P m → add_prefix_at o f at k j m ≡ Ok n → P n
  prefix_at f at k j m n None u new h e =
      let x : Prefix = record { since = length m.rules; number = j } in
      let s : with_prefix m k x ≡ n = cc in
      subst P s (keeps.prefix m k x h u new)
  prefix_at f at k j m n (Some q) u there h e = same_or (nat_eq q.number j) f at k m n e h

  name_at : (f : List ℕ) (at i k : ℕ) (x : List ℕ) (m n : Module) (o : Option Entry) → D x
      → first_of x m.names ≡ o → P m → add_name_at o f at i k x m ≡ Ok n → P n
  name_at f at i k x m n None d new h e =
      let y : Entry = record { since = length m.rules; local = false; hidden = false; referent = Of i k } in
      let s : with_name m x y ≡ n = cc in
      subst P s (keeps.name m x y h d new)
  name_at f at i k x m n (Some q) d there h e = same_or (is_same q.referent i k) f at x m n e h

  seen_at : (b : Bool) (f : List ℕ) (at i : ℕ) (r : ℕ × Rule) (m n : Module) → D r.1.name → P m
      → (if b then Ok m else add_name_at (first_of r.1.name m.names) f at i r.0 r.1.name m) ≡ Ok n → P n
  seen_at true f at i r m n d h e = let s : m ≡ n = cc in subst P s h
  seen_at false f at i r m n d h e = name_at f at i r.0 r.1.name m n (first_of r.1.name m.names) d refl h e

  names_in : (f : List ℕ) (at i k : ℕ) (rs : List Rule) (m n : Module) → AllByRecursion (λ r. D r.name) rs → P m
      → in_turn (add_name f at i) (numbered k rs) m ≡ Ok n → P n
  names_in f at i k [] m n d h e = let s : m ≡ n = cc in subst P s h
  names_in f at i k (r ∷ rs) m n d h e =
      let c = both (add_name f at i (k, r) m) (in_turn (add_name f at i) (numbered (k + 1) rs)) n e in
      names_in f at i (k + 1) rs c.0 n d.1 (seen_at (r.local || r.hidden) f at i (k, r) m c.0 d.0 h c.1) c.2

  by_form : (f : List ℕ) (i : Import) (form : ImportAs) (j : ℕ) (ms : List Module) (m n : Module)
      → BringsUnbroken form i.path → AllByRecursion (λ r. D r.name) (rules_at (slice_get ms j)) → P m
      → take_as f i form j ms m ≡ Ok n → P n
  by_form f i Last j ms m n u d h e =
      prefix_at f i.at (last_part [] i.path) j m n (first_of (last_part [] i.path) m.prefixes) u refl h e
  by_form f i (Named p) j ms m n u d h e = prefix_at f i.at p j m n (first_of p m.prefixes) u refl h e
  by_form f i Plain j ms m n u d h e = names_in f i.at j 0 (rules_at (slice_get ms j)) m n d h e

  -- D holds of the name of each rule of the module that is imported
  pub taken_in : (f : List ℕ) (i : Import) (j : ℕ) (ms : List Module) (m n : Module)
      → BringsUnbroken i.name i.path → AllByRecursion (λ r. D r.name) (rules_at (slice_get ms j)) → P m
      → take_in f i j ms m ≡ Ok n → P n
  taken_in f i j ms m n u d h e = by_form f i i.name j ms m n u d h e

-- ---- each rule stays under its name

rule_more : (m : Module) (r : Rule) → AreUnder m → IsUnbroken r.name → first_of r.name m.names ≡ None
    → AreUnder (with_rule m r)
rule_more m r h d none = record {
  each = λ k q g. by k q (nth_end m.rules r k q g);
  unbroken = λ k q g. unbroken_by k q (nth_end m.rules r k q g);
  names = keys_more r.name (entry_for r (length m.rules)) m.names h.names none;
  plain = unbroken_more r.name (entry_for r (length m.rules)) m.names h.plain d;
  prefixes = h.prefixes;
  clear = h.clear;
}
  where
    unbroken_by : (k : ℕ) (q : Rule) → (slice_get m.rules k ≡ Some q) ⊎ ((k ≡ length m.rules) × (q ≡ r))
        → IsUnbroken q.name
    unbroken_by k q (inl g) = h.unbroken k q g
    unbroken_by k q (inr g) = subst (λ x. IsUnbroken x.name) (sym g.1) d

    by : (k : ℕ) (q : Rule) → (slice_get m.rules k ≡ Some q) ⊎ ((k ≡ length m.rules) × (q ≡ r))
        → (e : Entry) × (first_of q.name (with_rule m r).names ≡ Some e) × (e.referent ≡ Own k)
    by k q (inl g) =
        let x = h.each k q g in
        (x.0, first_more q.name m.names ((r.name, entry_for r (length m.rules)) ∷ []) x.0 x.1, x.2)
    by k q (inr g) = (
      entry_for r (length m.rules),
      ap (λ y. first_of y.name (with_rule m r).names) g.1
          ∙ first_new r.name m.names (entry_for r (length m.rules)) none,
      ap Own (sym g.0),
    )

pub under_kept : IsKept AreUnder IsUnbroken Unbroken
under_kept = record {
  rule = rule_more;
  prefix = λ m k x h u new. record {
    each = h.each;
    unbroken = h.unbroken;
    names = h.names;
    plain = h.plain;
    prefixes = keys_more k x m.prefixes h.prefixes new;
    clear = unbroken_more k x m.prefixes h.clear u;
  };
  name = λ m k x h d new. record {
    each = λ j r g. let y = h.each j r g in (y.0, first_more r.name m.names ((k, x) ∷ []) y.0 y.1, y.2);
    unbroken = h.unbroken;
    names = keys_more k x m.names h.names new;
    plain = unbroken_more k x m.names h.plain d;
    prefixes = h.prefixes;
    clear = h.clear;
  };
}

-- and so does the package name
pub label_kept : (l : List ℕ) → IsKept (λ m. m.label ≡ l) (λ k. Unit {0}) Unbroken
label_kept l = record { rule = λ m r h d none. h; prefix = λ m k x h u new. h; name = λ m k x h d new. h }
