-- What holds of a module among modules, and stays when either grows.
use Rattle.std.proofs.Common.{arith, ◌≡◌, ◌≤◌, ◌<◌, ◌⊎◌, inl, inr, ℕ, suc, List, [], ◌∷◌, length}
use Rattle.std.proofs.Common.{Option, Some, None, refl, sym, ap, ◌∙◌}
use Rattle.std.specs.Prelude.{Bool, true, false, nat_lt, ◌&&◌, if◌then◌else◌, slice_get}
use Rattle.std.specs.List.{Contains}
use Rattle.std.proofs.lemmas.Bool.Decides.{Decides-ltb}
use Rattle.rpl_syntax.specs.declared.name.QName.{QName}
use Rattle.rpl_scope.specs.Bodies as B
use Rattle.rpl_scope.specs.Packages.{Rule, Module, first_of, bound, bound_by, plain, halt_or, meant, prefixed}
use Rattle.rpl_scope.specs.Packages.{shared_of, shared}
use Rattle.rpl_scope.specs.declared.module.Entry.{Entry}
use Rattle.rpl_scope.specs.declared.module.Prefix.{Prefix}
use Rattle.rpl_scope.specs.declared.module.Referent.{Referent}
use Rattle.rpl_scope.specs.declared.module.Referent.TheVariants.{Own, Of, BuiltIn}
use Rattle.rpl_scope.specs.declared.scope.Found.TheVariants.{To, Unknown, Hidden}
use Rattle.rpl_names.proofs.Numbering.{nth_within}
use Rattle.rpl_names.specs.Targets.{size_of}
use Rattle.rpl_expand.proofs.Laying.{AreLaid}

-- ---- what holds

-- how many rules the module j has
abbrev pub size : List Module → ℕ → ℕ
size ms j = size_of (slice_get ms j)

-- what stands under the name n of the module i: a rule of its own of that name, which counts from there on, or a
-- rule of an earlier module
abbrev pub Means : List Module → (i : ℕ) → List Rule → (n : List ℕ) → (since : ℕ) → Referent → Type 0
Means ms i rs n since (Own k) = (r : Rule) × (slice_get rs k ≡ Some r) × (since ≡ r.since) × (r.name ≡ n)
Means ms i rs n since (Of j k) = (j < i) × (k < size ms j)
Means ms i rs n since BuiltIn = Unit {0}

-- The module i. Its prefixes stand for earlier modules; if it is done, others may count after all its statements.
pub record IsFormed (done : Bool) (ms : List Module) (i : ℕ) (m : Module) : Type 0 where
  pub laid : AreLaid m.rules
  pub names : (n : List ℕ) (e : Entry) → first_of n m.names ≡ Some e → Means ms i m.rules n e.since e.referent
  pub prefixes : (n : List ℕ) (p : Prefix) → first_of n m.prefixes ≡ Some p → (p.number < i)
      ⊎ ((done ≡ true) × (length m.rules ≤ p.since))

-- the name stands for something in statements of the module with this start
abbrev pub Stands : List Module → Module → (start : ℕ) → QName → Type 0
Stands ms m start q = (x : Referent) × (bound ms m start q ≡ To x)

-- each name in the body of a rule stands for something there
pub record AreSaid (ms : List Module) (m : Module) : Type 0 where
  pub each : (t : ℕ) (r : Rule) (q : QName) → slice_get m.rules t ≡ Some r → Contains (B.names r.body) q
      → Stands ms m r.start q

pub record IsModule (done : Bool) (ms : List Module) (i : ℕ) (m : Module) : Type 0 where
  pub formed : IsFormed done ms i m
  pub said : AreSaid ms m

pub record AreSound (ms : List Module) : Type 0 where
  pub each : (i : ℕ) (m : Module) → slice_get ms i ≡ Some m → IsModule true ms i m

-- ---- how modules grow

-- each module is still there, with its rules and names
pub record Grows (a b : List Module) : Type 0 where
  pub longer : length a ≤ length b
  pub kept : (j : ℕ) (m : Module) → slice_get a j ≡ Some m → (n : Module) × (slice_get b j ≡ Some n)
      × (n.names ≡ m.names)
      × (n.rules ≡ m.rules)

pub grows_same : (a : List Module) → Grows a a
grows_same a = record { longer = omega arith; kept = λ j m h. (m, h, refl, refl) }

pub grows_on : (a b c : List Module) → Grows a b → Grows b c → Grows a c
grows_on a b c g h = record {
  longer = let x = g.longer in let y = h.longer in omega (arith, x, y);
  kept = λ j m e. let f = g.kept j m e in let k = h.kept j f.0 f.1 in (k.0, k.1, k.2 ∙ f.2, k.3 ∙ f.3);
}

same_size : (o : Option Module) (b : List Module) (j : ℕ)
    → ((m : Module) → o ≡ Some m → (n : Module) × (slice_get b j ≡ Some n) × (n.names ≡ m.names) × (n.rules ≡ m.rules))
    → size_of o ≤ size b j
same_size None b j f = omega arith
same_size (Some m) b j f =
    let g = f m refl in
    let s : size b j ≡ length m.rules = ap size_of g.1 ∙ ap (λ x. length x) g.3 in
    omega (arith, s)

pub wider : (a b : List Module) (j : ℕ) → Grows a b → size a j ≤ size b j
wider a b j g = same_size (slice_get a j) b j (g.kept j)

-- a module with more: new names count from the start n on
pub record Extends (n : ℕ) (a b : Module) : Type 0 where
  pub names : (k : List ℕ) (e : Entry) → first_of k a.names ≡ Some e → first_of k b.names ≡ Some e
  pub fresh : (k : List ℕ) (e : Entry) → first_of k a.names ≡ None → first_of k b.names ≡ Some e → n ≤ e.since
  pub prefixes : (k : List ℕ) (p : Prefix) → first_of k a.prefixes ≡ Some p → first_of k b.prefixes ≡ Some p

pub extends_same : (n : ℕ) (m : Module) → Extends n m m
extends_same n m = record { names = λ k e h. h; fresh = λ k e g h. absurd (cc); prefixes = λ k p h. h }

fresh_on : (n : ℕ) (a b c : Module) (k : List ℕ) (e : Entry) → Extends n a b → Extends n b c
    → first_of k a.names ≡ None → first_of k c.names ≡ Some e
    → (o : Option Entry) → first_of k b.names ≡ o → n ≤ e.since
fresh_on n a b c k e g h none is None f = h.fresh k e f is
fresh_on n a b c k e g h none is (Some d) f =
    let q : d ≡ e = (let z : Some d ≡ Some e = sym (h.names k d f) ∙ is in cc) in
    let s = ap (λ x. x.since) q in
    let l = g.fresh k d none f in
    omega (arith, s, l)

pub extends_on : (n : ℕ) (a b c : Module) → Extends n a b → Extends n b c → Extends n a c
extends_on n a b c g h = record {
  names = λ k e f. h.names k e (g.names k e f);
  fresh = λ k e none is. fresh_on n a b c k e g h none is (first_of k b.names) refl;
  prefixes = λ k p f. h.prefixes k p (g.prefixes k p f);
}

-- ---- a name stands for the same in what has grown

early : (s : ℕ) (e : Entry) → s < e.since → meant s e ≡ Unknown
early s e lt = ap (λ b. if b then Unknown else if e.hidden && nat_lt e.since s then Hidden else To e.referent)
    ((Decides-ltb s e.since).1 lt)

module _ (a b : List Module) (m n : Module) (s : ℕ) (x : Referent) (grows : Grows a b) (more : Extends (suc s) m n)
  where
    plain_stays : (k : List ℕ) (o u : Option Entry) → first_of k m.names ≡ o → first_of k n.names ≡ u
        → plain k s o ≡ To x → plain k s u ≡ To x
    plain_stays k (Some e) u f g h = ap (plain k s) (sym g ∙ more.names k e f) ∙ h
    plain_stays k None None f g h = h
    plain_stays k None (Some e) f g h = ap (halt_or k) (early s e (more.fresh k e f g)) ∙ h

    shared_stays : (j : ℕ) (k : List ℕ) (o : Option Module) → slice_get a j ≡ o → shared_of j k o ≡ To x
        → shared_of j k (slice_get b j) ≡ To x
    shared_stays j k None f h = absurd (cc)
    shared_stays j k (Some c) f h =
        let g = grows.kept j c f in
        ap (shared_of j k) g.1 ∙ ap (λ ns. shared j (first_of k ns)) g.2 ∙ h

    counted_stays : (t : Bool) (j : ℕ) (k : List ℕ) → (if t then Unknown else shared_of j k (slice_get a j)) ≡ To x
        → (if t then Unknown else shared_of j k (slice_get b j)) ≡ To x
    counted_stays true j k h = h
    counted_stays false j k h = shared_stays j k (slice_get a j) refl h

    prefixed_stays : (c k : List ℕ) (o : Option Prefix) → first_of c m.prefixes ≡ o → prefixed a s k o ≡ To x
        → prefixed b s k (first_of c n.prefixes) ≡ To x
    prefixed_stays c k None f h = absurd (cc)
    prefixed_stays c k (Some p) f h =
        ap (prefixed b s k) (more.prefixes c p f) ∙ counted_stays (nat_lt s p.since) p.number k h

    bound_stays : (k : List ℕ) (o : Option (List ℕ)) → bound_by a m s k o ≡ To x → bound_by b n s k o ≡ To x
    bound_stays k None h = plain_stays k (first_of k m.names) (first_of k n.names) refl refl h
    bound_stays k (Some []) h = h
    bound_stays k (Some (c ∷ p)) h = prefixed_stays (c ∷ p) k (first_of (c ∷ p) m.prefixes) refl h

    pub stays : (q : QName) → bound a m s q ≡ To x → bound b n s q ≡ To x
    stays q h = bound_stays q.name q.prefix h

lower : (n k : ℕ) (a b : Module) → k ≤ n → Extends n a b → Extends k a b
lower n k a b le e = record {
  names = e.names;
  fresh = λ c d none is. let f = e.fresh c d none is in omega (arith, f, le);
  prefixes = e.prefixes;
}

-- what is said of a module that has k rules or more
pub said_stays : (a b : List Module) (m n : Module) (k s : ℕ) (q : QName) → Grows a b → Extends k m n → s < k
    → Stands a m s q → Stands b n s q
said_stays a b m n k s q g e lt h = (h.0, stays a b m n s h.0 g (lower k (suc s) m n lt e) q h.1)

pub starts_within : (m : Module) (t : ℕ) (r : Rule) → AreLaid m.rules → slice_get m.rules t ≡ Some r
    → r.start < length m.rules
starts_within m t r laid h =
    let b = (laid.each t r h).behind in
    let w = nth_within m.rules t r h in
    omega (arith, b, w)

-- among more modules, and with more names and prefixes
pub said_on : (a b : List Module) (m n : Module) → Grows a b → Extends (length m.rules) m n → n.rules ≡ m.rules
    → AreLaid m.rules → AreSaid a m → AreSaid b n
said_on a b m n g e same laid said = record {
  each = λ t r q h c.
      let at : slice_get m.rules t ≡ Some r = sym (ap (λ rs. slice_get rs t) same) ∙ h in
      said_stays a b m n (length m.rules) r.start q g e (starts_within m t r laid at) (said.each t r q at c);
}

means_on : (a b : List Module) (i j : ℕ) (rs : List Rule) (n : List ℕ) (since : ℕ) (x : Referent) → Grows a b → i ≤ j
    → Means a i rs n since x → Means b j rs n since x
means_on a b i j rs n since (Own k) g le h = h
means_on a b i j rs n since (Of l k) g le h =
    let w = wider a b l g in let p = h.0 in let q = h.1 in
    (omega (arith, p, le), omega (arith, q, w))
means_on a b i j rs n since BuiltIn g le h = h

prefix_on : (done : Bool) (i j : ℕ) (rs : List Rule) (p : Prefix) → i ≤ j → (p.number < i)
    ⊎ ((done ≡ true) × (length rs ≤ p.since))
    → (p.number < j) ⊎ ((done ≡ true) × (length rs ≤ p.since))
prefix_on done i j rs p le (inl h) = inl (omega (arith, h, le))
prefix_on done i j rs p le (inr h) = inr h

pub formed_on : (done : Bool) (a b : List Module) (i j : ℕ) (m : Module) → Grows a b → i ≤ j → IsFormed done a i m
    → IsFormed done b j m
formed_on done a b i j m g le h = record {
  laid = h.laid;
  names = λ n e f. means_on a b i j m.rules n e.since e.referent g le (h.names n e f);
  prefixes = λ n p f. prefix_on done i j m.rules p le (h.prefixes n p f);
}

pub module_on : (done : Bool) (a b : List Module) (i j : ℕ) (m : Module) → Grows a b → i ≤ j → IsModule done a i m
    → IsModule done b j m
module_on done a b i j m g le h = record {
  formed = formed_on done a b i j m g le h.formed;
  said = said_on a b m m g (extends_same (length m.rules) m) refl h.formed.laid h.said;
}

not_late : (b : Bool) (i : ℕ) (rs : List Rule) (p : Prefix) → (p.number < i)
    ⊎ ((false ≡ true) × (length rs ≤ p.since)) → (p.number < i) ⊎ ((b ≡ true) × (length rs ≤ p.since))
not_late b i rs p (inl h) = inl h
not_late b i rs p (inr h) = let e = h.0 in absurd (cc)

-- a module at work is done
pub is_done : (ms : List Module) (i : ℕ) (m : Module) → IsModule false ms i m → IsModule true ms i m
is_done ms i m h = record {
  formed = record {
    laid = h.formed.laid;
    names = h.formed.names;
    prefixes = λ n p f. not_late true i m.rules p (h.formed.prefixes n p f);
  };
  said = h.said;
}
