-- A module that is written back, and the way back from what is added.
use Rattle.std.proofs.Common.{arith, ◌≡◌, ◌≤◌, ◌<◌, ℕ, zero, suc, List, [], ◌∷◌, length, take}
use Rattle.std.proofs.Common.{Option, Some, None, refl, sym, ap, ap₂, subst, ◌∙◌, true, false}
use Rattle.std.proofs.Math.ListN.{set}
use Rattle.std.proofs.lemmas.List.{take-append-le, length-append}
use Rattle.std.specs.Prelude.{Bool, if◌then◌else◌, nat_eq, Ok, Err, slice_get, slice_set}
use Rattle.rpl_scope.specs.Faults.{Or}
use Rattle.rpl_scope.specs.Imports.{add_prefix, add_prefix_at, with_prefix}
use Rattle.rpl_scope.specs.Packages.{Module, first_of}
use Rattle.rpl_scope.specs.Seen.{module_seen, modules_seen}
use Rattle.rpl_scope.specs.declared.fault.LoadFault.{LoadFault}
use Rattle.rpl_scope.specs.declared.module.Module.{Module as Declared}
use Rattle.rpl_scope.specs.declared.module.Prefix.{Prefix}
use Rattle.rpl_package.specs.inside.Kept.{BeginsWith, Keeps, shortened, with_shortened}
use Rattle.rpl_names.specs.Loading.{Stock}
use Rattle.rpl_package.specs.inside.Marks.{CutsTo, prefixes_of}
use Rattle.rpl_names.specs.Patterns.{with_module}

take_all : {A : Type 0} (xs : List A) → take (length xs) xs ≡ xs
take_all [] = refl
take_all (x ∷ xs) = ap (λ l. x ∷ l) (take_all xs)

take_less : {A : Type 0} (n m : ℕ) (xs : List A) → n ≤ m → take n (take m xs) ≡ take n xs
take_less zero m xs h = refl
take_less (suc n) zero xs h = absurd (omega (arith, h))
take_less (suc n) (suc m) [] h = refl
take_less (suc n) (suc m) (x ∷ xs) h = ap (λ l. x ∷ l) (take_less n m xs (omega (arith, h)))

pub seen_set : (ms : List Declared) (i : ℕ) (m : Declared)
    → modules_seen (set ms i m) ≡ slice_set (modules_seen ms) i (module_seen m)
seen_set [] i m = refl
seen_set (x ∷ ms) zero m = refl
seen_set (x ∷ ms) (suc i) m = ap (λ l. module_seen x ∷ l) (seen_set ms i m)

pub seen_none : (ms : List Declared) (i : ℕ) → ((i < length ms) → ⊥) → slice_get (modules_seen ms) i ≡ None
seen_none [] i h = refl
seen_none (x ∷ ms) zero h = absurd (h (omega arith))
seen_none (x ∷ ms) (suc i) h = seen_none ms i (λ lt. h (omega (arith, lt)))

-- ---- a module with more prefixes

pub record Extends (m n : Module) : Type 0 where
  pub longer : length m.prefixes ≤ length n.prefixes
  pub short : (k : ℕ) → k ≤ length m.prefixes → shortened k n ≡ shortened k m

extends_same : (m : Module) → Extends m m
extends_same m = record { longer = omega arith; short = λ k le. refl }

extends_put : (m : Module) (p : List ℕ) (x : Prefix) → Extends m (with_prefix m p x)
extends_put m p x = record {
  longer = let h = length-append m.prefixes ((p, x) ∷ []) in omega (arith, h);
  short = λ k le. ap (λ l. record {
    path = m.path;
    label = m.label;
    texts = m.texts;
    rules = m.rules;
    prefixes = l;
    names = m.names;
  }) (take-append-le k m.prefixes ((p, x) ∷ []) le);
}

abbrev or_module : Module → Or Module → Module
or_module m (Ok n) = n
or_module m (Err f) = m

extends_if : (b : Bool) (m n : Module) (e : LoadFault) → (if b then Ok m else Err e) ≡ Ok n → Extends m n
extends_if true m n e h = subst (Extends m) (ap (or_module m) h) (extends_same m)
extends_if false m n e h = absurd (cc)

extends_by : (o : Option Prefix) (f : List ℕ) (at : ℕ) (p : List ℕ) (j : ℕ) (m n : Module)
    → add_prefix_at o f at p j m ≡ Ok n → Extends m n
extends_by None f at p j m n h =
    subst (Extends m) (ap (or_module m) h) (extends_put m p (record { since = length m.rules; number = j }))
extends_by (Some q) f at p j m n h = extends_if (nat_eq q.number j) m n _ h

pub extends : (f : List ℕ) (at : ℕ) (p : List ℕ) (j : ℕ) (m n : Module) → add_prefix f at p j m ≡ Ok n → Extends m n
extends f at p j m n h = extends_by (first_of p m.prefixes) f at p j m n h

-- ---- lists of modules

abbrev or_else : Module → Option Module → Module
or_else m None = m
or_else m (Some n) = n

pub replaced_same : (ms : List Module) (i : ℕ) (m : Module) → slice_get ms i ≡ Some m → slice_set ms i m ≡ ms
replaced_same [] i m h = refl
replaced_same (x ∷ ms) zero m h = ap (λ y. y ∷ ms) (sym (ap (or_else m) h))
replaced_same (x ∷ ms) (suc i) m h = ap (λ l. x ∷ l) (replaced_same ms i m h)

length_replaced : (ms : List Module) (i : ℕ) (m : Module) → length (slice_set ms i m) ≡ length ms
length_replaced [] i m = refl
length_replaced (x ∷ ms) zero m = refl
length_replaced (x ∷ ms) (suc i) m = let h = length_replaced ms i m in omega (arith, h)

prefixes_more : (ms : List Module) (i : ℕ) (m n : Module) → slice_get ms i ≡ Some m → Extends m n
    → prefixes_of (slice_get ms i) ≤ prefixes_of (slice_get (slice_set ms i n) i)
prefixes_more [] i m n h e = absurd (cc)
prefixes_more (x ∷ ms) zero m n h e = let g = ap prefixes_of h in let l = e.longer in omega (arith, g, l)
prefixes_more (x ∷ ms) (suc i) m n h e = prefixes_more ms i m n h e

back_put : (ms : List Module) (i k c : ℕ) (m n : Module) → slice_get ms i ≡ Some m → Extends m n → k ≤ length m.prefixes
    → with_shortened i k (take c (slice_set ms i n)) ≡ with_shortened i k (take c ms)
back_put [] i k c m n h e le = refl
back_put (x ∷ ms) zero k zero m n h e le = refl
back_put (x ∷ ms) zero k (suc c) m n h e le =
    ap (λ y. y ∷ take c ms) (e.short k le ∙ ap (shortened k) (sym (ap (or_else m) h)))
back_put (x ∷ ms) (suc i) k zero m n h e le = refl
back_put (x ∷ ms) (suc i) k (suc c) m n h e le = ap (λ l. x ∷ l) (back_put ms i k c m n h e le)

back_same : (ms : List Module) (i : ℕ) → with_shortened i (prefixes_of (slice_get ms i)) ms ≡ ms
back_same [] i = refl
back_same (x ∷ ms) zero =
    ap (λ l. record {
      path = x.path;
      label = x.label;
      texts = x.texts;
      rules = x.rules;
      prefixes = l;
      names = x.names;
    } ∷ ms) (take_all x.prefixes)
back_same (x ∷ ms) (suc i) = ap (λ l. x ∷ l) (back_same ms i)

nth_take : (n : ℕ) (xs : List Module) (i : ℕ) → i < n → slice_get (take n xs) i ≡ slice_get xs i
nth_take zero xs i lt = absurd (omega (arith, lt))
nth_take (suc n) [] i lt = refl
nth_take (suc n) (x ∷ xs) zero lt = refl
nth_take (suc n) (x ∷ xs) (suc i) lt = nth_take n xs i (omega (arith, lt))

-- ---- the way back

abbrev pub stock : List Module → (paths labels : List (List ℕ × ℕ)) → Stock
stock ms ps ls = record { modules = ms; paths = ps; labels = ls }

pub stock_is : (ms ns : List Module) (ps qs ls ks : List (List ℕ × ℕ)) → ms ≡ ns → ps ≡ qs → ls ≡ ks
    → stock ms ps ls ≡ stock ns qs ks
stock_is ms ns ps qs ls ks a b c = ap (λ m. stock m ps ls) a ∙ ap₂ (λ p l. stock ns p l) b c

pub cuts_same : (i : ℕ) (a : Stock) → i < length a.modules → CutsTo i a a
cuts_same i a lt = record {
  modules = omega arith;
  paths = omega arith;
  labels = omega arith;
  prefixes = omega arith;
  inside = lt;
  back = stock_is _ _ _ _ _ _ (ap (with_shortened i (prefixes_of (slice_get a.modules i))) (take_all a.modules)
      ∙ back_same a.modules i) (take_all a.paths) (take_all a.labels);
}

less : {A : Type 0} (n : ℕ) (xs ys : List A) → n ≤ length xs → BeginsWith xs ys → take n ys ≡ take n xs
less n xs ys le h = sym (take_less n (length xs) ys le) ∙ ap (take n) h.1

pub cuts_keeps : (i : ℕ) (a b c : Stock) → CutsTo i a b → Keeps b c → CutsTo i a c
cuts_keeps i a b c h k =
    let m0 = h.modules in let m1 = k.modules.0 in
    let p0 = h.paths in let p1 = k.paths.0 in
    let l0 = h.labels in let l1 = k.labels.0 in
    let q = h.prefixes in
    let w = h.inside in
    let same = ap prefixes_of (sym (nth_take (length b.modules) c.modules i (omega (arith, w, m0)))
    ∙ ap (λ l. slice_get l i) k.modules.1) in
    record {
      modules = omega (arith, m0, m1);
      paths = omega (arith, p0, p1);
      labels = omega (arith, l0, l1);
      prefixes = omega (arith, q, same);
      inside = w;
      back = stock_is _ _ _ _ _ _
          (ap (with_shortened i (prefixes_of (slice_get a.modules i)))
          (less (length a.modules) b.modules c.modules m0 k.modules))
          (less (length a.paths) b.paths c.paths p0 k.paths) (less (length a.labels) b.labels c.labels l0 k.labels)
          ∙ h.back;
    }

pub cuts_put : (i : ℕ) (a b : Stock) (m n : Module) → CutsTo i a b → slice_get b.modules i ≡ Some m → Extends m n
    → CutsTo i a (with_module b i n)
cuts_put i a b m n h there e =
    let m0 = h.modules in
    let q = h.prefixes in
    let same = length_replaced b.modules i n in
    let more = prefixes_more b.modules i m n there e in
    let count = ap prefixes_of there in
    record {
      modules = omega (arith, m0, same);
      paths = h.paths;
      labels = h.labels;
      prefixes = omega (arith, q, more);
      inside = h.inside;
      back = stock_is _ _ _ _ _ _ (back_put b.modules i (prefixes_of (slice_get a.modules i)) (length a.modules) m n
          there e
          (omega (arith, q, count))) refl refl ∙ h.back;
    }

pub cuts_is : (i : ℕ) (a b c : Stock) → CutsTo i a b → c ≡ b → CutsTo i a c
cuts_is i a b c h e = subst (CutsTo i a) (sym e) h

-- ---- a module that is shortened where it stands

replaced_short : (ms : List Module) (i k : ℕ) (m : Module) → slice_get ms i ≡ Some m
    → slice_set ms i (shortened k m) ≡ with_shortened i k ms
replaced_short [] i k m h = refl
replaced_short (x ∷ ms) zero k m h = ap (λ y. shortened k y ∷ ms) (sym (ap (or_else m) h))
replaced_short (x ∷ ms) (suc i) k m h = ap (λ l. x ∷ l) (replaced_short ms i k m h)

pub short_seen : (ms : List Declared) (i k : ℕ) (m n : Declared) → slice_get (modules_seen ms) i ≡ Some (module_seen m)
    → module_seen n ≡ shortened k (module_seen m) → modules_seen (set ms i n) ≡ with_shortened i k (modules_seen ms)
short_seen ms i k m n there e = seen_set ms i n ∙ ap (slice_set (modules_seen ms) i) e
    ∙ replaced_short (modules_seen ms) i k (module_seen m) there

pub short_none : (ms : List Module) (i k : ℕ) → ((i < length ms) → ⊥) → with_shortened i k ms ≡ ms
short_none [] i k h = refl
short_none (x ∷ ms) zero k h = absurd (h (omega arith))
short_none (x ∷ ms) (suc i) k h = ap (λ l. x ∷ l) (short_none ms i k (λ lt. h (omega (arith, lt))))

abbrev pub with_prefixes : Module → List (List ℕ × Prefix) → Module
with_prefixes m l = record {
  path = m.path;
  label = m.label;
  texts = m.texts;
  rules = m.rules;
  prefixes = l;
  names = m.names;
}
