-- In a set that is built no two rules of a module have one name, and no two modules one package name.
use Rattle.std.proofs.Common.{◌≡◌, ◌≢◌, ◌⊎◌, inl, inr, ℕ, zero, suc, List, [], ◌∷◌, ◌++◌, length, Option, Some, None}
use Rattle.std.proofs.Common.{refl}
use Rattle.std.proofs.Common.{sym, ap, subst, ◌∙◌}
use Rattle.std.specs.Prelude.{Ok, slice_get, slice_set}
use Rattle.rpl_syntax.specs.declared.module.Import.{Import}
use Rattle.rpl_scope.specs.Imports.{add_prefix}
use Rattle.rpl_scope.specs.Packages.{Module, first_of}
use Rattle.rpl_names.specs.Loading.{Stock, State, empty_module, finished, label_of}
use Rattle.rpl_names.specs.Patterns.{put_by, with_module}
use Rattle.rpl_names.specs.Roots.{Packages, begun, top_head}
use Rattle.rpl_names.specs.declared.stock.Head.{Head}
use Rattle.rpl_names.specs.Built.{Becomes, same, on, text, said, again, imported, rooted, opened, headed}
use Rattle.rpl_names.specs.Built.{IsAsked, Loads, Reaches, IsBuilt, by_roots, by_name, packages}
use Rattle.rpl_expand.proofs.FullNames.{IsUnbroken, star}
use Rattle.rpl_expand.proofs.Goals.{replaced_at}
use Rattle.rpl_expand.proofs.Labels.{AreLabelled, AreFree, labels, free_with, done, label_more}
use Rattle.rpl_expand.proofs.Lists.{nth_end, nth_last, nth_more}
use Rattle.rpl_expand.proofs.Steps.{both}
use Rattle.rpl_expand.proofs.Texts.{asked_brings, asked_path, label_plain, plain_text}
use Rattle.rpl_expand.proofs.Under.{AreUnder, Unbroken, all_unbroken, under_kept, label_kept, plain_rules}
use Rattle.rpl_expand.proofs.Under.{statements_in, taken_in, prefix_at}

-- ---- all rules stand under their names

pub record AllUnder (ms : List Module) : Type 0 where
  pub each : (i : ℕ) (m : Module) → slice_get ms i ≡ Some m → AreUnder m

record Kept (s : State) : Type 0 where
  all : AllUnder s.stock.modules
  own : AreUnder s.own

under_more : (ms : List Module) (m : Module) → AllUnder ms → AreUnder m → AllUnder (ms ++ m ∷ [])
under_more ms m h own = record { each = λ i x g. by i x (nth_end ms m i x g) }
  where
    by : (i : ℕ) (x : Module) → (slice_get ms i ≡ Some x) ⊎ ((i ≡ length ms) × (x ≡ m)) → AreUnder x
    by i x (inl g) = h.each i x g
    by i x (inr g) = subst AreUnder (sym g.1) own

nothing_under : (path : Option (List ℕ)) (label : List ℕ) → AreUnder (empty_module path label)
nothing_under path label = record {
  each = λ k r g. absurd (cc);
  unbroken = λ k r g. absurd (cc);
  names = tt;
  plain = tt;
  prefixes = tt;
  clear = tt;
}

starts : (s : Stock) (path : Option (List ℕ)) (label : List ℕ) → AllUnder s.modules → Kept (opened s path label)
starts s path label h = record { all = h; own = nothing_under path label }

kept : (hs : List Head) (s t : State) → Becomes hs s t → Kept s → Kept t
kept hs s t (same gs x) h = h
kept hs s t (on gs a b c f g) h = kept hs b t g (kept hs s b f h)
kept hs s t (text gs a f) h = record {
  all = h.all;
  own = record {
    each = h.own.each;
    unbroken = h.own.unbroken;
    names = h.own.names;
    plain = h.own.plain;
    prefixes = h.own.prefixes;
    clear = h.own.clear;
  };
}
kept hs s t (said gs a f k x m is e) h = record {
  all = h.all;
  own = statements_in AreUnder IsUnbroken Unbroken under_kept f k s.stock.modules x.items s.own m
      (all_unbroken k x.items (plain_text x is).unbroken) h.own e;
}
kept hs s t (again gs a f i j m asked k e) h = record {
  all = h.all;
  own = taken_in AreUnder IsUnbroken Unbroken under_kept f i j s.stock.modules s.own m (asked_brings i asked)
      (plain_rules (slice_get s.stock.modules j) (λ y at. h.all.each j y at)) h.own e;
}
kept hs s t (imported gs a u f i x m asked is unheld b e) h =
    let l = label_of x.name i.path in
    let p : Option (List ℕ) = Some i.path in
    let r = kept (headed hs p l) (opened s.stock p l) u b (starts s.stock p l h.all) in
    let all = under_more u.stock.modules u.own r.all r.own in
    let n = length u.stock.modules in
    let ms = (finished u.stock u.own).modules in
    record {
      all = all;
      own = taken_in AreUnder IsUnbroken Unbroken under_kept f i n ms s.own m (asked_brings i asked)
          (plain_rules (slice_get ms n) (λ y at. all.each n y at)) h.own e;
    }
kept hs s t (rooted gs a u x q is name fresh unheld b) h =
    let l = q.name in
    let r = kept (headed hs None l) (opened s.stock None l) u b (starts s.stock None l h.all) in
    record {
      all = under_more u.stock.modules u.own r.all r.own;
      own = under_kept.prefix s.own l (record { since = length s.own.rules; number = length u.stock.modules }) h.own
          ((plain_text x is).title q name).unbroken fresh;
    }

-- a module that is done stays as it is
pub stays : (hs : List Head) (s t : State) → Becomes hs s t → (i : ℕ) (m : Module)
    → slice_get s.stock.modules i ≡ Some m
    → slice_get t.stock.modules i ≡ Some m
stays hs s t (same gs x) i m h = h
stays hs s t (on gs a b c f g) i m h = stays hs b t g i m (stays hs s b f i m h)
stays hs s t (text gs a f) i m h = h
stays hs s t (said gs a f k x n is e) i m h = h
stays hs s t (again gs a f j k n asked first e) i m h = h
stays hs s t (imported gs a u f j x n asked is unheld b e) i m h =
    let l = label_of x.name j.path in
    let p : Option (List ℕ) = Some j.path in
    nth_more u.stock.modules (u.own ∷ []) i m (stays (headed hs p l) (opened s.stock p l) u b i m h)
stays hs s t (rooted gs a u x q is name fresh unheld b) i m h =
    nth_more u.stock.modules (u.own ∷ []) i m (stays (headed hs None q.name) (opened s.stock None q.name) u b i m h)

-- ---- a set

pub record AreApart (s : Stock) : Type 0 where
  pub under : AllUnder s.modules
  pub labelled : AreLabelled s

-- the top module is there, and has no package name
pub record HasTop (s : Stock) (i : ℕ) : Type 0 where
  pub home : Module
  pub at : slice_get s.modules i ≡ Some home
  pub nameless : home.label ≡ []

pub record IsApart (s : Stock) (i : ℕ) : Type 0 where
  pub apart : AreApart s
  pub top : HasTop s i

nothing_yet : AreLabelled begun.state.stock
nothing_yet = record { each = λ i m h. absurd (cc); starless = λ i m h. absurd (cc) }

top_free : AreFree (top_head ∷ []) begun.state.stock
top_free = record { each = λ n h. refl }

whole_apart : (s : State) → Becomes (top_head ∷ []) begun.state s
    → IsApart (finished s.stock s.own) (length s.stock.modules)
whole_apart s b =
    let k = kept (top_head ∷ []) begun.state s b
    (record { all = record { each = λ i m h. absurd (cc) }; own = nothing_under None [] }) in
    let l = labels (top_head ∷ []) begun.state s b nothing_yet top_free in
    let none : first_of s.own.label s.stock.labels ≡ None =
    ap (λ x. first_of x s.stock.labels) l.own ∙ l.free.each [] refl in
    let starless : s.own.label ≢ star = λ e. (let q : [] ≡ star = sym l.own ∙ e in absurd (cc)) in
    record {
      apart = record {
        under = under_more s.stock.modules s.own k.all k.own;
        labelled = label_more s.stock s.own (first_of s.own.label s.stock.labels) refl none starless l.labelled;
      };
      top = record {
        home = s.own;
        at = nth_last s.stock.modules s.own (length s.stock.modules) refl;
        nameless = l.own;
      };
    }

none_held : (s : Stock) → AreFree [] s
none_held s = record { each = λ n h. absurd (cc) }

loaded_apart : (e : Import) (s : Stock) (i : ℕ) (u : State) → IsAsked e → Loads [] e.path s u → IsApart s i
    → IsApart (finished u.stock u.own) i
loaded_apart e s i u asked x h =
    let l = label_of x.text.name e.path in
    let p : Option (List ℕ) = Some e.path in
    let b = x.makes.comes in
    let free = x.makes.free in
    let k = kept (headed [] p l) (opened s p l) u b (starts s p l h.apart.under) in
    let y = labels (headed [] p l) (opened s p l) u b h.apart.labelled (free_with [] p l s free (none_held s)) in
    let d = done [] p l s free (none_held s) u y (label_plain x.text e x.said asked) in
    record {
      apart = record { under = under_more u.stock.modules u.own k.all k.own; labelled = d.0 };
      top = record {
        home = h.top.home;
        at = nth_more u.stock.modules (u.own ∷ []) i h.top.home
            (stays (headed [] p l) (opened s p l) u b i h.top.home h.top.at);
        nameless = h.top.nameless;
      };
    }

reached : (e : Import) (s : Stock) (i : ℕ) (r : ℕ × Stock) → IsAsked e → IsApart s i → Reaches [] e.path s r
    → IsApart r.1 i
reached e s i r asked h (inl x) = subst (λ t. IsApart t i) (sym x.1) h
reached e s i r asked h (inr x) =
    subst (λ z. IsApart z.1 i) (sym x.2) (loaded_apart e s i x.0 asked x.1 h)

replaced_here : (ms : List Module) (i : ℕ) (m n : Module) → slice_get ms i ≡ Some m
    → slice_get (slice_set ms i n) i ≡ Some n
replaced_here [] i m n h = absurd (cc)
replaced_here (x ∷ ms) zero m n h = refl
replaced_here (x ∷ ms) (suc i) m n h = replaced_here ms i m n h

-- the top module in another form, under the same package name
module _ (s : Stock) (i : ℕ) (m y : Module) (h : IsApart s i) (at : slice_get s.modules i ≡ Some m) (own : AreUnder y)
    (alike : y.label ≡ m.label) where
  by_under : (n : ℕ) (x : Module) → (slice_get s.modules n ≡ Some x) ⊎ ((n ≡ i) × (x ≡ y)) → AreUnder x
  by_under n x (inl q) = h.apart.under.each n x q
  by_under n x (inr q) = subst AreUnder (sym q.1) own

  by_label : (n : ℕ) (x : Module) → (slice_get s.modules n ≡ Some x) ⊎ ((n ≡ i) × (x ≡ y))
      → first_of x.label s.labels ≡ Some n
  by_label n x (inl q) = h.apart.labelled.each n x q
  by_label n x (inr q) =
      ap (λ z. first_of z.label s.labels) q.1 ∙ ap (λ l. first_of l s.labels) alike ∙ h.apart.labelled.each i m at
      ∙ ap Some (sym q.0)

  by_star : (n : ℕ) (x : Module) → (slice_get s.modules n ≡ Some x) ⊎ ((n ≡ i) × (x ≡ y)) → x.label ≢ star
  by_star n x (inl q) = h.apart.labelled.starless n x q
  by_star n x (inr q) = λ e. h.apart.labelled.starless i m at (sym (ap (λ z. z.label) q.1 ∙ alike) ∙ e)

  same_home : m ≡ h.top.home
  same_home = let k : Some m ≡ Some h.top.home = sym at ∙ h.top.at in cc

  with_apart : IsApart (with_module s i y) i
  with_apart = record {
    apart = record {
      under = record { each = λ n x q. by_under n x (replaced_at s.modules i y n x q) };
      labelled = record {
        each = λ n x q. by_label n x (replaced_at s.modules i y n x q);
        starless = λ n x q. by_star n x (replaced_at s.modules i y n x q);
      };
    };
    top = record {
      home = y;
      at = replaced_here s.modules i m y at;
      nameless = alike ∙ ap (λ z. z.label) same_home ∙ h.top.nameless;
    };
  }

put_apart : (f : List ℕ) (e : Import) (j i : ℕ) (s t : Stock) (o : Option Module) → IsUnbroken e.path → IsApart s i
    → slice_get s.modules i ≡ o → put_by f e j i s o ≡ Ok t → IsApart t i
put_apart f e j i s t None clear h at g = let k : s ≡ t = cc in subst (λ x. IsApart x i) k h
put_apart f e j i s t (Some m) clear h at g =
    let c = both (add_prefix f e.at e.path j m) (λ n. Ok (with_module s i n)) t g in
    let k : with_module s i c.0 ≡ t = (let q = c.2 in cc) in
    let o = first_of e.path m.prefixes in
    let label = prefix_at (λ y. y.label ≡ m.label) (λ k. Unit {0}) Unbroken (label_kept m.label) f e.at e.path j m c.0 o
    clear
    refl refl c.1 in
    let own = prefix_at AreUnder IsUnbroken Unbroken under_kept f e.at e.path j m c.0 o clear refl
    (h.apart.under.each i m at)
    c.1 in
    subst (λ x. IsApart x i) k (with_apart s i m c.0 h at own label)

-- so it is in every set that is built
pub set_apart : (p : Packages) → IsBuilt p → IsApart p.stock p.top
set_apart p (by_roots s rs b) = whole_apart s b
set_apart p (by_name s t i rs f e r b asked k g) =
    let h = set_apart (packages s i rs) b in
    put_apart f e r.0 i r.1 t (slice_get r.1.modules i) (asked_path e asked) (reached e s i r asked h k) refl g
