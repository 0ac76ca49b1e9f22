-- The modules stay as they are to be when a pattern brings in its prefixes, and its names stand for something.
use Rattle.std.proofs.Common.{arith, ◌≡◌, ◌⊎◌, inl, inr, ℕ, zero, suc, List, [], ◌∷◌, length}
use Rattle.std.proofs.Common.{Option, Some, None, refl, sym, ap, subst, ◌∙◌}
use Rattle.std.specs.Prelude.{true, Ok, slice_get, slice_set}
use Rattle.std.specs.List.{All}
use Rattle.rpl_syntax.specs.Expression.{Expr}
use Rattle.rpl_syntax.specs.declared.module.Import.{Import}
use Rattle.rpl_scope.specs.Bodies as B
use Rattle.rpl_scope.specs.Bodies.{names_fault, macros_fault}
use Rattle.rpl_scope.specs.Imports.{add_prefix}
use Rattle.rpl_scope.specs.Packages.{Module}
use Rattle.rpl_names.specs.Loading.{Stock}
use Rattle.rpl_names.specs.Patterns.{with_module, put_by, pattern_fault}
use Rattle.rpl_expand.proofs.Entering.{all_stand}
use Rattle.rpl_expand.proofs.Importing.{prefix_added, prefix_keeps}
use Rattle.rpl_expand.proofs.Modules.{Stands, IsModule, Grows, grows_same, grows_on, module_on}
use Rattle.rpl_expand.proofs.Steps.{both, neither}
use Rattle.rpl_expand.proofs.Walking.{IsStock}

-- what came of the modules
pub record Became (s t : Stock) : Type 0 where
  pub stock : IsStock t
  pub grows : Grows s.modules t.modules

same_stock : (s : Stock) → IsStock s → Became s s
same_stock s h = record { stock = h; grows = grows_same s.modules }

pub became_on : (s t u : Stock) → Became s t → Became t u → Became s u
became_on s t u g h = record { stock = h.stock; grows = grows_on s.modules t.modules u.modules g.grows h.grows }

-- ---- one module in another form

pub replaced_at : (ms : List Module) (i : ℕ) (n : Module) (j : ℕ) (x : Module) → slice_get (slice_set ms i n) j ≡ Some x
    → (slice_get ms j ≡ Some x) ⊎ ((j ≡ i) × (x ≡ n))
replaced_at [] i n j x h = absurd (cc)
replaced_at (y ∷ ms) zero n zero x h = inr (refl, cc)
replaced_at (y ∷ ms) zero n (suc j) x h = inl h
replaced_at (y ∷ ms) (suc i) n zero x h = inl h
replaced_at (y ∷ ms) (suc i) n (suc j) x h = further (replaced_at ms i n j x h)
  where
    further : (slice_get ms j ≡ Some x) ⊎ ((j ≡ i) × (x ≡ n)) → (slice_get ms j ≡ Some x) ⊎ ((suc j ≡ suc i) × (x ≡ n))
    further (inl g) = inl g
    further (inr g) = inr (ap suc g.0, g.1)

replaced_length : (ms : List Module) (i : ℕ) (n : Module) → length (slice_set ms i n) ≡ length ms
replaced_length [] i n = refl
replaced_length (y ∷ ms) zero n = refl
replaced_length (y ∷ ms) (suc i) n = ap suc (replaced_length ms i n)

abbrev Kept : List Module → ℕ → Module → Type 0
Kept b j x = (y : Module) × (slice_get b j ≡ Some y) × (y.names ≡ x.names) × (y.rules ≡ x.rules)

replaced_kept : (ms : List Module) (i : ℕ) (m n : Module) → slice_get ms i ≡ Some m → n.names ≡ m.names
    → n.rules ≡ m.rules
    → (j : ℕ) (x : Module) → slice_get ms j ≡ Some x → Kept (slice_set ms i n) j x
replaced_kept [] i m n h names rules j x g = absurd (cc)
replaced_kept (y ∷ ms) zero m n h names rules zero x g =
    let s : m ≡ x = cc in (n, refl, names ∙ ap (λ z. z.names) s, rules ∙ ap (λ z. z.rules) s)
replaced_kept (y ∷ ms) zero m n h names rules (suc j) x g = (x, g, refl, refl)
replaced_kept (y ∷ ms) (suc i) m n h names rules zero x g = (x, g, refl, refl)
replaced_kept (y ∷ ms) (suc i) m n h names rules (suc j) x g = replaced_kept ms i m n h names rules j x g

module _ (s : Stock) (i : ℕ) (m n : Module) (h : IsStock s) (at : slice_get s.modules i ≡ Some m)
    (names : n.names ≡ m.names) (rules : n.rules ≡ m.rules)
    (is : IsModule true s.modules i n) where
  replaced_grows : Grows s.modules (slice_set s.modules i n)
  replaced_grows = record {
    longer = omega (arith, replaced_length s.modules i n);
    kept = replaced_kept s.modules i m n at names rules;
  }

  sound_by : (j : ℕ) (x : Module) → (slice_get s.modules j ≡ Some x) ⊎ ((j ≡ i) × (x ≡ n))
      → IsModule true (slice_set s.modules i n) j x
  sound_by j x (inl g) =
      module_on true s.modules (slice_set s.modules i n) j j x replaced_grows (omega arith) (h.sound.each j x g)
  sound_by j x (inr g) =
      let done = module_on true s.modules (slice_set s.modules i n) i i n replaced_grows (omega arith) is in
      subst (λ y. IsModule true (slice_set s.modules i n) j y) (sym g.1)
      (subst (λ k. IsModule true (slice_set s.modules i n) k n) (sym g.0) done)

  with_module_is : Became s (with_module s i n)
  with_module_is = record {
    stock = record {
      sound = record { each = λ j x g. sound_by j x (replaced_at s.modules i n j x g) };
      paths = λ p j f. omega (arith, h.paths p j f, replaced_length s.modules i n);
    };
    grows = replaced_grows;
  }

-- ---- the prefixes of a pattern

pub put_in : (f : List ℕ) (e : Import) (j i : ℕ) (s t : Stock) (o : Option Module) → IsStock s
    → slice_get s.modules i ≡ o
    → put_by f e j i s o ≡ Ok t → Became s t
put_in f e j i s t None h at is = let k : s ≡ t = cc in subst (Became s) k (same_stock s h)
put_in f e j i s t (Some m) h at is =
    let c = both (add_prefix f e.at e.path j m) (λ n. Ok (with_module s i n)) t is in
    let k : with_module s i c.0 ≡ t = (let g = c.2 in cc) in
    let same = prefix_keeps f e.at e.path j m c.0 c.1 in
    let done = prefix_added true s.modules i f e.at e.path j m c.0 (h.sound.each i m at) (inr refl) c.1 in
    subst (Became s) k (with_module_is s i m c.0 h at same.0 same.1 done)

-- each name of the pattern stands for something at the end of the top module
abbrev pub AllStand : Stock → ℕ → Expr → Type 0
AllStand s i e = (m : Module) → slice_get s.modules i ≡ Some m → All (Stands s.modules m (length m.rules)) (B.names e)

pub stand_by : (f : List ℕ) (e : Expr) (s : Stock) (o : Option Module) → pattern_fault f e s.modules o ≡ None
    → (m : Module) → o ≡ Some m → All (Stands s.modules m (length m.rules)) (B.names e)
stand_by f e s None h m is = absurd (cc)
stand_by f e s (Some x) h m is =
    let k : x ≡ m = cc in
    let n = neither (names_fault f s.modules x (length x.rules) (B.names e)) (macros_fault f (B.uses e)) h in
    subst (λ y. All (Stands s.modules y (length y.rules)) (B.names e)) k
    (all_stand f s.modules x (length x.rules) (B.names e) n.0)
