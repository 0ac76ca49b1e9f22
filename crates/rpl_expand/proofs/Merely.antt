-- What is merely known of a set is known: it can be tested.
use Rattle.std.proofs.Common.{◌≡◌, ◌<◌, ◌⊎◌, inl, inr, ℕ, List, Option, Some, None, refl, sym, ap, ◌∙◌}
use Rattle.std.specs.Prelude.{Bool, true, false, nat_lt, slice_get, Result, Ok, Err}
use Rattle.std.proofs.Math.Logic.{∥∥₁_elim, ∥∥₁_map}
use Rattle.std.proofs.Props.{props}
use Rattle.std.proofs.lemmas.Bool.Decides.{Decides-ltb}
use Rattle.rpl_core.specs.Core.{Core}
use Rattle.rpl_core.specs.Core as C
use Rattle.rpl_core.specs.Order.{AreTogether, IsInOrder, block_at}
use Rattle.rpl_core.specs.Table.{AreDistinct}
use Rattle.rpl_compile_laws.specs.Laws.{IsCapture, itself, by_call}
use Rattle.rpl_names.specs.Roots.{Packages}
use Rattle.rpl_names.specs.Targets.{resolved}
use Rattle.rpl_names.specs.declared.targets.NameFault.{NameFault}
use Rattle.rpl_names.specs.declared.targets.Target.{Target}
use Rattle.rpl_syntax.specs.Expression.{Expr}
use Rattle.rpl_expand.specs.LoadLaws.{IsFound, Resolves}

-- ---- the order of a table

never : IsProp ⊥
never = Prim.hlevel props

same_block_prop : (o : Option ℕ) (b : ℕ) → IsProp (o ≡ Some b)
same_block_prop o b = Prim.hlevel props

module _ (B : List (Option ℕ)) (r s : ℕ) (m : ∥ (s < r) ⊎ AreTogether B r s ∥₁) where
  not_less : nat_lt s r ≡ false → (s < r) ⊎ AreTogether B r s → AreTogether B r s
  not_less e (inl h) = let t = (Decides-ltb s r).1 h in absurd (cc)
  not_less e (inr h) = h

  by_block : (o : Option ℕ) → block_at (slice_get B r) ≡ o → nat_lt s r ≡ false → AreTogether B r s
  by_block None f e = absurd (∥∥₁_elim m never (λ x. let t = (not_less e x).1 in let u = sym f ∙ t in absurd (cc)))
  by_block (Some b) f e = (
    b,
    f,
    ∥∥₁_elim m (same_block_prop (block_at (slice_get B s)) b)
        (λ x.
        let t = not_less e x in
        let u : Some t.0 ≡ Some b = sym t.1 ∙ f in
        t.2 ∙ u),
  )

  by_less : (t : Bool) → nat_lt s r ≡ t → (s < r) ⊎ AreTogether B r s
  by_less true e = inl ((Decides-ltb s r).0 e)
  by_less false e = inr (by_block (block_at (slice_get B r)) refl e)

-- if it is merely known that a table is in order, it is, since the order can be tested
pub order_out : (R : List Core) (B : List (Option ℕ)) → ∥ IsInOrder R B ∥₁ → IsInOrder R B
order_out R B o = record {
  side_by_side = λ r s q b f g h k. ∥∥₁_elim o (same_block_prop (block_at (slice_get B s)) b)
      (λ i. i.side_by_side r s q b f g h k);
  earlier = λ r s p f g.
      by_less B r s (∥∥₁_elim o (Prim.hlevel props) (λ i. ∣ i.earlier r s p f g ∣₁)) (nat_lt s r) refl;
}

-- ---- names

equal_prop : (i j : ℕ) → IsProp (i ≡ j)
equal_prop i j = Prim.hlevel props

-- if it is merely known that names are distinct, they are, since names can be compared
pub distinct_out : (xs : List (List ℕ)) → ∥ AreDistinct xs ∥₁ → AreDistinct xs
distinct_out xs m i j x f g = ∥∥₁_elim m (equal_prop i j) (λ d. d i j x f g)

-- ---- a root

abbrev is_capture : Core → Bool
is_capture (C.Capture l p) = true
is_capture _ = false

abbrev is_one : Option Core → Bool
is_one None = false
is_one (Some c) = is_capture c

abbrev is_root : List Core → Core → Bool
is_root R (C.Capture l p) = true
is_root R (C.Call r) = is_one (slice_get R r)
is_root R _ = false

capture_of : (c : Core) → is_capture c ≡ true → (l : List ℕ) × (p : Core) × (c ≡ C.Capture l p)
capture_of (C.Capture l p) h = (l, p, refl)
capture_of (C.Set s) h = absurd (cc)
capture_of (C.Seq ps) h = absurd (cc)
capture_of (C.Choice ps) h = absurd (cc)
capture_of (C.Many p) h = absurd (cc)
capture_of (C.Not p) h = absurd (cc)
capture_of (C.And p) h = absurd (cc)
capture_of (C.Behind a b p) h = absurd (cc)
capture_of (C.Call r) h = absurd (cc)
capture_of (C.Note t) h = absurd (cc)
capture_of C.Start h = absurd (cc)
capture_of C.End h = absurd (cc)
capture_of C.Halt h = absurd (cc)

told : (R : List Core) (l : List ℕ) (g : Core) → IsCapture R l g → is_root R g ≡ true
told R l g (itself p) = refl
told R l g (by_call r p e) = ap is_one e

by_rule : (R : List Core) (r : ℕ) (o : Option Core) → slice_get R r ≡ o → is_one o ≡ true
    → (l : List ℕ) × IsCapture R l (C.Call r)
by_rule R r None e h = absurd (cc)
by_rule R r (Some c) e h = let x = capture_of c h in (x.0, by_call r x.1 (e ∙ ap Some x.2))

root_of : (R : List Core) (g : Core) → is_root R g ≡ true → (l : List ℕ) × IsCapture R l g
root_of R (C.Capture l p) h = (l, itself p)
root_of R (C.Call r) h = by_rule R r (slice_get R r) refl h
root_of R (C.Set s) h = absurd (cc)
root_of R (C.Seq ps) h = absurd (cc)
root_of R (C.Choice ps) h = absurd (cc)
root_of R (C.Many p) h = absurd (cc)
root_of R (C.Not p) h = absurd (cc)
root_of R (C.And p) h = absurd (cc)
root_of R (C.Behind a b p) h = absurd (cc)
root_of R (C.Note t) h = absurd (cc)
root_of R C.Start h = absurd (cc)
root_of R C.End h = absurd (cc)
root_of R C.Halt h = absurd (cc)

yes_prop : (b : Bool) → IsProp (b ≡ true)
yes_prop b = Prim.hlevel props

-- if it is merely known that a goal is a capture, its label can be found
pub root_out : (R : List Core) (g : Core) → ∥ ((l : List ℕ) × IsCapture R l g) ∥₁ → (l : List ℕ) × IsCapture R l g
root_out R g m = root_of R g (∥∥₁_elim m (yes_prop (is_root R g)) (λ x. told R x.0 g x.1))

-- ---- what a name stands for

found_out : (r : Result Target NameFault) → ∥ IsFound r ∥₁ → IsFound r
found_out (Ok t) m = (t, refl)
found_out (Err f) m = absurd (∥∥₁_elim m never (λ x. let e = x.1 in absurd (cc)))

-- if it is merely known that the names of an expression refer to rules, they do, since each can be looked up
pub resolves_out : (e : Expr) (p : Packages) → ∥ Resolves e p ∥₁ → Resolves e p
resolves_out e p m q c = found_out (resolved p None q) (∥∥₁_map m (λ r. r q c))
