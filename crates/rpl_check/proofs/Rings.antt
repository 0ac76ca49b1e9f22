-- Rules of a ring: what a rule reaches, and what reaches it.
use Rattle.std.proofs.Common.{◌≡◌, ℕ, zero, suc, ◌+◌, ◌-◌, ◌<◌, ◌≤◌, List, [], ◌∷◌, ◌++◌, length, get_or, sym, ap, ◌∙◌}
use Rattle.std.proofs.Common.{subst, ⊎_elim, inl, inr, take, arith}
use Rattle.std.proofs.lemmas.Bool.{cases_eq}
use Rattle.std.proofs.Math.Seq.{take-append_seam}
use Rattle.std.proofs.lemmas.List.{get_or-set_other}
use Rattle.std.specs.Prelude.{Bool, true, false, ◌⊎◌, nat_eq, slice_set}
use Rattle.rpl_core.specs.Core.{Core}
use Rattle.rpl_core.specs.Marks.{marked, waits}
use Rattle.rpl_core.proofs.Bools.{eq_self, left, right}
use Rattle.rpl_facts.specs.Groups.{CallsBefore}
use Rattle.rpl_check.specs.inside.Reach.{OverReach}
use Rattle.rpl_check.specs.inside.Search.{AreLeft}
use Rattle.rpl_check.specs.declared.recursion.BlockSearch.{BlockSearch}
use Rattle.rpl_check.proofs.Following.{follow_ends, Followed}

-- a mark that is set, whatever it is
pub set_either : (xs : List Bool) (k i : ℕ) (v : Bool) → (i ≡ k) ⊎ (marked (slice_set xs k v) i ≡ marked xs i)
set_either xs k i v = ⊎_elim (λ e. inl e) (λ ne. inr (get_or-set_other xs k i v false ne)) (cases_eq i k)

-- what a list that fills its room was made
pub taken : (n : ℕ) (new tail : List Bool) → n ≡ length new → new ≡ take n (new ++ tail)
taken n new tail e = sym (ap (λ k. take k (new ++ tail)) e ∙ take-append_seam new tail)

module _ (R : List Core) (m : ℕ → Bool) where
  -- one rule more reaches itself
  pub left_set : (a q : ℕ) (marks : List Bool) → a ≤ q → OverReach R m (λ reach. reach q q ≡ true) → AreLeft R m a marks
      → AreLeft R m a (slice_set marks (q - a) true)
  left_set a q marks le new old reach all x ax on =
      ⊎_elim (λ e. let z : q ≡ x = omega arith in
      subst (λ y. reach y y ≡ true) z (new reach all)) (λ e. old reach all x ax (sym e ∙ on))
      (set_either marks (q - a) (x - a) true)

-- a rule of the list
pub waits_at : (xs : List ℕ) (i d : ℕ) → i < length xs → waits xs (get_or xs i d) ≡ true
waits_at [] i d lt = absurd (omega arith)
waits_at (x ∷ xs) zero d lt = left (nat_eq x x) (waits xs x) (eq_self x)
waits_at (x ∷ xs) (suc i) d lt =
    right (nat_eq x (get_or xs i d)) (waits xs (get_or xs i d)) (waits_at xs i d (omega arith))

-- where nothing waits any more, the mark of the first rule says whether it reaches itself
pub itself_is : (R : List Core) (m : ℕ → Bool) (r a e : ℕ) (s : BlockSearch) (b : Bool) → a ≤ r → r < e
    → CallsBefore R a → CallsBefore R e → s.waiting.items ≡ [] → Followed R m r a (e - a) s
    → b ≡ marked s.marks.items (r - a) → OverReach R m (λ reach. b ≡ reach r r)
itself_is R m r a e s b le lt early calls none k is reach all =
    let to : e ≡ a + (e - a) = omega arith in
    is ∙ follow_ends R m r a (e - a) s (reach r) le (omega arith) early (subst (λ x. CallsBefore R x) to calls) none k
    (all r)
