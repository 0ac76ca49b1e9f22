-- Rules that their root reaches, and that reach it.
use Rattle.std.proofs.Common.{◌≡◌, ℕ, ◌-◌, ◌≤◌, List, sym, ◌∙◌, subst, ⊎_elim, get_or, arith}
use Rattle.std.specs.Prelude.{Bool, true, ◌⊎◌, slice_set}
use Rattle.rpl_core.specs.Core.{Core}
use Rattle.rpl_core.specs.Marks.{marked}
use Rattle.rpl_facts.specs.Facts.{calls_at}
use Rattle.rpl_check.specs.inside.Rings.{AreAbove, AreBelow, root_of}
use Rattle.rpl_check.specs.inside.Reach.{OverReach}
use Rattle.rpl_check.proofs.Following.{reach_from, reach_on}
use Rattle.rpl_check.proofs.Rings.{set_either}

module _ (R : List Core) (m : ℕ → Bool) (a : ℕ) (roots : List ℕ) where
  -- one rule more is reached from its root
  below_set : (q : ℕ) (marks : List Bool) → a ≤ q → OverReach R m (λ reach. reach (root_of a roots q) q ≡ true)
      → AreBelow R m a roots marks → AreBelow R m a roots (slice_set marks (q - a) true)
  below_set q marks le new old reach all x ax on =
      ⊎_elim
      (λ e. let z : q ≡ x = omega arith in subst (λ y. reach (root_of a roots y) y ≡ true) z (new reach all))
      (λ e. old reach all x ax (sym e ∙ on)) (set_either marks (q - a) (x - a) true)

  -- one rule more reaches its root
  above_set : (q : ℕ) (marks : List Bool) → a ≤ q → OverReach R m (λ reach. reach q (root_of a roots q) ≡ true)
      → AreAbove R m a roots marks → AreAbove R m a roots (slice_set marks (q - a) true)
  above_set q marks le new old reach all x ax on =
      ⊎_elim
      (λ e. let z : q ≡ x = omega arith in subst (λ y. reach y (root_of a roots y) ≡ true) z (new reach all))
      (λ e. old reach all x ax (sym e ∙ on)) (set_either marks (q - a) (x - a) true)

  -- what a rule calls that is the root or reached from it
  goes_below : (q t : ℕ) (marks : List Bool) → a ≤ q → calls_at m R q t ≡ true
      → root_of a roots t ≡ root_of a roots q → (q ≡ root_of a roots q) ⊎ (marked marks (q - a) ≡ true)
      → AreBelow R m a roots marks → OverReach R m (λ reach. reach (root_of a roots t) t ≡ true)
  goes_below q t marks le c same from old reach all =
      subst (λ r. reach r t ≡ true) (sym same)
      (⊎_elim (λ e. subst (λ r. reach r t ≡ true) e ((all q).solution.first t c))
      (λ on. (all (root_of a roots q)).solution.further q t (old reach all q le on) c) from)

  -- what calls a rule that is the root or reaches it
  goes_above : (q t : ℕ) (marks : List Bool) → a ≤ t → calls_at m R q t ≡ true
      → root_of a roots t ≡ root_of a roots q → (t ≡ root_of a roots t) ⊎ (marked marks (t - a) ≡ true)
      → AreAbove R m a roots marks → OverReach R m (λ reach. reach q (root_of a roots q) ≡ true)
  goes_above q t marks le c same from old reach all =
      subst (λ r. reach q r ≡ true) same
      (⊎_elim (λ e. subst (λ r. reach q r ≡ true) e ((all q).solution.first t c))
      (λ on. reach_from R m reach all q t (root_of a roots t) c (old reach all t le on)) from)

  -- so what the rule q calls may be marked as reached from its root
  pub below_next : (q t : ℕ) (first marks : List Bool) → a ≤ q → a ≤ t → calls_at m R q t ≡ true
      → root_of a roots t ≡ root_of a roots q → (q ≡ root_of a roots q) ⊎ (marked first (q - a) ≡ true)
      → AreBelow R m a roots first → AreBelow R m a roots marks → AreBelow R m a roots (slice_set marks (t - a) true)
  below_next q t first marks lq lt c same from known old =
      below_set t marks lt (goes_below q t first lq c same from known) old

  -- and the rule q, where it calls the root or one that reaches it, as reaching its root
  pub above_next : (q t : ℕ) (marks : List Bool) → a ≤ q → a ≤ t → calls_at m R q t ≡ true
      → root_of a roots t ≡ root_of a roots q → (t ≡ root_of a roots t) ⊎ (marked marks (t - a) ≡ true)
      → AreAbove R m a roots marks → AreAbove R m a roots (slice_set marks (q - a) true)
  above_next q t marks lq lt c same from old = above_set q marks lq (goes_above q t marks lt c same from old) old

  -- a rule that its root reaches, and that reaches it, reaches itself
  pub on_ring : (q : ℕ) (below above : List Bool) → a ≤ q → marked below (q - a) ≡ true → marked above (q - a) ≡ true
      → AreBelow R m a roots below → AreAbove R m a roots above → OverReach R m (λ reach. reach q q ≡ true)
  on_ring q below above le b c x y reach all =
      reach_on R m reach all q (root_of a roots q) q (y reach all q le c) (x reach all q le b)

  -- nor does a root that reaches itself need more
  pub on_root : (q : ℕ) (below : List Bool) → a ≤ q → marked below (q - a) ≡ true → get_or roots (q - a) 0 ≡ q - a
      → AreBelow R m a roots below → OverReach R m (λ reach. reach q q ≡ true)
  on_root q below le b e x reach all =
      let same : root_of a roots q ≡ q = omega arith in subst (λ r. reach r q ≡ true) same (x reach all q le b)
