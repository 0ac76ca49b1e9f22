-- A body that may not halt has no predicate that may.
use Rattle.std.proofs.Common.{◌≡◌, ℕ, refl}
use Rattle.std.specs.Prelude.{Bool, true, false, not, ◌&&◌}
use Rattle.rpl_core.specs.Core.{Core}
use Rattle.rpl_compile_laws.specs.Static.{may_halt, predicates_stay}
use Rattle.rpl_compile_laws.proofs.NoHalt.{stays}

module _ (h : ℕ → Bool) where
  -- the test of a predicate's body is enough
  pub body_stays : (p : Core) → (not (may_halt h p) && predicates_stay h p) ≡ not (may_halt h p)
  body_stays p = go (may_halt h p) refl
    where
      go : (b : Bool) → may_halt h p ≡ b → (not b && predicates_stay h p) ≡ not b
      go true e = refl
      go false e = stays h p e
