-- The premises of the laws can be met: a rule that calls itself after a character, and a repetition, a refusal and a
-- halt beside it.
use Rattle.std.proofs.Common.{◌≡◌, ◌≢◌, ℕ, zero, suc, List, [], ◌∷◌, Some, refl, subst, arith}
use Rattle.std.specs.Prelude.{true, false, slice_get}
use Rattle.rpl_core.specs.Core.{Core, Set, Seq, Choice, Many, Not, Call, Capture, Halt, NoMore, Then}
use Rattle.rpl_core.specs.Meaning.{Open}
use Rattle.rpl_core.specs.Outcome.{outcome}
use Rattle.rpl_compile_laws.specs.Static.{may_halt, predicates_stay, NoPredicateHalts}
use Rattle.rpl_compile_laws.specs.Static.{may_be_empty}
use Rattle.rpl_compile_laws.specs.Termination.{CallsBelow, IsTidy, Terminates}
use Rattle.rpl_compile_laws.proofs.Termination.{ends_holds}

-- one character
abbrev char : ℕ → Core
char c = Set ((c, c) ∷ [])

-- s = "a" s / "b"
abbrev rule : Core
rule = Choice (Then (Seq (Then (char 97) (Then (Call 0) NoMore))) (Then (char 98) NoMore))

-- "c"* !s s halt
abbrev goal : Core
goal = Capture (42 ∷ []) (Seq (Then (Many (char 99)) (Then (Not (Call 0)) (Then (Call 0) (Then Halt NoMore)))))

-- what holds of the rule holds of each rule of its table
each : (P : ℕ → Core → Type 0) → P 0 rule → (r : ℕ) (p : Core) → slice_get (rule ∷ []) r ≡ Some p → P r p
each P h zero p e = let s : rule ≡ p = cc in subst (P 0) s h
each P h (suc r) p e = absurd (cc)

-- their evaluations end
ends : Terminates (λ r. false) (λ r. 0) (rule ∷ []) goal
ends = record {
  empties = λ r p e m. each (λ q x. may_be_empty (λ y. false) x ≡ false) refl r p e;
  low = λ r lt. omega arith;
  falls = λ r p e. each (λ q x. CallsBelow (λ y. false) (λ y. 0) 0 x) ((tt, tt), (tt, tt)) r p e;
  rules = λ r p e. each (λ q x. IsTidy (λ y. false) 1 x) ((tt, (omega arith, tt)), (tt, tt)) r p e;
  goal = ((refl, tt), (omega arith, (omega arith, (tt, tt))));
}

-- no body of a predicate may halt
halts : NoPredicateHalts (λ r. false) (rule ∷ []) goal
halts = record {
  closed = λ r p e q. each (λ y x. may_halt (λ z. false) x ≡ false) refl r p e;
  rules = λ r p reached e. each (λ y x. predicates_stay (λ z. false) x ≡ true) refl r p e;
  goal = refl;
}

-- so the meaning is whole on every text
whole : (t : List ℕ) → outcome (rule ∷ []) goal t ≢ Open
whole t = ends_holds (λ r. false) (λ r. 0) (rule ∷ []) goal t ends
