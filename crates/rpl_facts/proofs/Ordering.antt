-- Where a block ends in a table in order, no rule calls one after.
use Rattle.std.proofs.Common.{◌≡◌, ℕ, ◌+◌, ◌<◌, ◌≤◌, List, length, Option, Some, None, ap, refl, ◌∙◌, ⊎_elim, arith}
use Rattle.std.proofs.lemmas.Bool.{cases_lt}
use Rattle.std.proofs.lemmas.List.{length-map}
use Rattle.std.proofs.lemmas.Option.{slice_get_within, slice_get_past}
use Rattle.std.specs.Prelude.{Bool, true, false, slice_get, ◌⊎◌}
use Rattle.rpl_core.specs.Core.{Core}
use Rattle.rpl_core.specs.Table.{bodies_of}
use Rattle.rpl_core.specs.View.{core_of}
use Rattle.rpl_core.specs.declared.rules.Rule.{Rule}
use Rattle.rpl_facts.specs.declared.facts.Fact as F
use Rattle.rpl_facts.specs.Facts.{IsLeast, Solves, passes}
use Rattle.rpl_core.specs.Marks.{marked}
use Rattle.rpl_core.specs.Order.{IsInOrder, AreTogether, block_at, joins_next, same_block}
use Rattle.rpl_facts.specs.Tests.{test_of}
use Rattle.rpl_facts.specs.Groups.{CallsBefore}
use Rattle.rpl_facts.specs.inside.Rounds.{AreKnown}
use Rattle.rpl_core.proofs.Bools.{clash}
use Rattle.rpl_core.proofs.Standings.{same_of}
use Rattle.rpl_facts.proofs.Tests.{passing}

-- a rule that is joined to no other ends its block: the rules up to it call none after it
pub calls_end : (R : List Core) (bs : List (Option ℕ)) (k : ℕ) → IsInOrder R bs → joins_next bs k ≡ false
    → CallsBefore R (k + 1)
calls_end R bs k o j r s p lt is c =
    ⊎_elim (λ l. omega arith) (λ t. inside t (cases_lt s (k + 1))) (o.earlier r s p is c)
  where
    inside : AreTogether bs r s → (s < k + 1) ⊎ (k + 1 ≤ s) → s < k + 1
    inside t cs =
        ⊎_elim (λ l. l)
        (λ l. clash (joins_next bs k) (same_of (block_at (slice_get bs k)) (block_at (slice_get bs (k + 1))) t.0
        (o.side_by_side r k s t.0 (omega arith) (omega arith) t.1 t.2)
        (o.side_by_side r (k + 1) s t.0 (omega arith) l t.1 t.2)) j)
        cs

-- the last rule is joined to no other
pub last_ends : (bs : List (Option ℕ)) (k : ℕ) → length bs ≤ k + 1 → joins_next bs k ≡ false
last_ends bs k le = ap (λ x. same_block (block_at (slice_get bs k)) (block_at x)) (slice_get_past bs (k + 1) le)
    ∙ none_after (block_at (slice_get bs k))
  where
    none_after : (o : Option ℕ) → same_block o None ≡ false
    none_after None = refl
    none_after (Some b) = refl

-- when all rules are known
pub known_all : (fact : F.Fact) (rules : List Rule) (k : ℕ) (marks : List Bool) → length rules ≤ k
    → AreKnown (test_of fact) (bodies_of rules) marks k
    → IsLeast (Solves (test_of fact) (bodies_of rules)) (marked marks)
known_all fact rules k marks le h = record { solution = λ r e. solved r e; least = λ j s r e. h.under j s r e }
  where
    solved : (r : ℕ) → passes (test_of fact (marked marks)) (slice_get (bodies_of rules) r) ≡ true
        → marked marks r ≡ true
    solved r e =
        let x = passing (test_of fact (marked marks)) (bodies_of rules) r e in
        let rl = slice_get_within (bodies_of rules) r x.0 x.1 in
        h.settled r (omega arith) (omega (arith, rl, length-map rules (λ (r : Rule). core_of r.body))) e
