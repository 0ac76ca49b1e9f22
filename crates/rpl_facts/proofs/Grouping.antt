-- Where the group ends that begins with a rule.
use Rattle.std.proofs.Common.{◌≡◌, ℕ, ◌+◌, ◌-◌, ◌<◌, ◌≤◌, List, Option, subst, ⊎_elim, arith}
use Rattle.std.proofs.lemmas.Bool.{cases_lt}
use Rattle.std.specs.Prelude.{true}
use Rattle.rpl_core.specs.Core.{Core}
use Rattle.rpl_core.specs.Order.{IsInOrder, joins_next}
use Rattle.rpl_facts.specs.Groups.{IsGroup}
use Rattle.rpl_facts.specs.Groups.{CallsBefore}
use Rattle.rpl_facts.proofs.Ordering.{calls_end}

-- the rules from a on and before b stand together with the next one each
abbrev pub AreJoined : List (Option ℕ) → (a b : ℕ) → Type 0
AreJoined bs a b = (k : ℕ) → a ≤ k → k < b → joins_next bs k ≡ true

pub joined_more : (bs : List (Option ℕ)) (a b : ℕ) → AreJoined bs a b → joins_next bs b ≡ true → AreJoined bs a (b + 1)
joined_more bs a b h on k ge lt = ⊎_elim (λ l. h k ge l) (λ l. let z : b ≡ k = omega arith in
    subst (λ x. joins_next bs x ≡ true) z on) (cases_lt k b)

-- the rules of a group call none after it
pub group_calls : (R : List Core) (bs : List (Option ℕ)) (a b : ℕ) → IsInOrder R bs → IsGroup bs a b → CallsBefore R b
group_calls R bs a b o g = let lt = g.some in let z : b - 1 + 1 ≡ b = omega arith in
    subst (CallsBefore R) z (calls_end R bs (b - 1) o g.ends)
