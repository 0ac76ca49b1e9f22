use Rattle.std.proofs.Common.{◌≡◌, ℕ, ◌≤◌, drop}
use Rattle.std.specs.Prelude.{true}
use Rattle.rpl_core.specs.Marks.{waits}
use Rattle.rpl_check.specs.inside.Ranks.{rank_of}
use Rattle.rpl_check.proofs.recursion.Block.highest.Given as goal

abbrev pub invariant-loop-rule : goal.invariant-loop-rule
invariant-loop-rule l =
    (n : ℕ) → l.highest ≤ n → ((t : ℕ) → waits (drop l.rule-index l.rules) t ≡ true
    → rank_of l.self.start l.ranks t ≤ n) → (t : ℕ) → waits l.rules t ≡ true → rank_of l.self.start l.ranks t ≤ n
