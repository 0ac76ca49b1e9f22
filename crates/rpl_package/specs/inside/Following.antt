-- Steps of a loading that lead to what is to come.
use Rattle.std.specs.Prelude.{◌≡◌, ℕ, List, ◌++◌}
use Rattle.rpl_package.specs.Asking.{Outcome, in_bytes}

-- a is what is left of b, after which it has the same answer: b asks for the paths that were asked for since, and then
-- for what a asks for
pub record Follows {A : Type 0} (now before : List (List ℕ)) (a b : Outcome A) : Type 0 where
  pub answer : a.answer ≡ b.answer
  pub since : List (List ℕ)
  pub asked : now ≡ before ++ in_bytes since
  pub rest : b.asked ≡ since ++ a.asked
