-- Loading step by step: the paths that are asked for on the way, and what comes of it.
use Rattle.std.specs.Prelude.{ℕ, List, [], ◌∷◌, ◌++◌, Ok, Err}
use Rattle.rpl_scope.specs.Results.{Or, ◌>>=◌}

-- the paths that are asked for, in order, and the answer or the first fault
pub record Outcome (A : Type 0) : Type 0 where
  pub asked : List (List ℕ)
  pub answer : Or A

-- no path is asked for
abbrev pub at_once : {A : Type 0} → Or A → Outcome A
at_once r = record { asked = []; answer = r }

abbrev pub asked_then : {A B : Type 0} → Or A → (A → Outcome B) → List (List ℕ)
asked_then (Ok x) k = (k x).asked
asked_then (Err f) k = []

-- one step, and where it has no fault the next
abbrev pub and_then : {A B : Type 0} → Outcome A → (A → Outcome B) → Outcome B
and_then a k = record { asked = a.asked ++ asked_then a.answer k; answer = a.answer >>= λ x. (k x).answer }

-- steps in turn, up to the first fault
abbrev pub each_in_turn : {A S : Type 0} → (A → S → Outcome S) → List A → S → Outcome S
each_in_turn step [] s = at_once (Ok s)
each_in_turn step (x ∷ xs) s = and_then (step x s) (each_in_turn step xs)
