-- A table of rules, and what stands in a look-behind for each of them.
use Rattle.std.specs.Prelude.{ℕ, List, [], ◌∷◌, ◌++◌, map, Option}
use Rattle.rpl_core.specs.Core.{Core}
use Rattle.rpl_forms.specs.Inlining.{Inners, inner}

-- a rule of the table
pub record Row : Type 0 where
  pub name : List ℕ
  pub block : Option ℕ
  pub body : Core

-- the full names
abbrev pub full_names : List Row → List (List ℕ)
full_names = map (λ r. r.name)

-- what stands in a look-behind for the rules of some rows, which come after others for which I stands
abbrev pub inners_from : Inners → List Row → Inners
inners_from I [] = I
inners_from I (r ∷ rs) = inners_from (I ++ inner I r.block r.body ∷ []) rs
