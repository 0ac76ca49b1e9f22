-- How contracts see an outcome of the plain evaluation.
use Rattle.std.specs.Prelude.{◌≡◌, ◌^◌, ◌-◌, min}
use Rattle.rpl_core.specs.Forest as F
use Rattle.rpl_core.specs.Meaning.{Outcome, Open, Fail, At, HaltAt}
use Rattle.rpl_reference.specs.declared.forest.Forest.{Forest, NoTree, Tree', Noted'}
use Rattle.rpl_reference.specs.declared.outcome.Outcome as R
use Rattle.rpl_reference.specs.declared.outcome.Outcome.TheVariants as V

abbrev pub forest_of : Forest → F.Forest
forest_of NoTree = F.NoTree
forest_of (Tree' c i j a f b r) = F.Tree c i j (forest_of f) (forest_of r)
forest_of (Noted' x i a r) = F.Noted x i (forest_of r)

abbrev pub outcome_of : R.Outcome → Outcome
outcome_of V.Open = Open
outcome_of (V.Fail w) = Fail w
outcome_of (V.At w j f) = At w j (forest_of f)
outcome_of (V.HaltAt w j f) = HaltAt w j (forest_of f)

-- the outcome, with work counted to 2^64 - 1 at most
abbrev pub capped : Outcome → Outcome
capped Open = Open
capped (Fail w) = Fail (min w (2 ^ 64 - 1))
capped (At w j f) = At (min w (2 ^ 64 - 1)) j f
capped (HaltAt w j f) = HaltAt (min w (2 ^ 64 - 1)) j f

-- it is this outcome, so counted
abbrev pub IsOutcome : Outcome → R.Outcome → Type 0
IsOutcome o result = outcome_of result ≡ capped o
