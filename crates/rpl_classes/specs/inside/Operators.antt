-- The operators of a compound.
use Rattle.std.specs.Prelude.{◌≡◌, ℕ, true, false, ◌&&◌, List, Option, Some, None}
use Rattle.regex_class.specs.Ranges.{Range}
use Rattle.rpl_classes.specs.Algebra.{both, without}
use Rattle.rpl_classes.specs.Symbols.{symbols_from, begins, rest}
use Rattle.rpl_classes.specs.inside.Scanned.{Passed}
use Rattle.rpl_classes.specs.declared.compounds.Operator.{Operator}
use Rattle.rpl_classes.specs.declared.compounds.Operator.TheVariants.{Both, Without}

-- what an operator makes of two sets
abbrev pub applied : Operator → List Range → List Range → List Range
applied Both a c = both a c
applied Without a c = without a c

-- the operator at the place p, `&&` or `--`, and the place after it
abbrev pub OperatorAt : List ℕ → ℕ → Option (Operator × ℕ) → Type 0
OperatorAt t p None =
    ((begins 38 (symbols_from t p) && begins 38 (rest (symbols_from t p))) ≡ false)
    × ((begins 45 (symbols_from t p) && begins 45 (rest (symbols_from t p))) ≡ false)
OperatorAt t p (Some (Both, q)) =
    ((begins 38 (symbols_from t p) && begins 38 (rest (symbols_from t p))) ≡ true)
    × Passed t p (rest (rest (symbols_from t p))) q
OperatorAt t p (Some (Without, q)) =
    ((begins 38 (symbols_from t p) && begins 38 (rest (symbols_from t p))) ≡ false)
    × ((begins 45 (symbols_from t p) && begins 45 (rest (symbols_from t p))) ≡ true)
    × Passed t p (rest (rest (symbols_from t p))) q
