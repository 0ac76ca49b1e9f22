-- What a change of case makes of sets, and how changes of case come together.
use Rattle.std.specs.Prelude.{ℕ, List, [], ◌∷◌}
use Rattle.regex_class.specs.Ranges.{Range}
use Rattle.rpl_classes.specs.Algebra.{folded, widened}
use Rattle.rpl_classes.specs.Norm.{norm}
use Rattle.rpl_macro.specs.declared.casing.Casing.TheVariants.{Plain, Ascii, Folded}
use Rattle.rpl_macro.specs.declared.casing.Casing.{Casing}

-- under `ci`, and under `uci`, which takes every case that `ci` does
abbrev pub under_ci : Casing → Casing
under_ci Plain = Ascii
under_ci Ascii = Ascii
under_ci Folded = Folded

abbrev pub under_uci : Casing → Casing
under_uci c = Folded

-- the set in a casing
abbrev pub set_in : Casing → List Range → List Range
set_in Plain s = s
set_in Ascii s = widened s
set_in Folded s = folded s

-- one character as a set
abbrev pub single : ℕ → List Range
single c = norm ((c, c) ∷ [])
