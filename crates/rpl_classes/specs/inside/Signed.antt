-- The set that a class denotes by its name and its mark.
use Rattle.std.specs.Prelude.{ℕ, Bool, if◌then◌else◌, List, Option}
use Rattle.std.specs.Option.{option_map}
use Rattle.regex_class.specs.Ranges.{Range}
use Rattle.rpl_classes.specs.Algebra.{others}
use Rattle.rpl_classes.specs.Classes.{set_named}

-- the set with a name, or its complement, where the name stands for a set
abbrev pub signed_named : Bool → List ℕ → Option (List Range)
signed_named negated name = if negated then option_map others (set_named name) else set_named name
