-- What holds for everything that is printed.
use Rattle.std.specs.Prelude.{◌≡◌, ◌≢◌, ◌<◌, ℕ, List, encode_utf8_all}
use Rattle.std.specs.Cmp.Lexicographic.{slice_cmp}
use Rattle.std.specs.List.{AllByRecursion}
use Rattle.std.specs.Ordering.{nat_cmp}
use Rattle.rpl_core.specs.Core.{Core}
use Rattle.rpl_forms.specs.Rows.{Row}
use Rattle.rpl_names.specs.Names.{by_bytes}
use Rattle.rpl_names.specs.declared.names.Listed.{Listed}
use Rattle.rpl_syntax.specs.Expression.{Expr}
use Rattle.rosie_inspect.specs.Expansions.{IsExpansion}
use Rattle.rosie_inspect.specs.Names.{IsNamesText, name_line}

-- some names have one text
abbrev pub OneNamesText : Type 0
OneNamesText = (names : List Listed) (a b : List ℕ) → IsNamesText names a → IsNamesText names b → a ≡ b

-- no byte of the name is that of a space or less
abbrev pub IsSolid : Listed → Type 0
IsSolid l = AllByRecursion (λ b. 32 < b) (encode_utf8_all l.name)

-- the lines of two such names are in the order of the names
abbrev pub LinesFollowNames : Type 0
LinesFollowNames =
    (k l : Listed) → IsSolid k → IsSolid l → encode_utf8_all k.name ≢ encode_utf8_all l.name
    → slice_cmp nat_cmp (name_line k) (name_line l) ≡ by_bytes k l

-- a pattern over some rules has one text
abbrev pub OneExpansion : Type 0
OneExpansion =
    (rules : List Row) (e : Expr) (g : Core) (a b : List ℕ) → IsExpansion rules e g a → IsExpansion rules e g b → a ≡ b
