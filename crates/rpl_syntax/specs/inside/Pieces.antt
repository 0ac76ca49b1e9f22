-- What each function of the printer adds.
use Rattle.std.specs.Prelude.{ℕ, Bool, true, false, List, [], ◌∷◌, ◌++◌}
use Rattle.rpl_syntax.specs.Expression.{Expr}
use Rattle.rpl_syntax.specs.Printed.{is_joined, is_compound, in_braces, printed}

-- as an item
abbrev pub item_printed : Expr → List ℕ
item_printed p = in_braces (is_joined p) (printed p)

-- under a quantifier
abbrev pub body_printed : Expr → List ℕ
body_printed p = in_braces (is_compound p) (printed p)

-- an item of a group, and whether another follows
abbrev pub item_of_group : (more : Bool) → Expr → List ℕ
item_of_group true p = item_printed p ++ 32 ∷ []
item_of_group false p = item_printed p

-- a part of a choice, and whether another follows
abbrev pub part_of_choice : (more : Bool) → Expr → List ℕ
part_of_choice true p = item_printed p ++ 32 ∷ 47 ∷ 32 ∷ []
part_of_choice false p = printed p
