-- What fits where texts and sets are written down: texts of characters, no longer than a text that is read, and sets.
use Rattle.std.specs.Prelude.{◌≡◌, ◌≤◌, ◌+◌, ◌*◌, ℕ, true, List, length}
use Rattle.std.specs.Str.{all_scalars}
use Rattle.rpl_classes.specs.Sets.{IsNormal}
use Rattle.rpl_expand.specs.Table.{Statement}
use Rattle.rpl_names.specs.Texts.{max_text_bytes}
use Rattle.rpl_syntax.specs.Expression.{Expr, Text, Class, Any, Start, End, Boundary, Name, Cooked, Raw, Choice, Both}
use Rattle.rpl_syntax.specs.Expression.{Prefix, Repeat, Macro, Marked, Note, Exprs, Nil, Cons}

-- it is of characters, of which there are at most n
abbrev pub IsWithin : ℕ → List ℕ → Type 0
IsWithin n t = (all_scalars t ≡ true) × (length t ≤ n)

-- its texts are no longer than a text that is read, and its classes are sets
abbrev mutual
  pub FitsExpr : Expr → Type 0
  FitsExpr (Text t) = IsWithin max_text_bytes t
  FitsExpr (Class ranges negated) = IsNormal ranges
  FitsExpr Any = Unit {0}
  FitsExpr Start = Unit {0}
  FitsExpr End = Unit {0}
  FitsExpr Boundary = Unit {0}
  FitsExpr (Name q) = Unit {0}
  FitsExpr (Cooked ps) = FitExprs ps
  FitsExpr (Raw ps) = FitExprs ps
  FitsExpr (Choice ps) = FitExprs ps
  FitsExpr (Both p q) = FitsExpr p × FitsExpr q
  FitsExpr (Prefix s p) = FitsExpr p
  FitsExpr (Repeat p l m) = FitsExpr p
  FitsExpr (Macro q p) = FitsExpr p
  FitsExpr (Marked m p) = FitsExpr p
  FitsExpr (Note t) = IsWithin max_text_bytes t

  pub FitExprs : Exprs → Type 0
  FitExprs Nil = Unit {0}
  FitExprs (Cons p ps) = FitsExpr p × FitExprs ps

-- a full name is a package name, a dot and a name
abbrev pub FitsName : List ℕ → Type 0
FitsName n = IsWithin (2 * max_text_bytes + 1) n

-- so it is with a statement, and the full name of its rule
abbrev pub FitsStatement : Statement → Type 0
FitsStatement s = FitsName s.name × FitsExpr s.body
