-- The form of the expressions that tokens spell. The law `readings_of_texts` says that each reading has this form.
use Rattle.std.specs.Prelude.{◌≡◌, Bool, true, false, None}
use Rattle.rpl_syntax.specs.Expression.{Expr, Text, Class, Any, Start, End, Boundary, Name, Cooked, Raw, Choice, Both}
use Rattle.rpl_syntax.specs.Expression.{Prefix, Repeat, Macro, Marked, Note, Exprs, Nil, Cons}

abbrev pub is_choice : Expr → Bool
is_choice (Choice ps) = true
is_choice _ = false

-- a group has at least one item; a choice has at least two parts, the last of which isn't a choice itself; a macro's
-- name has no prefix
abbrev mutual
  pub Good : Expr → Type 0
  Good (Text s) = Unit {0}
  Good (Class s negated) = Unit {0}
  Good Any = Unit {0}
  Good Start = Unit {0}
  Good End = Unit {0}
  Good Boundary = Unit {0}
  Good (Name q) = Unit {0}
  Good (Cooked ps) = Good_items ps
  Good (Raw ps) = Good_items ps
  Good (Choice ps) = Good_choice ps
  Good (Both p q) = Good p × Good q
  Good (Prefix s p) = Good p
  Good (Repeat p l m) = Good p
  Good (Macro q p) = (q.prefix ≡ None) × Good p
  Good (Marked m p) = ⊥
  Good (Note s) = ⊥

  pub Good_items : Exprs → Type 0
  Good_items Nil = ⊥
  Good_items (Cons p Nil) = Good p
  Good_items (Cons p (Cons q rest)) = Good p × Good_items (Cons q rest)

  pub Good_choice : Exprs → Type 0
  Good_choice Nil = ⊥
  Good_choice (Cons p Nil) = ⊥
  Good_choice (Cons p (Cons q rest)) = Good p × Good_parts (Cons q rest)

  pub Good_parts : Exprs → Type 0
  Good_parts Nil = ⊥
  Good_parts (Cons p Nil) = Good p × (is_choice p ≡ false)
  Good_parts (Cons p (Cons q rest)) = Good p × Good_parts (Cons q rest)
