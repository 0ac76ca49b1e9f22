-- How printing an expression and reading it again changes it: braces are added, and names get other byte offsets.
--
-- A choice or an `&` that is an item is printed in braces, and so is any body that a quantifier can't follow directly.
-- When read again, braces are a raw group of one item. Nothing else changes except the byte offsets of names.
use Rattle.std.specs.Prelude.{Bool, true, false}
use Rattle.rpl_syntax.specs.declared.name.QName.{QName}
use Rattle.rpl_syntax.specs.Expression.{Expr, Text, Class, Any, Start, End, Boundary, Name, Cooked, Raw, Choice, Both}
use Rattle.rpl_syntax.specs.Expression.{Prefix, Repeat, Macro, Marked, Note, Exprs, Nil, Cons, one, joined}
use Rattle.rpl_syntax.specs.Printed.{is_joined, is_compound}

-- in braces, or as it stands
abbrev pub grouped : Bool → Expr → Expr
grouped true p = Raw (one p)
grouped false p = p

abbrev mutual
  -- standing alone, or as the last part of a choice or of an `&`
  pub again : Expr → Expr
  again (Text s) = Text s
  again (Class s negated) = Class s negated
  again Any = Any
  again Start = Start
  again End = End
  again Boundary = Boundary
  again (Name q) = Name q
  again (Cooked ps) = Cooked (items_again ps)
  again (Raw ps) = Raw (items_again ps)
  again (Choice ps) = Choice (parts_again ps)
  again (Both p q) = Both (grouped (is_joined p) (again p)) (again q)
  again (Prefix s p) = Prefix s (grouped (is_joined p) (again p))
  again (Repeat p l m) = Repeat (grouped (is_compound p) (again p)) l m
  again (Macro q p) = Macro q (grouped (is_joined p) (again p))
  again (Marked m p) = Marked m (again p)
  again (Note s) = Note s

  -- the items of a group
  pub items_again : Exprs → Exprs
  items_again Nil = Nil
  items_again (Cons p rest) = Cons (grouped (is_joined p) (again p)) (items_again rest)

  -- the parts of a choice
  pub parts_again : Exprs → Exprs
  parts_again Nil = Nil
  parts_again (Cons p Nil) = Cons (again p) Nil
  parts_again (Cons p (Cons q rest)) = Cons (grouped (is_joined p) (again p)) (parts_again (Cons q rest))

-- ---- places

abbrev pub unplaced : QName → QName
unplaced q = record { prefix = q.prefix; name = q.name; at = 0 }

abbrev mutual
  -- with each name at the place 0
  pub plain : Expr → Expr
  plain (Text s) = Text s
  plain (Class s negated) = Class s negated
  plain Any = Any
  plain Start = Start
  plain End = End
  plain Boundary = Boundary
  plain (Name q) = Name (unplaced q)
  plain (Cooked ps) = Cooked (plain_all ps)
  plain (Raw ps) = Raw (plain_all ps)
  plain (Choice ps) = Choice (plain_all ps)
  plain (Both p q) = Both (plain p) (plain q)
  plain (Prefix s p) = Prefix s (plain p)
  plain (Repeat p l m) = Repeat (plain p) l m
  plain (Macro q p) = Macro (unplaced q) (plain p)
  plain (Marked m p) = Marked m (plain p)
  plain (Note s) = Note s

  pub plain_all : Exprs → Exprs
  plain_all Nil = Nil
  plain_all (Cons p rest) = Cons (plain p) (plain_all rest)

-- ---- the same expression, but for raw groups of one item
--
-- The core of such a group may differ from that of its item, as those of `{("a" "b")}*` and `("a" "b")*` do. `again`
-- says which groups printing adds.

abbrev mutual
  -- with each raw group of one item as that item, and each name at the place 0
  pub bare : Expr → Expr
  bare (Text s) = Text s
  bare (Class s negated) = Class s negated
  bare Any = Any
  bare Start = Start
  bare End = End
  bare Boundary = Boundary
  bare (Name q) = Name (unplaced q)
  bare (Cooked ps) = Cooked (bare_all ps)
  bare (Raw ps) = joined true (bare_all ps)
  bare (Choice ps) = Choice (bare_all ps)
  bare (Both p q) = Both (bare p) (bare q)
  bare (Prefix s p) = Prefix s (bare p)
  bare (Repeat p l m) = Repeat (bare p) l m
  bare (Macro q p) = Macro (unplaced q) (bare p)
  bare (Marked m p) = Marked m (bare p)
  bare (Note s) = Note s

  pub bare_all : Exprs → Exprs
  bare_all Nil = Nil
  bare_all (Cons p rest) = Cons (bare p) (bare_all rest)
