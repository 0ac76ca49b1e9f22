-- The tree that an expression is printed as.
use Rattle.std.specs.Prelude.{ℕ, zero, suc, List, true, false, Option, Some, None}
use Rattle.rpl_syntax.specs.Expression.{Expr, Text, Class, Any, Start, End, Boundary, Name, Cooked, Raw, Choice, Both}
use Rattle.rpl_syntax.specs.Expression.{Prefix, Repeat, Macro, Marked, Note, Exprs, Nil, Cons}
use Rattle.rpl_syntax.specs.Grammar.{Leaf, TextLeaf, ClassLeaf, AnyLeaf, StartLeaf, EndLeaf, BoundaryLeaf, NameLeaf}
use Rattle.rpl_syntax.specs.Grammar.{QualifiedLeaf, Quant, StarQuant, PlusQuant, QuestionQuant, BoundsQuant, Exp, Last}
use Rattle.rpl_syntax.specs.Grammar.{Or, And, Seq, Single, More, Item, Signed, Applied, Plain, Times, Atom, One, Group}

abbrev pub alone : Item → Exp
alone i = Last (Single i)

abbrev pub braced : Exp → Atom
braced e = Group true e

abbrev pub leaf : Leaf → Item
leaf l = Plain (One l)

-- a name, with or without its prefix; on paper it has no place
abbrev pub named : (prefix : Option (List ℕ)) (name : List ℕ) → Leaf
named None n = NameLeaf n 0
named (Some p) n = QualifiedLeaf p n 0

-- an item as the body of a quantifier: in braces where it isn't an atom
abbrev pub body_of : Item → Atom
body_of (Plain a) = a
body_of i = braced (alone i)

abbrev pub quant_of : (least : ℕ) (most : Option ℕ) → Quant
quant_of zero None = StarQuant
quant_of (suc zero) None = PlusQuant
quant_of zero (Some (suc zero)) = QuestionQuant
quant_of l m = BoundsQuant l m

abbrev mutual
  -- where it stands as an item
  pub item_tree : Expr → Item
  item_tree (Text s) = leaf (TextLeaf s)
  item_tree (Class s negated) = leaf (ClassLeaf s negated)
  item_tree Any = leaf AnyLeaf
  item_tree Start = leaf StartLeaf
  item_tree End = leaf EndLeaf
  item_tree Boundary = leaf BoundaryLeaf
  item_tree (Name q) = leaf (named q.prefix q.name)
  item_tree (Cooked ps) = Plain (Group false (Last (seq_tree ps)))
  item_tree (Raw ps) = Plain (Group true (Last (seq_tree ps)))
  item_tree (Choice ps) = Plain (braced (choice_tree ps))
  item_tree (Both p q) = Plain (braced (And (Single (item_tree p)) (exp_tree q)))
  item_tree (Prefix s p) = Signed s (item_tree p)
  item_tree (Repeat p l m) = Times (body_of (item_tree p)) (quant_of l m)
  item_tree (Macro q p) = Applied q.name 0 (item_tree p)
  item_tree (Marked m p) = item_tree p
  item_tree (Note s) = leaf (TextLeaf s)

  -- where it stands alone, or as the last part of a choice or of an `&`
  pub exp_tree : Expr → Exp
  exp_tree (Choice ps) = choice_tree ps
  exp_tree (Both p q) = And (Single (item_tree p)) (exp_tree q)
  exp_tree (Text s) = alone (leaf (TextLeaf s))
  exp_tree (Class s negated) = alone (leaf (ClassLeaf s negated))
  exp_tree Any = alone (leaf AnyLeaf)
  exp_tree Start = alone (leaf StartLeaf)
  exp_tree End = alone (leaf EndLeaf)
  exp_tree Boundary = alone (leaf BoundaryLeaf)
  exp_tree (Name q) = alone (leaf (named q.prefix q.name))
  exp_tree (Cooked ps) = alone (Plain (Group false (Last (seq_tree ps))))
  exp_tree (Raw ps) = alone (Plain (Group true (Last (seq_tree ps))))
  exp_tree (Prefix s p) = alone (Signed s (item_tree p))
  exp_tree (Repeat p l m) = alone (Times (body_of (item_tree p)) (quant_of l m))
  exp_tree (Macro q p) = alone (Applied q.name 0 (item_tree p))
  exp_tree (Marked m p) = alone (item_tree p)
  exp_tree (Note s) = alone (leaf (TextLeaf s))

  pub seq_tree : Exprs → Seq
  seq_tree Nil = Single (leaf AnyLeaf)
  seq_tree (Cons p Nil) = Single (item_tree p)
  seq_tree (Cons p (Cons q rest)) = More (item_tree p) (seq_tree (Cons q rest))

  -- the parts of a choice, of which each but the last stands as an item
  pub choice_tree : Exprs → Exp
  choice_tree Nil = alone (leaf AnyLeaf)
  choice_tree (Cons p Nil) = exp_tree p
  choice_tree (Cons p (Cons q rest)) = Or (Single (item_tree p)) (choice_tree (Cons q rest))
