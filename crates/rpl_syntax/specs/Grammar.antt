-- The grammar of expressions: one case for each of its lines, with the tokens of each case and what it stands for.
--
--   Exp   := Seq | Seq "/" Exp | Seq "&" Exp
--   Seq   := Item | Item Seq
--   Item  := "!" Item | ">" Item | "<" Item | Name ":" Item | Atom | Atom Quant
--   Atom  := Text | Bracket | "." | "^" | "$" | "~" | Name | Qualified | "(" Exp ")" | "{" Exp "}"
--   Quant := "*" | "+" | "?" | Bounds
use Rattle.std.specs.Prelude.{◌≡◌, ℕ, Bool, true, false, List, [], ◌∷◌, Option, Some, None}
use Rattle.regex_class.specs.Ranges.{Range}
use Rattle.rpl_lexer.specs.declared.punct.Punct.{Punct}
use Rattle.rpl_lexer.specs.declared.punct.Punct.TheVariants.{Bang, Greater, Less, Colon, Slash, Ampersand, OpenParen}
use Rattle.rpl_lexer.specs.declared.punct.Punct.TheVariants.{CloseParen, OpenBrace, CloseBrace, Star, Plus, Question}
use Rattle.rpl_lexer.specs.declared.punct.Punct.TheVariants.{Dot, Caret, Dollar, Tilde}
use Rattle.rpl_syntax.specs.declared.token.Token.{Token}
use Rattle.rpl_syntax.specs.declared.token.Token.TheVariants as T
use Rattle.rpl_syntax.specs.declared.name.QName.{QName}
use Rattle.rpl_syntax.specs.declared.expr.Sign.{Sign}
use Rattle.rpl_syntax.specs.declared.expr.Sign.TheVariants.{Not, Ahead, Behind}
use Rattle.rpl_syntax.specs.Expression.{Expr, Exprs, one, wrapped, joined, chosen, Cons}
use Rattle.rpl_syntax.specs.Expression as M

-- an atom of one token
pub data Leaf : Type 0 where
  TextLeaf : (chars : List ℕ) → Leaf
  ClassLeaf : (ranges : List Range) (negated : Bool) → Leaf
  AnyLeaf : Leaf
  StartLeaf : Leaf
  EndLeaf : Leaf
  BoundaryLeaf : Leaf
  NameLeaf : (name : List ℕ) (at : ℕ) → Leaf
  QualifiedLeaf : (prefix name : List ℕ) (at : ℕ) → Leaf

pub data Quant : Type 0 where
  StarQuant : Quant
  PlusQuant : Quant
  QuestionQuant : Quant
  BoundsQuant : (least : ℕ) (most : Option ℕ) → Quant

mutual
  pub data Exp : Type 0 where
    Last : (s : Seq) → Exp
    Or : (s : Seq) (e : Exp) → Exp
    And : (s : Seq) (e : Exp) → Exp

  pub data Seq : Type 0 where
    Single : (i : Item) → Seq
    More : (i : Item) (s : Seq) → Seq

  pub data Item : Type 0 where
    Signed : (s : Sign) (i : Item) → Item
    Applied : (name : List ℕ) (at : ℕ) (i : Item) → Item
    Plain : (a : Atom) → Item
    Times : (a : Atom) (q : Quant) → Item

  pub data Atom : Type 0 where
    One : (l : Leaf) → Atom
    Group : (raw : Bool) (e : Exp) → Atom

-- ---- spelling: the tokens of each, and after them the tokens r

abbrev pub leaf_token : Leaf → Token
leaf_token (TextLeaf s) = T.Text s
leaf_token (ClassLeaf s negated) = T.Class s negated
leaf_token AnyLeaf = T.Sign Dot
leaf_token StartLeaf = T.Sign Caret
leaf_token EndLeaf = T.Sign Dollar
leaf_token BoundaryLeaf = T.Sign Tilde
leaf_token (NameLeaf n at) = T.Name n at
leaf_token (QualifiedLeaf p n at) = T.Qualified p n at

abbrev pub quant_token : Quant → Token
quant_token StarQuant = T.Sign Star
quant_token PlusQuant = T.Sign Plus
quant_token QuestionQuant = T.Sign Question
quant_token (BoundsQuant l m) = T.Bounds l m

abbrev pub sign_mark : Sign → Punct
sign_mark Not = Bang
sign_mark Ahead = Greater
sign_mark Behind = Less

abbrev pub opener : (raw : Bool) → Punct
opener true = OpenBrace
opener false = OpenParen

abbrev pub closer : (raw : Bool) → Punct
closer true = CloseBrace
closer false = CloseParen

abbrev mutual
  pub spell_exp : Exp → List Token → List Token
  spell_exp (Last s) r = spell_seq s r
  spell_exp (Or s e) r = spell_seq s (T.Sign Slash ∷ spell_exp e r)
  spell_exp (And s e) r = spell_seq s (T.Sign Ampersand ∷ spell_exp e r)

  pub spell_seq : Seq → List Token → List Token
  spell_seq (Single i) r = spell_item i r
  spell_seq (More i s) r = spell_item i (spell_seq s r)

  pub spell_item : Item → List Token → List Token
  spell_item (Signed s i) r = T.Sign (sign_mark s) ∷ spell_item i r
  spell_item (Applied n at i) r = T.Name n at ∷ T.Sign Colon ∷ spell_item i r
  spell_item (Plain a) r = spell_atom a r
  spell_item (Times a q) r = spell_atom a (quant_token q ∷ r)

  pub spell_atom : Atom → List Token → List Token
  spell_atom (One l) r = leaf_token l ∷ r
  spell_atom (Group raw e) r = T.Sign (opener raw) ∷ spell_exp e (T.Sign (closer raw) ∷ r)

-- ---- meaning: the expression of each, raw where the innermost group is

abbrev pub unprefixed : (name : List ℕ) (at : ℕ) → QName
unprefixed n at = record { prefix = None; name = n; at = at }

abbrev pub prefixed : (prefix name : List ℕ) (at : ℕ) → QName
prefixed p n at = record { prefix = Some p; name = n; at = at }

abbrev pub leaf_expr : Leaf → Expr
leaf_expr (TextLeaf s) = M.Text s
leaf_expr (ClassLeaf s negated) = M.Class s negated
leaf_expr AnyLeaf = M.Any
leaf_expr StartLeaf = M.Start
leaf_expr EndLeaf = M.End
leaf_expr BoundaryLeaf = M.Boundary
leaf_expr (NameLeaf n at) = M.Name (unprefixed n at)
leaf_expr (QualifiedLeaf p n at) = M.Name (prefixed p n at)

abbrev pub times : Quant → Expr → Expr
times StarQuant p = M.Repeat p 0 None
times PlusQuant p = M.Repeat p 1 None
times QuestionQuant p = M.Repeat p 0 (Some 1)
times (BoundsQuant l m) p = M.Repeat p l m

abbrev mutual
  -- what stands in a group: the items of one sequence, or else one expression
  pub content : (raw : Bool) → Exp → Exprs
  content raw (Last s) = items s
  content raw (Or s e) = one (chosen (Cons (joined raw (items s)) (parts raw e)))
  content raw (And s e) = one (M.Both (joined raw (items s)) (joined raw (content raw e)))

  -- the parts of a choice: of `a / b & c` they are a, and both b and c
  pub parts : (raw : Bool) → Exp → Exprs
  parts raw (Last s) = one (joined raw (items s))
  parts raw (Or s e) = Cons (joined raw (items s)) (parts raw e)
  parts raw (And s e) = one (M.Both (joined raw (items s)) (joined raw (content raw e)))

  pub items : Seq → Exprs
  items (Single i) = one (item_expr i)
  items (More i s) = Cons (item_expr i) (items s)

  pub item_expr : Item → Expr
  item_expr (Signed s i) = M.Prefix s (item_expr i)
  item_expr (Applied n at i) = M.Macro (unprefixed n at) (item_expr i)
  item_expr (Plain a) = atom_expr a
  item_expr (Times a q) = times q (atom_expr a)

  pub atom_expr : Atom → Expr
  atom_expr (One l) = leaf_expr l
  atom_expr (Group raw e) = wrapped raw (content raw e)

-- the tokens p are a spelling of the expression x
pub record Reads (p : List Token) (x : Expr) : Type 0 where
  pub tree : Exp
  pub spelled : p ≡ spell_exp tree []
  pub stands_for : x ≡ joined false (content false tree)
