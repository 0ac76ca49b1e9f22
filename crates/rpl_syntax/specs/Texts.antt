-- When a text is read as an expression: it is cut into tokens without a fault, and the values of these tokens spell the
-- expression. Which expressions can be written: those that contain nothing that a text cannot spell. And when the
-- printed text of an expression is read as that expression. Nesting is not limited here.
use Rattle.std.specs.Prelude.{◌≡◌, ◌≤◌, ℕ, Bool, true, false, List, [], ◌∷◌, length, Option, Some, None, Ok}
use Rattle.std.specs.Prelude.{encode_utf8_all}
use Rattle.std.specs.Str.{all_scalars}
use Rattle.regex_class.specs.Ranges.{Range}
use Rattle.rpl_classes.specs.Sets.{IsNormal}
use Rattle.rpl_classes.specs.Brackets.{bracket_of}
use Rattle.rpl_lexer.specs.Cut.{IsCut}
use Rattle.rpl_lexer.specs.Forms.{IsName}
use Rattle.rpl_lexer.specs.Said.{Payload, payload}
use Rattle.rpl_lexer.specs.Said as P
use Rattle.rpl_lexer.specs.declared.token.Token.{Token as Lexeme}
use Rattle.rpl_syntax.specs.declared.token.Token.{Token}
use Rattle.rpl_syntax.specs.declared.token.Token.TheVariants as T
use Rattle.rpl_syntax.specs.Expression.{Expr, Text, Class, Any, Start, End, Boundary, Name, Cooked, Raw, Choice, Both}
use Rattle.rpl_syntax.specs.Expression.{Prefix, Repeat, Macro, Marked, Note, Exprs, Nil, Cons}
use Rattle.rpl_syntax.specs.Grammar.{Reads, spell_exp}
use Rattle.rpl_syntax.specs.Printed.{printed}
use Rattle.rpl_syntax.specs.Braces.{again, bare, plain}
use Rattle.rpl_syntax.specs.Trees.{exp_tree}
use Rattle.rpl_syntax.specs.Bounds.{least_of, most_of}

-- ---- what a token says, where it isn't at fault

-- from so many times up, or up to so many: at most 255
abbrev pub Allowed : (least : ℕ) (most : Option ℕ) → Type 0
Allowed l None = l ≤ 255
Allowed l (Some m) = (l ≤ m) × (m ≤ 255)

-- a token that begins at the place says t
abbrev pub Says : (at : ℕ) → Payload → Token → Type 0
Says at (P.Name n) t = t ≡ T.Name n at
Says at (P.Qualified p n) t = t ≡ T.Qualified p n at
Says at (P.Keyword w) t = t ≡ T.Keyword w
Says at (P.Text s) t = t ≡ T.Text s
Says at (P.Bracket s) t =
    (ranges : List Range) × (negated : Bool) × (bracket_of s ≡ Ok (ranges, negated)) × (t ≡ T.Class ranges negated)
Says at (P.Bounds b) t = Allowed (least_of b) (most_of b) × (t ≡ T.Bounds (least_of b) (most_of b))
Says at (P.Number n) t = t ≡ T.Number n
Says at (P.Sign k) t = t ≡ T.Sign k

-- the tokens of the text s say these, one by one
abbrev pub Say : List ℕ → List Lexeme → List Token → Type 0
Say s [] ts = ts ≡ []
Say s (l ∷ ls) ts = (t : Token) × (rest : List Token) × (ts ≡ t ∷ rest) × Says l.start (payload s l) t × Say s ls rest

-- the text s is read as the expression x
pub record IsReadAs (s : List ℕ) (x : Expr) : Type 0 where
  pub lexemes : List Lexeme
  pub tokens : List Token
  pub cut : IsCut s lexemes
  pub say : Say s lexemes tokens
  pub reads : Reads tokens x

-- the printed text of x is read as x with the braces that printing adds; nothing else changes except the byte offsets
-- of names
abbrev pub ReadsBack : Expr → Type 0
ReadsBack x = (y : Expr) × IsReadAs (encode_utf8_all (printed x)) y × (plain y ≡ plain (again x))

-- the printed text of x is read as x, apart from the byte offsets of names and raw groups of one item
abbrev pub ReadsAsItself : Expr → Type 0
ReadsAsItself x = (y : Expr) × IsReadAs (encode_utf8_all (printed x)) y × (bare y ≡ bare x)

-- ---- what can be written

-- the printed text of x has no more tokens than a text may have
abbrev pub HasFewTokens : Expr → Type 0
HasFewTokens x = length (spell_exp (exp_tree x) []) ≤ 262144

-- names that are not keywords
abbrev pub AreNames : (prefix : Option (List ℕ)) (name : List ℕ) → Type 0
AreNames None n = IsName n false
AreNames (Some p) n = IsName p false × IsName n false

abbrev mutual
  -- its texts consist of characters, its classes are sets, its names are names, and its numbers are allowed
  pub Writable : Expr → Type 0
  Writable (Text s) = all_scalars s ≡ true
  Writable (Class ranges negated) = IsNormal ranges
  Writable Any = Unit {0}
  Writable Start = Unit {0}
  Writable End = Unit {0}
  Writable Boundary = Unit {0}
  Writable (Name q) = AreNames q.prefix q.name
  Writable (Cooked ps) = Writable_all ps
  Writable (Raw ps) = Writable_all ps
  Writable (Choice ps) = Writable_all ps
  Writable (Both p q) = Writable p × Writable q
  Writable (Prefix s p) = Writable p
  Writable (Repeat p l m) = Writable p × Allowed l m
  Writable (Macro q p) = IsName q.name false × Writable p
  Writable (Marked m p) = ⊥
  Writable (Note s) = ⊥

  pub Writable_all : Exprs → Type 0
  Writable_all Nil = Unit {0}
  Writable_all (Cons p rest) = Writable p × Writable_all rest
