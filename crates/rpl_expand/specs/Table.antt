-- The rule table, and the core of a pattern.
use Rattle.std.specs.Prelude.{ℕ, Bool, true, false, List, [], ◌∷◌, ◌++◌, Option, None, codes, not}
use Rattle.rpl_core.specs.Core.{Core, Set, Choice, Many, Not, And, Behind, Capture, Start, End, Halt}
use Rattle.rpl_core.specs.Core.{NoMore, Then}
use Rattle.rpl_syntax.specs.Expression.{Expr}
use Rattle.rpl_syntax.specs.Expression as X
use Rattle.rpl_syntax.specs.declared.name.QName.{QName}
use Rattle.rpl_macro.specs.declared.casing.Casing.TheVariants.{Plain}
use Rattle.rpl_forms.specs.Forms.{pair}
use Rattle.rpl_forms.specs.Inlining.{Inners, inner}
use Rattle.rpl_forms.specs.Table.{Row, inners_from}
use Rattle.rpl_expand.specs.Expansion.{Scope, core}

-- a statement that makes a rule: its full name, its block, whether it makes a tree, and what holds where it stands
pub record Statement : Type 0 where
  pub name : List ℕ
  pub block : Option ℕ
  pub captures : Bool
  pub rule : QName → ℕ
  pub boundary : ℕ
  pub body : Expr

-- blanks, letters and digits, and punctuation of ASCII
abbrev pub blank : Core
blank = Set ((0x9, 0xd) ∷ (0x20, 0x20) ∷ [])

abbrev pub word : Core
word = Set ((0x30, 0x39) ∷ (0x41, 0x5a) ∷ (0x61, 0x7a) ∷ [])

abbrev pub mark : Core
mark = Set ((0x21, 0x2f) ∷ (0x3a, 0x40) ∷ (0x5b, 0x60) ∷ (0x7b, 0x7e) ∷ [])

-- the boundary between two words
abbrev pub boundary : Core
boundary = Choice
    (Then (pair blank (Many blank))
    (Then (pair (And word) (Not (Behind 1 1 word)))
    (Then (And mark)
    (Then (Behind 1 1 mark)
    (Then (pair (Behind 1 1 blank) (Not blank))
    (Then End
    (Then Start NoMore)))))))

-- the tree around a body, if there is one
abbrev pub captured : Bool → List ℕ → Core → Core
captured true name p = Capture name p
captured false name p = p

abbrev pub scope_at : Inners → Statement → Scope
scope_at I s = record { rule = s.rule; boundary = s.boundary; inners = I }

abbrev pub body_of : Inners → Statement → Core
body_of I s = captured s.captures s.name (core Plain (scope_at I s) s.body)

abbrev pub row_of : Inners → Statement → Row
row_of I s = record { name = s.name; block = s.block; body = body_of I s }

-- the rows of some statements, after rules that these stand for in a look-behind
abbrev pub rows : Inners → List Statement → List Row
rows I [] = []
rows I (s ∷ ss) = row_of I s ∷ rows (I ++ inner I s.block (body_of I s) ∷ []) ss

-- the boundary and `halt`, which no statement makes
abbrev pub built_in : (halt : List ℕ) → List Row
built_in halt =
    record { name = codes "~"; block = None; body = boundary }
    ∷ record { name = halt; block = None; body = Halt } ∷ []

-- the table of some statements; `halt` is the full name of the built-in rule
abbrev pub table : (halt : List ℕ) → List Statement → List Row
table halt ss = built_in halt ++ rows (inners_from [] (built_in halt)) ss

-- the expression is the name of a rule that makes a tree
abbrev pub has_root : (QName → Bool) → Expr → Bool
has_root captures (X.Name q) = captures q
has_root captures _ = false

-- the core of a pattern, under its root capture unless it is the name of a rule that makes a tree
abbrev pub goal : (captures : QName → Bool) → Scope → Expr → Core
goal captures s e = captured (not (has_root captures e)) (codes "*") (core Plain s e)
