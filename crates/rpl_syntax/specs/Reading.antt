-- Reading from left to right with one token ahead: how the tokens that spell an expression are found to do so.
-- The law `one_reading` says that this is the reading of the grammar.
use Rattle.std.specs.Prelude.{ℕ, zero, suc, ◌+◌, Bool, true, false, List, [], ◌∷◌, length, Option, Some, None}
use Rattle.std.specs.Prelude.{if◌then◌else◌}
use Rattle.rpl_text.specs.Options.{◌>>=◌}
use Rattle.rpl_lexer.specs.declared.punct.Punct.{Punct}
use Rattle.rpl_lexer.specs.declared.punct.Punct.TheVariants.{Bang, Greater, Less, Colon, Slash, Ampersand, OpenParen}
use Rattle.rpl_lexer.specs.declared.punct.Punct.TheVariants.{CloseParen, OpenBrace, CloseBrace, Star, Plus, Question}
use Rattle.rpl_lexer.specs.declared.punct.Punct.TheVariants.{Dot, Caret, Dollar, Tilde}
use Rattle.rpl_syntax.specs.declared.token.Token.{Token}
use Rattle.rpl_syntax.specs.declared.token.Token.TheVariants as T
use Rattle.rpl_syntax.specs.declared.expr.Sign.{Sign}
use Rattle.rpl_syntax.specs.declared.expr.Sign.TheVariants.{Not, Ahead, Behind}
use Rattle.rpl_syntax.specs.Expression.{Expr, Exprs, one, joined, chosen, Cons}
use Rattle.rpl_syntax.specs.Expression as M
use Rattle.rpl_syntax.specs.Grammar.{unprefixed, prefixed}

-- a token begins an item
abbrev pub mark_begins : Punct → Bool
mark_begins Bang = true
mark_begins Greater = true
mark_begins Less = true
mark_begins OpenParen = true
mark_begins OpenBrace = true
mark_begins Dot = true
mark_begins Caret = true
mark_begins Dollar = true
mark_begins Tilde = true
mark_begins _ = false

abbrev pub token_begins : Token → Bool
token_begins (T.Text s) = true
token_begins (T.Class s negated) = true
token_begins (T.Name n at) = true
token_begins (T.Qualified p n at) = true
token_begins (T.Sign k) = mark_begins k
token_begins _ = false

abbrev pub begins : List Token → Bool
begins [] = false
begins (t ∷ ts) = token_begins t

-- a quantifier, where one stands
abbrev pub quantified : Expr → List Token → Expr × List Token
quantified x (T.Sign Star ∷ r) = (M.Repeat x 0 None, r)
quantified x (T.Sign Plus ∷ r) = (M.Repeat x 1 None, r)
quantified x (T.Sign Question ∷ r) = (M.Repeat x 0 (Some 1), r)
quantified x (T.Bounds l m ∷ r) = (M.Repeat x l m, r)
quantified x r = (x, r)

-- the closing sign, and then a quantifier
abbrev pub closed : (raw : Bool) → Exprs → List Token → Option (Expr × List Token)
closed true xs (T.Sign CloseBrace ∷ r) = Some (quantified (M.Raw xs) r)
closed false xs (T.Sign CloseParen ∷ r) = Some (quantified (M.Cooked xs) r)
closed raw xs r = None

abbrev pub signed : Sign → Expr × List Token → Option (Expr × List Token)
signed k x = Some (M.Prefix k x.0, x.1)

abbrev pub applied : (name : List ℕ) (at : ℕ) → Expr × List Token → Option (Expr × List Token)
applied n at x = Some (M.Macro (unprefixed n at) x.0, x.1)

-- an item, from the readings of the items and groups in it
abbrev pub item_of :
    (List Token → Option (Expr × List Token)) → (Bool → List Token → Option (Exprs × List Token)) →
    List Token → Option (Expr × List Token)
item_of below group (T.Name n at ∷ T.Sign Colon ∷ r) = below r >>= applied n at
item_of below group (T.Text s ∷ r) = Some (quantified (M.Text s) r)
item_of below group (T.Class s negated ∷ r) = Some (quantified (M.Class s negated) r)
item_of below group (T.Name n at ∷ r) = Some (quantified (M.Name (unprefixed n at)) r)
item_of below group (T.Qualified p n at ∷ r) = Some (quantified (M.Name (prefixed p n at)) r)
item_of below group (T.Sign Bang ∷ r) = below r >>= signed Not
item_of below group (T.Sign Greater ∷ r) = below r >>= signed Ahead
item_of below group (T.Sign Less ∷ r) = below r >>= signed Behind
item_of below group (T.Sign Dot ∷ r) = Some (quantified M.Any r)
item_of below group (T.Sign Caret ∷ r) = Some (quantified M.Start r)
item_of below group (T.Sign Dollar ∷ r) = Some (quantified M.End r)
item_of below group (T.Sign Tilde ∷ r) = Some (quantified M.Boundary r)
item_of below group (T.Sign OpenParen ∷ r) = group false r >>= λ x. closed false x.0 x.1
item_of below group (T.Sign OpenBrace ∷ r) = group true r >>= λ x. closed true x.0 x.1
item_of below group r = None

-- at most n items
abbrev pub items_of : ℕ → (List Token → Option (Expr × List Token)) → List Token → Option (Exprs × List Token)
items_of zero item s = None
items_of (suc n) item s =
    item s >>= λ x.
    if begins x.1 then (items_of n item x.1 >>= λ xs. Some (Cons x.0 xs.0, xs.1)) else Some (one x.0, x.1)

abbrev pub colon : List Token → Bool
colon (T.Sign Colon ∷ r) = true
colon r = false

abbrev pub slash : List Token → Bool
slash (T.Sign Slash ∷ r) = true
slash r = false

abbrev pub ampersand : List Token → Bool
ampersand (T.Sign Ampersand ∷ r) = true
ampersand r = false

abbrev pub joins : List Token → Bool
joins (T.Sign Slash ∷ r) = true
joins (T.Sign Ampersand ∷ r) = true
joins r = false

-- the parts of a choice, the first of which has the items xs
abbrev pub parts_of :
    ℕ → (raw : Bool) → (List Token → Option (Exprs × List Token)) → (List Token → Option (Exprs × List Token)) →
    Exprs → List Token → Option (Exprs × List Token)
parts_of zero raw seq exp xs s = None
parts_of (suc n) raw seq exp xs (T.Sign Slash ∷ r) =
    seq r >>= λ ys. parts_of n raw seq exp ys.0 ys.1 >>= λ ps. Some (Cons (joined raw xs) ps.0, ps.1)
parts_of (suc n) raw seq exp xs (T.Sign Ampersand ∷ r) =
    exp r >>= λ ys. Some (one (M.Both (joined raw xs) (joined raw ys.0)), ys.1)
parts_of (suc n) raw seq exp xs r = Some (one (joined raw xs), r)

abbrev pub seq_of : (List Token → Option (Expr × List Token)) → List Token → Option (Exprs × List Token)
seq_of item s = items_of (length s) item s

abbrev pub content_of :
    (raw : Bool) → (List Token → Option (Exprs × List Token)) → (List Token → Option (Exprs × List Token)) →
    List Token → Option (Exprs × List Token)
content_of raw seq exp s =
    seq s >>= λ xs.
    if joins xs.1 then (parts_of (suc (length xs.1)) raw seq exp xs.0 xs.1 >>= λ ps. Some (one (chosen ps.0), ps.1))
    else Some xs

-- nested no deeper than d
abbrev mutual
  pub read_item : ℕ → List Token → Option (Expr × List Token)
  read_item zero s = None
  read_item (suc d) s = item_of (read_item d) (read_exp d) s

  pub read_exp : ℕ → (raw : Bool) → List Token → Option (Exprs × List Token)
  read_exp zero raw s = None
  read_exp (suc d) raw s = content_of raw (seq_of (read_item d)) (read_exp d raw) s

-- a whole pattern
abbrev pub whole : Exprs × List Token → Option Expr
whole (xs, []) = Some (joined false xs)
whole (xs, t ∷ r) = None

abbrev pub read : List Token → Option Expr
read s = read_exp (length s + 1) false s >>= whole
