-- How a tree is written: the text of each token in turn, with a space between the items of a sequence and on both
-- sides of `/` and `&`.
use Rattle.std.specs.Prelude.{ℕ, List, [], ◌∷◌, ◌++◌}
use Rattle.std.specs.Fmt.{decimal}
use Rattle.rpl_lexer.specs.declared.punct.Punct.{Punct}
use Rattle.rpl_lexer.specs.declared.punct.Punct.TheVariants.{OpenBrace, CloseBrace, OpenParen, CloseParen, Slash}
use Rattle.rpl_lexer.specs.declared.punct.Punct.TheVariants.{Ampersand, Bang, Greater, Less, Star, Plus, Question, Dot}
use Rattle.rpl_lexer.specs.declared.punct.Punct.TheVariants.{Caret, Dollar, Tilde, Equals, Comma, Colon}
use Rattle.rpl_lexer.specs.Keywords.{word_of}
use Rattle.rpl_syntax.specs.declared.token.Token.{Token}
use Rattle.rpl_syntax.specs.declared.token.Token.TheVariants as T
use Rattle.rpl_syntax.specs.Grammar.{Exp, Last, Or, And, Seq, Single, More, Item, Signed, Applied, Plain, Times, Atom}
use Rattle.rpl_syntax.specs.Grammar.{One, Group, leaf_token, quant_token, sign_mark, opener, closer}
use Rattle.rpl_syntax.specs.Printed.{literal_text, class_text, bounds_text}

-- the character of a sign
abbrev pub mark : Punct → ℕ
mark OpenBrace = 123
mark CloseBrace = 125
mark OpenParen = 40
mark CloseParen = 41
mark Slash = 47
mark Ampersand = 38
mark Bang = 33
mark Greater = 62
mark Less = 60
mark Star = 42
mark Plus = 43
mark Question = 63
mark Dot = 46
mark Caret = 94
mark Dollar = 36
mark Tilde = 126
mark Equals = 61
mark Comma = 44
mark Colon = 58

-- the text of a token
abbrev pub token_text : Token → List ℕ
token_text (T.Name n at) = n
token_text (T.Qualified p n at) = p ++ 46 ∷ n
token_text (T.Keyword w) = word_of w
token_text (T.Text s) = literal_text s
token_text (T.Class ranges negated) = class_text ranges negated
token_text (T.Bounds l m) = bounds_text l m
token_text (T.Number n) = decimal n
token_text (T.Sign k) = mark k ∷ []

-- the text of each, and after it r
abbrev mutual
  pub write_exp : Exp → List ℕ → List ℕ
  write_exp (Last s) r = write_seq s r
  write_exp (Or s e) r = write_seq s (32 ∷ 47 ∷ 32 ∷ write_exp e r)
  write_exp (And s e) r = write_seq s (32 ∷ 38 ∷ 32 ∷ write_exp e r)

  pub write_seq : Seq → List ℕ → List ℕ
  write_seq (Single i) r = write_item i r
  write_seq (More i s) r = write_item i (32 ∷ write_seq s r)

  pub write_item : Item → List ℕ → List ℕ
  write_item (Signed s i) r = mark (sign_mark s) ∷ write_item i r
  write_item (Applied n at i) r = n ++ 58 ∷ write_item i r
  write_item (Plain a) r = write_atom a r
  write_item (Times a q) r = write_atom a (token_text (quant_token q) ++ r)

  pub write_atom : Atom → List ℕ → List ℕ
  write_atom (One l) r = token_text (leaf_token l) ++ r
  write_atom (Group raw e) r = mark (opener raw) ∷ write_exp e (mark (closer raw) ∷ r)
