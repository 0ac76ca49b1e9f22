-- The bytes that a tree is written as.
use Rattle.std.proofs.Common.{◌≡◌, ℕ, ◌<◌, List, ◌∷◌, ◌++◌, ap, ◌∙◌, arith}
use Rattle.std.specs.Prelude.{encode_utf8_all}
use Rattle.std.proofs.lemmas.Str.{encode_ascii, encodes-append}
use Rattle.rpl_lexer.specs.declared.punct.Punct.{Punct}
use Rattle.rpl_lexer.specs.declared.punct.Punct.TheVariants.{OpenBrace, CloseBrace, OpenParen, CloseParen, Slash}
use Rattle.rpl_lexer.specs.declared.punct.Punct.TheVariants.{Ampersand, Bang, Greater, Less, Star, Plus, Question, Dot}
use Rattle.rpl_lexer.specs.declared.punct.Punct.TheVariants.{Caret, Dollar, Tilde, Equals, Comma, Colon}
use Rattle.rpl_syntax.specs.declared.token.Token.{Token}
use Rattle.rpl_syntax.specs.Grammar.{Exp, Last, Or, And, Seq, Single, More, Item, Signed, Applied, Plain, Times, Atom}
use Rattle.rpl_syntax.specs.Grammar.{One, Group, leaf_token, quant_token, sign_mark, opener, closer}
use Rattle.rpl_syntax.specs.Writing.{mark, token_text, write_exp, write_seq, write_item, write_atom}

abbrev pub token_bytes : Token → List ℕ
token_bytes t = encode_utf8_all (token_text t)

abbrev mutual
  pub bytes_exp : Exp → List ℕ → List ℕ
  bytes_exp (Last s) r = bytes_seq s r
  bytes_exp (Or s e) r = bytes_seq s (32 ∷ 47 ∷ 32 ∷ bytes_exp e r)
  bytes_exp (And s e) r = bytes_seq s (32 ∷ 38 ∷ 32 ∷ bytes_exp e r)

  pub bytes_seq : Seq → List ℕ → List ℕ
  bytes_seq (Single i) r = bytes_item i r
  bytes_seq (More i s) r = bytes_item i (32 ∷ bytes_seq s r)

  pub bytes_item : Item → List ℕ → List ℕ
  bytes_item (Signed s i) r = mark (sign_mark s) ∷ bytes_item i r
  bytes_item (Applied n at i) r = encode_utf8_all n ++ 58 ∷ bytes_item i r
  bytes_item (Plain a) r = bytes_atom a r
  bytes_item (Times a q) r = bytes_atom a (token_bytes (quant_token q) ++ r)

  pub bytes_atom : Atom → List ℕ → List ℕ
  bytes_atom (One l) r = token_bytes (leaf_token l) ++ r
  bytes_atom (Group raw e) r = mark (opener raw) ∷ bytes_exp e (mark (closer raw) ∷ r)

-- an ASCII character is its byte
pub low : (c : ℕ) (w : List ℕ) → c < 128 → encode_utf8_all (c ∷ w) ≡ c ∷ encode_utf8_all w
low c w lt = ap (λ x. x ++ encode_utf8_all w) (encode_ascii c lt)

mark_low : (k : Punct) → mark k < 128
mark_low OpenBrace = omega arith
mark_low CloseBrace = omega arith
mark_low OpenParen = omega arith
mark_low CloseParen = omega arith
mark_low Slash = omega arith
mark_low Ampersand = omega arith
mark_low Bang = omega arith
mark_low Greater = omega arith
mark_low Less = omega arith
mark_low Star = omega arith
mark_low Plus = omega arith
mark_low Question = omega arith
mark_low Dot = omega arith
mark_low Caret = omega arith
mark_low Dollar = omega arith
mark_low Tilde = omega arith
mark_low Equals = omega arith
mark_low Comma = omega arith
mark_low Colon = omega arith

spaced : (c : ℕ) (w : List ℕ) → c < 128 → encode_utf8_all (32 ∷ c ∷ 32 ∷ w) ≡ 32 ∷ c ∷ 32 ∷ encode_utf8_all w
spaced c w lt = low 32 (c ∷ 32 ∷ w) (omega arith)
    ∙ ap (λ x. 32 ∷ x) (low c (32 ∷ w) lt ∙ ap (λ x. c ∷ x) (low 32 w (omega arith)))

mutual
  pub encoded_exp : (e : Exp) (r : List ℕ) → encode_utf8_all (write_exp e r) ≡ bytes_exp e (encode_utf8_all r)
  encoded_exp (Last s) r = encoded_seq s r
  encoded_exp (Or s e) r = encoded_seq s (32 ∷ 47 ∷ 32 ∷ write_exp e r)
      ∙ ap (bytes_seq s) (spaced 47 (write_exp e r) (omega arith) ∙ ap (λ x. 32 ∷ 47 ∷ 32 ∷ x) (encoded_exp e r))
  encoded_exp (And s e) r = encoded_seq s (32 ∷ 38 ∷ 32 ∷ write_exp e r)
      ∙ ap (bytes_seq s) (spaced 38 (write_exp e r) (omega arith) ∙ ap (λ x. 32 ∷ 38 ∷ 32 ∷ x) (encoded_exp e r))

  encoded_seq : (s : Seq) (r : List ℕ) → encode_utf8_all (write_seq s r) ≡ bytes_seq s (encode_utf8_all r)
  encoded_seq (Single i) r = encoded_item i r
  encoded_seq (More i s) r = encoded_item i (32 ∷ write_seq s r)
      ∙ ap (bytes_item i) (low 32 (write_seq s r) (omega arith) ∙ ap (λ x. 32 ∷ x) (encoded_seq s r))

  encoded_item : (i : Item) (r : List ℕ) → encode_utf8_all (write_item i r) ≡ bytes_item i (encode_utf8_all r)
  encoded_item (Signed s i) r = low (mark (sign_mark s)) (write_item i r) (mark_low (sign_mark s))
      ∙ ap (λ x. mark (sign_mark s) ∷ x) (encoded_item i r)
  encoded_item (Applied n at i) r =
      encodes-append n (58 ∷ write_item i r) ∙ ap (λ x. encode_utf8_all n ++ x) (low 58 (write_item i r) (omega arith)
      ∙ ap (λ x. 58 ∷ x) (encoded_item i r))
  encoded_item (Plain a) r = encoded_atom a r
  encoded_item (Times a q) r = encoded_atom a (token_text (quant_token q) ++ r)
      ∙ ap (bytes_atom a) (encodes-append (token_text (quant_token q)) r)

  encoded_atom : (a : Atom) (r : List ℕ) → encode_utf8_all (write_atom a r) ≡ bytes_atom a (encode_utf8_all r)
  encoded_atom (One l) r = encodes-append (token_text (leaf_token l)) r
  encoded_atom (Group raw e) r =
      low (mark (opener raw)) (write_exp e (mark (closer raw) ∷ r)) (mark_low (opener raw))
      ∙ ap (λ x. mark (opener raw) ∷ x) (encoded_exp e (mark (closer raw) ∷ r)
      ∙ ap (bytes_exp e) (low (mark (closer raw)) r (mark_low (closer raw))))
