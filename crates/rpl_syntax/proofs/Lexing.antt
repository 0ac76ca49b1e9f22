-- A tree, as it is written, is cut into its tokens.
use Rattle.std.proofs.Common.{◌≡◌, ℕ, ◌+◌, ◌-◌, ◌<◌, ◌≤◌, List, [], ◌∷◌, ◌++◌, length, drop, refl, sym, ap, subst, ◌∙◌}
use Rattle.std.proofs.Common.{arith, append_assoc, length-append}
use Rattle.std.specs.Prelude.{Bool, true, false, ◌||◌, nat_eq, Ok, chars, encode_utf8_all}
use Rattle.std.specs.Str.{all_scalars}
use Rattle.std.proofs.lemmas.Str.{encodes-append, encodes-IsAscii, chars-IsAscii, chars-encodes, IsAscii-append}
use Rattle.std.proofs.lemmas.Str.Ascii.{IsAscii-cons}
use Rattle.std.proofs.lemmas.Bool.Decides.{nat_tests}
use Rattle.std.specs.List.{list_all}
use Rattle.rpl_text.specs.Ascii.{is_letter, is_digit}
use Rattle.regex_class.specs.Ranges.{Range}
use Rattle.rpl_classes.specs.Sets.{IsNormal}
use Rattle.rpl_classes.specs.Brackets.{bracket_of}
use Rattle.rpl_lexer.specs.declared.punct.Punct.TheVariants.{Colon, Slash, Ampersand, OpenBrace, OpenParen, Dot, Caret}
use Rattle.rpl_lexer.specs.declared.punct.Punct.TheVariants.{Dollar, Tilde, Star, Plus, Question}
use Rattle.rpl_lexer.specs.declared.token.TokenKind.TheVariants as K
use Rattle.rpl_lexer.specs.Bytes.{is_space, is_word}
use Rattle.rpl_lexer.specs.Braces.{begins_bounds}
use Rattle.rpl_lexer.specs.Payloads.{decoded}
use Rattle.rpl_lexer.specs.Forms.{IsName}
use Rattle.rpl_lexer.proofs.Quotes as Q
use Rattle.rpl_lexer.proofs.Stood.{bracket_stands}
use Rattle.rpl_lexer.proofs.Spans.{left, drop_zero}
use Rattle.rpl_syntax.specs.declared.expr.Sign.TheVariants.{Not, Ahead, Behind}
use Rattle.rpl_syntax.specs.declared.token.Token.{Token}
use Rattle.rpl_syntax.specs.declared.token.Token.TheVariants as T
use Rattle.rpl_syntax.specs.Grammar.{Leaf, TextLeaf, ClassLeaf, NameLeaf, QualifiedLeaf, AnyLeaf, StartLeaf, EndLeaf}
use Rattle.rpl_syntax.specs.Grammar.{BoundaryLeaf, Quant, StarQuant, PlusQuant, QuestionQuant, BoundsQuant, Exp, Last}
use Rattle.rpl_syntax.specs.Grammar.{Or, And, Seq, Single, More, Item, Signed, Applied, Plain, Times, Atom, One, Group}
use Rattle.rpl_syntax.specs.Grammar.{leaf_token, quant_token, sign_mark, opener, closer, spell_exp, spell_seq}
use Rattle.rpl_syntax.specs.Grammar.{spell_item, spell_atom}
use Rattle.rpl_syntax.specs.Printed.{quoted, caret_text, members_text, class_text}
use Rattle.rpl_syntax.specs.Texts.{Allowed}
use Rattle.rpl_syntax.specs.Writing.{mark}
use Rattle.rpl_syntax.proofs.Cutting.{Lexes}
use Rattle.rpl_syntax.proofs.Encoded.{token_bytes, bytes_exp, bytes_seq, bytes_item, bytes_atom, low}
use Rattle.rpl_syntax.proofs.Fronts.{tight, space, sign, Loose, name_ascii, name, pair}
use Rattle.rpl_syntax.proofs.Hexes.{writes, closed_scalars}
use Rattle.rpl_syntax.proofs.Numbers.{bounds, bounds_loose}
use Rattle.rpl_syntax.proofs.Classes.{all_fine, class_ascii, class_inner, class_read}

-- ---- texts

text_bytes : (s : List ℕ) → token_bytes (T.Text s) ≡ 34 ∷ (encode_utf8_all (quoted s) ++ 34 ∷ [])
text_bytes s =
    low 34 (quoted s ++ 34 ∷ []) (omega arith) ∙ ap (λ x. 34 ∷ x) (encodes-append (quoted s) (34 ∷ [])
    ∙ ap (λ x. encode_utf8_all (quoted s) ++ x) (low 34 [] (omega arith)))

text : (s r : List ℕ) (ts : List Token) → all_scalars s ≡ true → Lexes r ts
    → Lexes (token_bytes (T.Text s) ++ r) (T.Text s ∷ ts)
text s r ts h l =
    let q = encode_utf8_all (quoted s) in
    let v = 34 ∷ (q ++ 34 ∷ []) in
    let b = Q.reads_back (quoted s) s r (writes s) in
    let n : length v ≡ length q + 2 = omega (arith, length-append q (34 ∷ [])) in
    let z : length v - 0 ≡ length q + 2 = omega arith in
    let inside : length v ≤ length (v ++ r) = omega (arith, length-append v r) in
    let e : chars (drop 1 v) ≡ quoted s ++ 34 ∷ [] =
    ap chars (drop_zero (q ++ 34 ∷ [])
    ∙ (ap (λ x. q ++ x) (sym (low 34 [] (omega arith))) ∙ sym (encodes-append (quoted s) (34 ∷ []))))
    ∙ chars-encodes (quoted s ++ 34 ∷ []) (closed_scalars s h) in
    let says : T.Text s ≡ T.Text (decoded 0 (chars (drop 1 v))) =
    ap (λ x. T.Text x) (sym (ap (decoded 0) e ∙ b.text)) in
    subst (λ x. Lexes (x ++ r) (T.Text s ∷ ts)) (sym (text_bytes s))
    (tight K.Text v r (T.Text s) ts refl (record {
      forward = omega arith;
      inside = inside;
      stands = rw (append_assoc q (34 ∷ []) r, z) b.token;
    }) says l)

-- ---- which trees can be written

abbrev pub Fit_leaf : Leaf → Type 0
Fit_leaf (TextLeaf s) = all_scalars s ≡ true
Fit_leaf (ClassLeaf ranges negated) = IsNormal ranges
Fit_leaf (NameLeaf n at) = IsName n false × (at ≡ 0)
Fit_leaf (QualifiedLeaf p n at) = IsName p false × IsName n false × (at ≡ 0)
Fit_leaf _ = Unit {0}

abbrev pub Fit_quant : Quant → Type 0
Fit_quant (BoundsQuant l m) = Allowed l m
Fit_quant _ = Unit {0}

abbrev mutual
  pub Fit_exp : Exp → Type 0
  Fit_exp (Last s) = Fit_seq s
  Fit_exp (Or s e) = Fit_seq s × Fit_exp e
  Fit_exp (And s e) = Fit_seq s × Fit_exp e

  pub Fit_seq : Seq → Type 0
  Fit_seq (Single i) = Fit_item i
  Fit_seq (More i s) = Fit_item i × Fit_seq s

  pub Fit_item : Item → Type 0
  Fit_item (Signed s i) = Fit_item i
  Fit_item (Applied n at i) = IsName n false × (at ≡ 0) × Fit_item i
  Fit_item (Plain a) = Fit_atom a
  Fit_item (Times a q) = Fit_atom a × Fit_quant q

  pub Fit_atom : Atom → Type 0
  Fit_atom (One l) = Fit_leaf l
  Fit_atom (Group raw e) = Fit_exp e

-- ---- what begins no bounds

letter_braceless : (b : ℕ) → is_letter b ≡ true → (is_space b ≡ false) × ((is_digit b || nat_eq b 44) ≡ false)
letter_braceless b h = (grind (arith, nat_tests), grind (arith, nat_tests))

name_braceless : (n r : List ℕ) → IsName n false → begins_bounds (n ++ r) ≡ false
name_braceless [] r h = let e = left false true h.name in absurd (cc)
name_braceless (b ∷ s) r h = let p = letter_braceless b (left (is_letter b) (list_all is_word (b ∷ s)) h.name) in
    rw (p.0, p.1) refl

name_bytes : (n : List ℕ) → IsName n false → encode_utf8_all n ≡ n
name_bytes n h = encodes-IsAscii n (name_ascii n false h)

pair_bytes : (p n : List ℕ) → IsName p false → IsName n false → encode_utf8_all (p ++ 46 ∷ n) ≡ p ++ 46 ∷ n
pair_bytes p n h g =
    encodes-IsAscii (p ++ 46 ∷ n)
    (IsAscii-append p (46 ∷ n) (name_ascii p false h) (IsAscii-cons 46 n (omega arith) (name_ascii n false g)))

class_bytes : (ranges : List Range) (negated : Bool) → IsNormal ranges
    → encode_utf8_all (class_text ranges negated) ≡ class_text ranges negated
class_bytes ranges negated h =
    encodes-IsAscii (class_text ranges negated) (class_ascii ranges negated (all_fine ranges h))

class : (ranges : List Range) (negated : Bool) (r : List ℕ) (ts : List Token) → IsNormal ranges → Lexes r ts
    → Lexes (token_bytes (T.Class ranges negated) ++ r) (T.Class ranges negated ∷ ts)
class ranges negated r ts h l =
    let f = all_fine ranges h in
    let u = caret_text negated ++ members_text ranges in
    let v = class_text ranges negated in
    let n : length v ≡ length u + 2 = omega (arith, length-append u (93 ∷ [])) in
    let z : length v - 0 ≡ length u + 2 = omega arith in
    let inside : length v ≤ length (v ++ r) = omega (arith, length-append v r) in
    let e : bracket_of (chars v) ≡ Ok (ranges, negated) = ap bracket_of (chars-IsAscii v (class_ascii ranges negated f))
    ∙ class_read ranges negated h in
    let some : 0 < length v = omega arith in
    subst (λ x. Lexes (x ++ r) (T.Class ranges negated ∷ ts)) (sym (class_bytes ranges negated h))
    (tight K.Bracket v r (T.Class ranges negated) ts refl (record {
      forward = some;
      inside = inside;
      stands = rw (append_assoc u (93 ∷ []) r, z) (bracket_stands u r (class_inner ranges negated f));
    }) (
      ranges,
      negated,
      e,
      refl,
    ) l)

leaf_braceless : (l : Leaf) (r : List ℕ) → Fit_leaf l → begins_bounds (token_bytes (leaf_token l) ++ r) ≡ false
leaf_braceless (TextLeaf s) r h = ap (λ x. begins_bounds (x ++ r)) (text_bytes s)
leaf_braceless (ClassLeaf ranges negated) r h = ap (λ x. begins_bounds (x ++ r)) (class_bytes ranges negated h)
leaf_braceless (NameLeaf n at) r h = ap (λ x. begins_bounds (x ++ r)) (name_bytes n h.0) ∙ name_braceless n r h.0
leaf_braceless (QualifiedLeaf p n at) r h = ap (λ x. begins_bounds (x ++ r)) (pair_bytes p n h.0 h.1)
    ∙ (ap begins_bounds (append_assoc p (46 ∷ n) r) ∙ name_braceless p (46 ∷ (n ++ r)) h.0)
leaf_braceless AnyLeaf r h = ap (λ x. begins_bounds (x ++ r)) (low 46 [] (omega arith))
leaf_braceless StartLeaf r h = ap (λ x. begins_bounds (x ++ r)) (low 94 [] (omega arith))
leaf_braceless EndLeaf r h = ap (λ x. begins_bounds (x ++ r)) (low 36 [] (omega arith))
leaf_braceless BoundaryLeaf r h = ap (λ x. begins_bounds (x ++ r)) (low 126 [] (omega arith))

atom_braceless : (a : Atom) (r : List ℕ) → Fit_atom a → begins_bounds (bytes_atom a r) ≡ false
atom_braceless (One l) r h = leaf_braceless l r h
atom_braceless (Group true e) r h = refl
atom_braceless (Group false e) r h = refl

item_braceless : (i : Item) (r : List ℕ) → Fit_item i → begins_bounds (bytes_item i r) ≡ false
item_braceless (Signed Not i) r h = refl
item_braceless (Signed Ahead i) r h = refl
item_braceless (Signed Behind i) r h = refl
item_braceless (Applied n at i) r h = ap (λ x. begins_bounds (x ++ 58 ∷ bytes_item i r)) (name_bytes n h.0)
    ∙ name_braceless n (58 ∷ bytes_item i r) h.0
item_braceless (Plain a) r h = atom_braceless a r h
item_braceless (Times a q) r h = atom_braceless a (token_bytes (quant_token q) ++ r) h.0

seq_braceless : (s : Seq) (r : List ℕ) → Fit_seq s → begins_bounds (bytes_seq s r) ≡ false
seq_braceless (Single i) r h = item_braceless i r h
seq_braceless (More i s) r h = item_braceless i (32 ∷ bytes_seq s r) h.0

exp_braceless : (e : Exp) (r : List ℕ) → Fit_exp e → begins_bounds (bytes_exp e r) ≡ false
exp_braceless (Last s) r h = seq_braceless s r h
exp_braceless (Or s e) r h = seq_braceless s (32 ∷ 47 ∷ 32 ∷ bytes_exp e r) h.0
exp_braceless (And s e) r h = seq_braceless s (32 ∷ 38 ∷ 32 ∷ bytes_exp e r) h.0

-- ---- tokens of one kind or another

leaf : (l : Leaf) (r : List ℕ) (ts : List Token) → Fit_leaf l → Loose r → Lexes r ts
    → Lexes (token_bytes (leaf_token l) ++ r) (leaf_token l ∷ ts)
leaf (TextLeaf s) r ts h k l = text s r ts h l
leaf (ClassLeaf ranges negated) r ts h k l = class ranges negated r ts h l
leaf (NameLeaf n at) r ts h k l =
    subst (λ x. Lexes (encode_utf8_all n ++ r) (T.Name n x ∷ ts)) (sym h.1)
    (subst (λ x. Lexes (x ++ r) (T.Name n 0 ∷ ts)) (sym (name_bytes n h.0)) (name n r ts h.0 k l))
leaf (QualifiedLeaf p n at) r ts h k l =
    subst (λ x. Lexes (encode_utf8_all (p ++ 46 ∷ n) ++ r) (T.Qualified p n x ∷ ts)) (sym h.2)
    (subst (λ x. Lexes (x ++ r) (T.Qualified p n 0 ∷ ts)) (sym (pair_bytes p n h.0 h.1)) (pair p n r ts h.0 h.1 k l))
leaf AnyLeaf r ts h k l =
    subst (λ x. Lexes (x ++ r) (T.Sign Dot ∷ ts)) (sym (low 46 [] (omega arith))) (sign Dot r ts tt l)
leaf StartLeaf r ts h k l =
    subst (λ x. Lexes (x ++ r) (T.Sign Caret ∷ ts)) (sym (low 94 [] (omega arith))) (sign Caret r ts tt l)
leaf EndLeaf r ts h k l =
    subst (λ x. Lexes (x ++ r) (T.Sign Dollar ∷ ts)) (sym (low 36 [] (omega arith))) (sign Dollar r ts tt l)
leaf BoundaryLeaf r ts h k l =
    subst (λ x. Lexes (x ++ r) (T.Sign Tilde ∷ ts)) (sym (low 126 [] (omega arith))) (sign Tilde r ts tt l)

quant : (q : Quant) (r : List ℕ) (ts : List Token) → Fit_quant q → Lexes r ts
    → Lexes (token_bytes (quant_token q) ++ r) (quant_token q ∷ ts)
quant StarQuant r ts h l =
    subst (λ x. Lexes (x ++ r) (T.Sign Star ∷ ts)) (sym (low 42 [] (omega arith))) (sign Star r ts tt l)
quant PlusQuant r ts h l =
    subst (λ x. Lexes (x ++ r) (T.Sign Plus ∷ ts)) (sym (low 43 [] (omega arith))) (sign Plus r ts tt l)
quant QuestionQuant r ts h l =
    subst (λ x. Lexes (x ++ r) (T.Sign Question ∷ ts)) (sym (low 63 [] (omega arith))) (sign Question r ts tt l)
quant (BoundsQuant l m) r ts h k = bounds l m r ts h k

loose_byte : (b : ℕ) (r : List ℕ) → is_word b ≡ false → nat_eq b 46 ≡ false → Loose (b ∷ r)
loose_byte b r h k = record { word = h; dot = k }

quant_loose : (q : Quant) (r : List ℕ) → Fit_quant q → Loose (token_bytes (quant_token q) ++ r)
quant_loose StarQuant r h = subst (λ x. Loose (x ++ r)) (sym (low 42 [] (omega arith))) (loose_byte 42 r refl refl)
quant_loose PlusQuant r h = subst (λ x. Loose (x ++ r)) (sym (low 43 [] (omega arith))) (loose_byte 43 r refl refl)
quant_loose QuestionQuant r h = subst (λ x. Loose (x ++ r)) (sym (low 63 [] (omega arith))) (loose_byte 63 r refl refl)
quant_loose (BoundsQuant l m) r h = bounds_loose l m r

signed : (s : _) (r : List ℕ) (ts : List Token) → Lexes r ts
    → Lexes (mark (sign_mark s) ∷ r) (T.Sign (sign_mark s) ∷ ts)
signed Not r ts l = sign (sign_mark Not) r ts tt l
signed Ahead r ts l = sign (sign_mark Ahead) r ts tt l
signed Behind r ts l = sign (sign_mark Behind) r ts tt l

opening : (raw : Bool) (r : List ℕ) (ts : List Token) → begins_bounds r ≡ false → Lexes r ts
    → Lexes (mark (opener raw) ∷ r) (T.Sign (opener raw) ∷ ts)
opening true r ts b l = sign OpenBrace r ts b l
opening false r ts b l = sign OpenParen r ts tt l

closing : (raw : Bool) (r : List ℕ) (ts : List Token) → Lexes r ts
    → Lexes (mark (closer raw) ∷ r) (T.Sign (closer raw) ∷ ts)
closing true r ts l = sign (closer true) r ts tt l
closing false r ts l = sign (closer false) r ts tt l

closer_loose : (raw : Bool) (r : List ℕ) → Loose (mark (closer raw) ∷ r)
closer_loose true r = loose_byte 125 r refl refl
closer_loose false r = loose_byte 41 r refl refl

-- ---- trees

mutual
  pub lexes_exp : (e : Exp) (r : List ℕ) (ts : List Token) → Fit_exp e → Loose r → Lexes r ts
      → Lexes (bytes_exp e r) (spell_exp e ts)
  lexes_exp (Last s) r ts h k l = lexes_seq s r ts h k l
  lexes_exp (Or s e) r ts h k l =
      let b = bytes_exp e r in
      let t = spell_exp e ts in
      lexes_seq s (32 ∷ 47 ∷ 32 ∷ b) (T.Sign Slash ∷ t) h.0 (loose_byte 32 (47 ∷ 32 ∷ b) refl refl)
      (space (47 ∷ 32 ∷ b) (T.Sign Slash ∷ t) (sign Slash (32 ∷ b) t tt (space b t (lexes_exp e r ts h.1 k l))))
  lexes_exp (And s e) r ts h k l =
      let b = bytes_exp e r in
      let t = spell_exp e ts in
      lexes_seq s (32 ∷ 38 ∷ 32 ∷ b) (T.Sign Ampersand ∷ t) h.0 (loose_byte 32 (38 ∷ 32 ∷ b) refl refl)
      (space (38 ∷ 32 ∷ b) (T.Sign Ampersand ∷ t) (sign Ampersand (32 ∷ b) t tt (space b t (lexes_exp e r ts h.1 k l))))

  lexes_seq : (s : Seq) (r : List ℕ) (ts : List Token) → Fit_seq s → Loose r → Lexes r ts
      → Lexes (bytes_seq s r) (spell_seq s ts)
  lexes_seq (Single i) r ts h k l = lexes_item i r ts h k l
  lexes_seq (More i s) r ts h k l =
      lexes_item i (32 ∷ bytes_seq s r) (spell_seq s ts) h.0 (loose_byte 32 (bytes_seq s r) refl refl)
      (space (bytes_seq s r) (spell_seq s ts) (lexes_seq s r ts h.1 k l))

  lexes_item : (i : Item) (r : List ℕ) (ts : List Token) → Fit_item i → Loose r → Lexes r ts
      → Lexes (bytes_item i r) (spell_item i ts)
  lexes_item (Signed s i) r ts h k l = signed s (bytes_item i r) (spell_item i ts) (lexes_item i r ts h k l)
  lexes_item (Applied n at i) r ts h k l =
      let b = bytes_item i r in
      let t = spell_item i ts in
      leaf (NameLeaf n at) (58 ∷ b) (T.Sign Colon ∷ t) (h.0, h.1) (loose_byte 58 b refl refl)
      (sign Colon b t tt (lexes_item i r ts h.2 k l))
  lexes_item (Plain a) r ts h k l = lexes_atom a r ts h k l
  lexes_item (Times a q) r ts h k l =
      lexes_atom a (token_bytes (quant_token q) ++ r) (quant_token q ∷ ts) h.0 (quant_loose q r h.1)
      (quant q r ts h.1 l)

  lexes_atom : (a : Atom) (r : List ℕ) (ts : List Token) → Fit_atom a → Loose r → Lexes r ts
      → Lexes (bytes_atom a r) (spell_atom a ts)
  lexes_atom (One l) r ts h k f = leaf l r ts h k f
  lexes_atom (Group raw e) r ts h k l =
      let q = mark (closer raw) ∷ r in
      let t = T.Sign (closer raw) ∷ ts in
      opening raw (bytes_exp e q) (spell_exp e t) (exp_braceless e q h)
      (lexes_exp e q t h (closer_loose raw r) (closing raw r ts l))
