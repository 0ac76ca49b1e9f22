-- What is spelled is read again.
use Rattle.std.proofs.Common.{◌≡◌, ℕ, zero, suc, ◌+◌, ◌≤◌, List, ◌∷◌, length, Option, Some, refl, ap, ◌∙◌, arith}
use Rattle.std.specs.Prelude.{Bool, true, false}
use Rattle.rpl_text.specs.Options.{◌>>=◌}
use Rattle.rpl_lexer.specs.declared.punct.Punct.TheVariants.{Colon, Slash, Ampersand, CloseParen, CloseBrace, Star}
use Rattle.rpl_lexer.specs.declared.punct.Punct.TheVariants.{Plus, Question}
use Rattle.rpl_syntax.specs.declared.token.Token.{Token}
use Rattle.rpl_syntax.specs.declared.token.Token.TheVariants as T
use Rattle.rpl_syntax.specs.declared.expr.Sign.TheVariants.{Not, Ahead, Behind}
use Rattle.rpl_syntax.specs.Expression.{Expr, Exprs, one, joined, chosen, Cons}
use Rattle.rpl_syntax.specs.Expression as M
use Rattle.rpl_syntax.specs.Grammar.{Leaf, TextLeaf, ClassLeaf, NameLeaf, QualifiedLeaf, AnyLeaf, StartLeaf, EndLeaf}
use Rattle.rpl_syntax.specs.Grammar.{BoundaryLeaf, Quant, StarQuant, PlusQuant, QuestionQuant, BoundsQuant, Exp, Last}
use Rattle.rpl_syntax.specs.Grammar.{Or, And, Seq, Single, More, Item, Signed, Applied, Plain, Times, Atom, One, Group}
use Rattle.rpl_syntax.specs.Grammar.{leaf_token, quant_token, closer, spell_exp, spell_seq, spell_item, spell_atom}
use Rattle.rpl_syntax.specs.Grammar.{leaf_expr, times, content, parts, items, item_expr, atom_expr}
use Rattle.rpl_syntax.specs.Reading.{begins, quantified, closed, item_of, items_of, joins, parts_of, seq_of}
use Rattle.rpl_syntax.specs.Reading.{content_of, read_item, read_exp, signed, applied, colon}

-- ---- what may stand after an item

abbrev pub binds : List Token → Bool
binds (T.Bounds l m ∷ r) = true
binds (T.Sign Star ∷ r) = true
binds (T.Sign Plus ∷ r) = true
binds (T.Sign Question ∷ r) = true
binds (T.Sign Colon ∷ r) = true
binds r = false

-- nothing of an expression stands there
pub record Ends (r : List Token) : Type 0 where
  pub unbound : binds r ≡ false
  pub no_item : begins r ≡ false

no_colon : (r : List Token) → binds r ≡ false → colon r ≡ false
no_colon (T.Sign Colon ∷ r) e = absurd cc
no_colon _ e = refl

quantified_not : (x : Expr) (r : List Token) → binds r ≡ false → quantified x r ≡ (x, r)
quantified_not x (T.Bounds l m ∷ r) e = absurd cc
quantified_not x (T.Sign Star ∷ r) e = absurd cc
quantified_not x (T.Sign Plus ∷ r) e = absurd cc
quantified_not x (T.Sign Question ∷ r) e = absurd cc
quantified_not x _ e = refl

quantified_times : (q : Quant) (x : Expr) (r : List Token) → quantified x (quant_token q ∷ r) ≡ (times q x, r)
quantified_times StarQuant x r = refl
quantified_times PlusQuant x r = refl
quantified_times QuestionQuant x r = refl
quantified_times (BoundsQuant l m) x r = refl

quant_no_colon : (q : Quant) (r : List Token) → colon (quant_token q ∷ r) ≡ false
quant_no_colon StarQuant r = refl
quant_no_colon PlusQuant r = refl
quant_no_colon QuestionQuant r = refl
quant_no_colon (BoundsQuant l m) r = refl

-- ---- how an item begins

atom_begins : (a : Atom) (r : List Token) → (begins (spell_atom a r) ≡ true) × (binds (spell_atom a r) ≡ false)
atom_begins (One (TextLeaf s)) r = (refl, refl)
atom_begins (One (ClassLeaf s negated)) r = (refl, refl)
atom_begins (One (QualifiedLeaf p n at)) r = (refl, refl)
atom_begins (One (NameLeaf n at)) r = (refl, refl)
atom_begins (One AnyLeaf) r = (refl, refl)
atom_begins (One StartLeaf) r = (refl, refl)
atom_begins (One EndLeaf) r = (refl, refl)
atom_begins (One BoundaryLeaf) r = (refl, refl)
atom_begins (Group true e) r = (refl, refl)
atom_begins (Group false e) r = (refl, refl)

item_begins : (i : Item) (r : List Token) → (begins (spell_item i r) ≡ true) × (binds (spell_item i r) ≡ false)
item_begins (Signed Not i) r = (refl, refl)
item_begins (Signed Ahead i) r = (refl, refl)
item_begins (Signed Behind i) r = (refl, refl)
item_begins (Applied n at i) r = (refl, refl)
item_begins (Plain a) r = atom_begins a r
item_begins (Times a q) r = atom_begins a (quant_token q ∷ r)

seq_begins : (s : Seq) (r : List Token) → (begins (spell_seq s r) ≡ true) × (binds (spell_seq s r) ≡ false)
seq_begins (Single i) r = item_begins i r
seq_begins (More i s) r = item_begins i (spell_seq s r)

-- ---- sizes

abbrev mutual
  pub size_exp : Exp → ℕ
  size_exp (Last s) = suc (size_seq s)
  size_exp (Or s e) = suc (size_seq s + size_exp e)
  size_exp (And s e) = suc (size_seq s + size_exp e)

  pub size_seq : Seq → ℕ
  size_seq (Single i) = size_item i
  size_seq (More i s) = size_item i + size_seq s

  pub size_item : Item → ℕ
  size_item (Signed s i) = suc (size_item i)
  size_item (Applied n at i) = suc (size_item i)
  size_item (Plain a) = suc (size_atom a)
  size_item (Times a q) = suc (size_atom a)

  pub size_atom : Atom → ℕ
  size_atom (One l) = 0
  size_atom (Group raw e) = size_exp e

abbrev count : Seq → ℕ
count (Single i) = 1
count (More i s) = suc (count s)

mutual
  pub long_exp : (e : Exp) (r : List Token) → size_exp e + length r ≤ length (spell_exp e r) + 1
  long_exp (Last s) r = let h = long_seq s r in omega arith
  long_exp (Or s e) r = let h = long_seq s (T.Sign Slash ∷ spell_exp e r) in let k = long_exp e r in omega arith
  long_exp (And s e) r = let h = long_seq s (T.Sign Ampersand ∷ spell_exp e r) in let k = long_exp e r in omega arith

  long_seq : (s : Seq) (r : List Token) → size_seq s + length r ≤ length (spell_seq s r)
  long_seq (Single i) r = long_item i r
  long_seq (More i s) r = let h = long_item i (spell_seq s r) in let k = long_seq s r in omega arith

  long_item : (i : Item) (r : List Token) → size_item i + length r ≤ length (spell_item i r)
  long_item (Signed s i) r = let h = long_item i r in omega arith
  long_item (Applied n at i) r = let h = long_item i r in omega arith
  long_item (Plain a) r = long_atom a r
  long_item (Times a q) r = let h = long_atom a (quant_token q ∷ r) in omega arith

  long_atom : (a : Atom) (r : List Token) → suc (size_atom a) + length r ≤ length (spell_atom a r)
  long_atom (One l) r = omega arith
  long_atom (Group raw e) r = let h = long_exp e (T.Sign (closer raw) ∷ r) in omega arith

item_positive : (i : Item) → 1 ≤ size_item i
item_positive (Signed s i) = omega arith
item_positive (Applied n at i) = omega arith
item_positive (Plain a) = omega arith
item_positive (Times a q) = omega arith

count_size : (s : Seq) → count s ≤ size_seq s
count_size (Single i) = item_positive i
count_size (More i s) = let h = item_positive i in let k = count_size s in omega arith

-- ---- steps of the reading

pub leaf_again : (below : List Token → Option (Expr × List Token)) (group : Bool → List Token
    → Option (Exprs × List Token)) (l : Leaf) (r : List Token) → colon r ≡ false
    → item_of below group (leaf_token l ∷ r) ≡ Some (quantified (leaf_expr l) r)
leaf_again below group (NameLeaf n at) (T.Sign Colon ∷ r) e = absurd cc
leaf_again below group (NameLeaf n at) _ e = refl
leaf_again below group (TextLeaf s) r e = refl
leaf_again below group (ClassLeaf s negated) r e = refl
leaf_again below group (QualifiedLeaf p n at) r e = refl
leaf_again below group AnyLeaf r e = refl
leaf_again below group StartLeaf r e = refl
leaf_again below group EndLeaf r e = refl
leaf_again below group BoundaryLeaf r e = refl

items_last : (n : ℕ) (item : List Token → Option (Expr × List Token)) (s : List Token) (x : Expr) (r : List Token)
    → item s ≡ Some (x, r) → begins r ≡ false → items_of (suc n) item s ≡ Some (one x, r)
items_last n item s x r e b = rw (e, b) refl

items_more : (n : ℕ) (item : List Token → Option (Expr × List Token)) (s : List Token) (x : Expr) (r : List Token) (xs :
    Exprs) (q : List Token) → item s ≡ Some (x, r) → begins r ≡ true → items_of n item r ≡ Some (xs, q)
    → items_of (suc n) item s ≡ Some (Cons x xs, q)
items_more n item s x r xs q e b k = rw (e, b, k) refl

module _ (raw : Bool) (seq exp : List Token → Option (Exprs × List Token)) where
  parts_last : (n : ℕ) (xs : Exprs) (r : List Token) → joins r ≡ false
      → parts_of (suc n) raw seq exp xs r ≡ Some (one (joined raw xs), r)
  parts_last n xs (T.Sign Slash ∷ r) e = absurd cc
  parts_last n xs (T.Sign Ampersand ∷ r) e = absurd cc
  parts_last n xs _ e = refl

  parts_or : (n : ℕ) (xs : Exprs) (r : List Token) (ys : Exprs) (s : List Token) (ps : Exprs) (q : List Token)
      → seq r ≡ Some (ys, s) → parts_of n raw seq exp ys s ≡ Some (ps, q)
      → parts_of (suc n) raw seq exp xs (T.Sign Slash ∷ r) ≡ Some (Cons (joined raw xs) ps, q)
  parts_or n xs r ys s ps q e k = rw (e, k) refl

  parts_and : (n : ℕ) (xs : Exprs) (r : List Token) (ys : Exprs) (q : List Token) → exp r ≡ Some (ys, q)
      → parts_of (suc n) raw seq exp xs (T.Sign Ampersand ∷ r) ≡ Some (one (M.Both (joined raw xs) (joined raw ys)), q)
  parts_and n xs r ys q e = rw e refl

  content_last : (s : List Token) (xs : Exprs) (r : List Token) → seq s ≡ Some (xs, r) → joins r ≡ false
      → content_of raw seq exp s ≡ Some (xs, r)
  content_last s xs r e j = rw (e, j) refl

  content_joined : (s : List Token) (xs : Exprs) (r : List Token) (ps : Exprs) (q : List Token) → seq s ≡ Some (xs, r)
      → joins r ≡ true → parts_of (suc (length r)) raw seq exp xs r ≡ Some (ps, q)
      → content_of raw seq exp s ≡ Some (one (chosen ps), q)
  content_joined s xs r ps q e j k = rw (e, j, k) refl

-- ---- the first sequence, and what follows it

abbrev first : Exp → Seq
first (Last s) = s
first (Or s e) = s
first (And s e) = s

abbrev behind : Exp → List Token → List Token
behind (Last s) r = r
behind (Or s e) r = T.Sign Slash ∷ spell_exp e r
behind (And s e) r = T.Sign Ampersand ∷ spell_exp e r

abbrev ops : Exp → ℕ
ops (Last s) = 0
ops (Or s e) = suc (ops e)
ops (And s e) = 1

ops_long : (e : Exp) (r : List Token) → ops e ≤ length (spell_exp e r)
ops_long (Last s) r = omega arith
ops_long (Or s e) r = let h = ops_long e r in let k = long_seq s (T.Sign Slash ∷ spell_exp e r) in omega arith
ops_long (And s e) r = let k = long_seq s (T.Sign Ampersand ∷ spell_exp e r) in omega arith

mutual
  atom_again : (a : Atom) (d : ℕ) (r : List Token) → size_atom a ≤ d → colon r ≡ false
      → read_item (suc d) (spell_atom a r) ≡ Some (quantified (atom_expr a) r)
  atom_again (One l) d r le e = leaf_again (read_item d) (read_exp d) l r e
  atom_again (Group true e) d r le c =
      ap (λ o. o >>= λ x. closed true x.0 x.1) (exp_again e d true (T.Sign CloseBrace ∷ r) le (record {
        unbound = refl;
        no_item = refl;
      }) refl)
  atom_again (Group false e) d r le c =
      ap (λ o. o >>= λ x. closed false x.0 x.1) (exp_again e d false (T.Sign CloseParen ∷ r) le (record {
        unbound = refl;
        no_item = refl;
      }) refl)

  item_again : (i : Item) (d : ℕ) (r : List Token) → size_item i ≤ d → binds r ≡ false
      → read_item d (spell_item i r) ≡ Some (item_expr i, r)
  item_again (Signed Not i) (suc d) r le b = ap (λ o. o >>= signed Not) (item_again i d r (omega arith) b)
  item_again (Signed Ahead i) (suc d) r le b = ap (λ o. o >>= signed Ahead) (item_again i d r (omega arith) b)
  item_again (Signed Behind i) (suc d) r le b = ap (λ o. o >>= signed Behind) (item_again i d r (omega arith) b)
  item_again (Applied n at i) (suc d) r le b = ap (λ o. o >>= applied n at) (item_again i d r (omega arith) b)
  item_again (Plain a) (suc d) r le b = atom_again a d r (omega arith) (no_colon r b)
      ∙ ap (λ x. Some x) (quantified_not (atom_expr a) r b)
  item_again (Times a q) (suc d) r le b = atom_again a d (quant_token q ∷ r) (omega arith) (quant_no_colon q r)
      ∙ ap (λ x. Some x) (quantified_times q (atom_expr a) r)
  item_again (Signed s i) zero r le b = absurd (omega arith)
  item_again (Applied n at i) zero r le b = absurd (omega arith)
  item_again (Plain a) zero r le b = absurd (omega arith)
  item_again (Times a q) zero r le b = absurd (omega arith)

  items_again : (s : Seq) (n d : ℕ) (r : List Token) → size_seq s ≤ d → count s ≤ n → Ends r
      → items_of n (read_item d) (spell_seq s r) ≡ Some (items s, r)
  items_again (Single i) (suc n) d r le lt ends =
      items_last n (read_item d) _ _ r (item_again i d r le ends.unbound) ends.no_item
  items_again (More i s) (suc n) d r le lt ends =
      let b = seq_begins s r in
      items_more n (read_item d) _ _ (spell_seq s r) _ r (item_again i d (spell_seq s r) (omega arith) b.1) b.0
      (items_again s n d r (omega arith) (omega arith) ends)
  items_again (Single i) zero d r le lt ends = absurd (omega arith)
  items_again (More i s) zero d r le lt ends = absurd (omega arith)

  first_again : (e : Exp) (d : ℕ) (r : List Token) → size_exp e ≤ suc d → Ends r
      → seq_of (read_item d) (spell_exp e r) ≡ Some (items (first e), behind e r)
  first_again (Last s) d r le ends =
      items_again s (length (spell_seq s r)) d r (omega arith) (omega (arith, count_size s, long_seq s r)) ends
  first_again (Or s e) d r le ends =
      let q = T.Sign Slash ∷ spell_exp e r in
      items_again s (length (spell_seq s q)) d q (omega arith) (omega (arith, count_size s, long_seq s q))
      (record { unbound = refl; no_item = refl })
  first_again (And s e) d r le ends =
      let q = T.Sign Ampersand ∷ spell_exp e r in
      items_again s (length (spell_seq s q)) d q (omega arith) (omega (arith, count_size s, long_seq s q))
      (record { unbound = refl; no_item = refl })

  parts_again : (e : Exp) (n d : ℕ) (raw : Bool) (r : List Token) → size_exp e ≤ suc d → ops e ≤ n → Ends r
      → joins r ≡ false → parts_of (suc n) raw (seq_of (read_item d)) (read_exp d raw) (items (first e)) (behind e r)
      ≡ Some (parts raw e, r)
  parts_again (Last s) n d raw r le lt ends j = parts_last raw (seq_of (read_item d)) (read_exp d raw) n (items s) r j
  parts_again (Or s e) (suc n) d raw r le lt ends j =
      parts_or raw (seq_of (read_item d)) (read_exp d raw) (suc n) (items s) (spell_exp e r) _ _ _ r
      (first_again e d r (omega arith) ends) (parts_again e n d raw r (omega arith) (omega arith) ends j)
  parts_again (Or s e) zero d raw r le lt ends j = absurd (omega arith)
  parts_again (And s e) n d raw r le lt ends j =
      parts_and raw (seq_of (read_item d)) (read_exp d raw) n (items s) (spell_exp e r) _ r
      (exp_again e d raw r (omega arith) ends j)

  pub exp_again : (e : Exp) (d : ℕ) (raw : Bool) (r : List Token) → size_exp e ≤ d → Ends r → joins r ≡ false
      → read_exp d raw (spell_exp e r) ≡ Some (content raw e, r)
  exp_again (Last s) (suc d) raw r le ends j =
      content_last raw (seq_of (read_item d)) (read_exp d raw) (spell_seq s r) (items s) r
      (items_again s (length (spell_seq s r)) d r (omega arith) (omega (arith, count_size s, long_seq s r)) ends) j
  exp_again (Or s e) (suc d) raw r le ends j =
      let q = T.Sign Slash ∷ spell_exp e r in
      let h = items_again s (length (spell_seq s q)) d q (omega arith) (omega (arith, count_size s, long_seq s q))
      (record { unbound = refl; no_item = refl }) in
      content_joined raw (seq_of (read_item d)) (read_exp d raw) (spell_seq s q) (items s) q _ r h refl
      (parts_or raw (seq_of (read_item d)) (read_exp d raw) (length q) (items s) (spell_exp e r) _ _ _ r
      (first_again e d r (omega arith) ends) (parts_again e (length (spell_exp e r)) d raw r (omega arith)
      (ops_long e r) ends j))
  exp_again (And s e) (suc d) raw r le ends j =
      let q = T.Sign Ampersand ∷ spell_exp e r in
      let h = items_again s (length (spell_seq s q)) d q (omega arith) (omega (arith, count_size s, long_seq s q))
      (record { unbound = refl; no_item = refl }) in
      content_joined raw (seq_of (read_item d)) (read_exp d raw) (spell_seq s q) (items s) q _ r h refl
      (parts_and raw (seq_of (read_item d)) (read_exp d raw) (length q) (items s) (spell_exp e r) _ r
      (exp_again e d raw r (omega arith) ends j))
  exp_again (Last s) zero raw r le ends j = absurd (omega arith)
  exp_again (Or s e) zero raw r le ends j = absurd (omega arith)
  exp_again (And s e) zero raw r le ends j = absurd (omega arith)
