-- What holds of the expression that some tokens spell, by what holds of each of them.
use Rattle.std.proofs.Common.{ℕ, List, [], ◌∷◌}
use Rattle.std.specs.Prelude.{Bool, false}
use Rattle.std.specs.List.{AllByRecursion}
use Rattle.rpl_lexer.specs.declared.punct.Punct.TheVariants.{Slash, Ampersand}
use Rattle.rpl_syntax.specs.Expression as M
use Rattle.rpl_syntax.specs.Expression.{Expr, Exprs, Nil, Cons, one, wrapped, joined, chosen}
use Rattle.rpl_syntax.specs.Grammar.{Leaf, Quant, Exp, Last, Or, And, Seq, Single, More, Item, Signed, Applied, Plain}
use Rattle.rpl_syntax.specs.Grammar.{Times, Atom, One, Group, leaf_token, quant_token, closer, unprefixed}
use Rattle.rpl_syntax.specs.Grammar.{spell_exp, spell_seq, spell_item, spell_atom}
use Rattle.rpl_syntax.specs.Grammar.{leaf_expr, times, content, parts, items, item_expr, atom_expr}
use Rattle.rpl_syntax.specs.declared.expr.Sign.{Sign}
use Rattle.rpl_syntax.specs.declared.token.Token.{Token}
use Rattle.rpl_syntax.specs.declared.token.Token.TheVariants as T

-- P holds of each expression that is made of tokens of which K holds and of expressions of which P holds, and Q holds
-- of lists of these
pub record IsClosed (K : Token → Type 0) (P : Expr → Type 0) (Q : Exprs → Type 0) : Type 0 where
  pub leaf : (l : Leaf) → K (leaf_token l) → P (leaf_expr l)
  pub none : Q Nil
  pub more : (p : Expr) (rest : Exprs) → P p → Q rest → Q (Cons p rest)
  pub first : (p : Expr) → Q (Cons p Nil) → P p
  pub group : (raw : Bool) (ps : Exprs) → Q ps → P (wrapped raw ps)
  pub choice : (ps : Exprs) → Q ps → P (M.Choice ps)
  pub both : (p q : Expr) → P p → P q → P (M.Both p q)
  pub prefix : (s : Sign) (p : Expr) → P p → P (M.Prefix s p)
  pub times : (q : Quant) (p : Expr) → P p → P (times q p)
  pub macro : (n : List ℕ) (at : ℕ) (p : Expr) → K (T.Name n at) → P p → P (M.Macro (unprefixed n at) p)

-- of what these tokens spell, and of the tokens after it
record Exp_has (K : Token → Type 0) (Q : Exprs → Type 0) (e : Exp) (ts : List Token) : Type 0 where
  here : (raw : Bool) → Q (content raw e)
  split : (raw : Bool) → Q (parts raw e)
  behind : AllByRecursion K ts

module _ (K : Token → Type 0) (P : Expr → Type 0) (Q : Exprs → Type 0) (c : IsClosed K P Q) where
  alone : (p : Expr) → P p → Q (one p)
  alone p h = c.more p Nil h c.none

  pub joined_has : (raw : Bool) (ps : Exprs) → Q ps → P (joined raw ps)
  joined_has raw Nil h = c.group raw Nil h
  joined_has raw (Cons p Nil) h = c.first p h
  joined_has raw (Cons p (Cons q rest)) h = c.group raw (Cons p (Cons q rest)) h

  chosen_has : (ps : Exprs) → Q ps → P (chosen ps)
  chosen_has Nil h = c.choice Nil h
  chosen_has (Cons p Nil) h = c.first p h
  chosen_has (Cons p (Cons q rest)) h = c.choice (Cons p (Cons q rest)) h

  mutual
    exp_has : (e : Exp) (ts : List Token) → AllByRecursion K (spell_exp e ts) → Exp_has K Q e ts
    exp_has (Last s) ts h =
        let k = seq_has s ts h in
        record {
          here = λ raw. k.0;
          split = λ raw. alone (joined raw (items s)) (joined_has raw (items s) k.0);
          behind = k.1;
        }
    exp_has (Or s e) ts h =
        let k = seq_has s (T.Sign Slash ∷ spell_exp e ts) h in
        let j = exp_has e ts k.1.1 in
        let all = λ (raw : Bool).
        c.more (joined raw (items s)) (parts raw e) (joined_has raw (items s) k.0) (j.split raw) in
        record {
          here = λ raw.
              let ps = Cons (joined raw (items s)) (parts raw e) in alone (chosen ps) (chosen_has ps (all raw));
          split = all;
          behind = j.behind;
        }
    exp_has (And s e) ts h =
        let k = seq_has s (T.Sign Ampersand ∷ spell_exp e ts) h in
        let j = exp_has e ts k.1.1 in
        let all = λ (raw : Bool).
        let p = joined raw (items s) in
        let q = joined raw (content raw e) in
        alone (M.Both p q)
        (c.both p q (joined_has raw (items s) k.0) (joined_has raw (content raw e) (j.here raw))) in
        record { here = all; split = all; behind = j.behind }

    seq_has : (s : Seq) (ts : List Token) → AllByRecursion K (spell_seq s ts) → Q (items s) × AllByRecursion K ts
    seq_has (Single i) ts h = let k = item_has i ts h in (alone (item_expr i) k.0, k.1)
    seq_has (More i s) ts h =
        let k = item_has i (spell_seq s ts) h in
        let j = seq_has s ts k.1 in
        (c.more (item_expr i) (items s) k.0 j.0, j.1)

    item_has : (i : Item) (ts : List Token) → AllByRecursion K (spell_item i ts)
        → P (item_expr i) × AllByRecursion K ts
    item_has (Signed s i) ts h = let k = item_has i ts h.1 in (c.prefix s (item_expr i) k.0, k.1)
    item_has (Applied n at i) ts h = let k = item_has i ts h.1.1 in (c.macro n at (item_expr i) h.0 k.0, k.1)
    item_has (Plain a) ts h = atom_has a ts h
    item_has (Times a q) ts h = let k = atom_has a (quant_token q ∷ ts) h in (c.times q (atom_expr a) k.0, k.1.1)

    atom_has : (a : Atom) (ts : List Token) → AllByRecursion K (spell_atom a ts)
        → P (atom_expr a) × AllByRecursion K ts
    atom_has (One l) ts h = (c.leaf l h.0, h.1)
    atom_has (Group raw e) ts h =
        let k = exp_has e (T.Sign (closer raw) ∷ ts) h.1 in
        (c.group raw (content raw e) (k.here raw), k.behind.1)

  pub tree_has : (e : Exp) → AllByRecursion K (spell_exp e []) → P (joined false (content false e))
  tree_has e h = joined_has false (content false e) ((exp_has e [] h).here false)
