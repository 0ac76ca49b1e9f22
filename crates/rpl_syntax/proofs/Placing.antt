-- Tokens that differ by the places of names spell trees that differ by those alone.
use Rattle.std.proofs.Common.{◌≡◌, ℕ, List, [], ◌∷◌, Some, None, refl, sym, ap, ◌∙◌}
use Rattle.std.specs.Prelude.{Bool, true, false}
use Rattle.rpl_lexer.specs.declared.punct.Punct.TheVariants.{Colon, Slash, Ampersand}
use Rattle.rpl_syntax.specs.declared.token.Token.{Token}
use Rattle.rpl_syntax.specs.declared.token.Token.TheVariants as T
use Rattle.rpl_syntax.specs.Expression.{Expr, Exprs, one, wrapped, joined, chosen, Nil, Cons}
use Rattle.rpl_syntax.specs.Expression as M
use Rattle.rpl_syntax.specs.Grammar.{Leaf, TextLeaf, ClassLeaf, NameLeaf, QualifiedLeaf, AnyLeaf, StartLeaf, EndLeaf}
use Rattle.rpl_syntax.specs.Grammar.{BoundaryLeaf, Quant, StarQuant, PlusQuant, QuestionQuant, BoundsQuant, Exp, Last}
use Rattle.rpl_syntax.specs.Grammar.{Or, And, Seq, Single, More, Item, Signed, Applied, Plain, Times, Atom, One, Group}
use Rattle.rpl_syntax.specs.Grammar.{leaf_token, quant_token, sign_mark, opener, closer, spell_exp, spell_seq}
use Rattle.rpl_syntax.specs.Grammar.{spell_item, spell_atom, leaf_expr, times, content, parts, items, item_expr}
use Rattle.rpl_syntax.specs.Grammar.{atom_expr}
use Rattle.rpl_syntax.specs.Braces.{plain, plain_all}

-- u is the token t, but for the place of a name
abbrev pub Alike : Token → Token → Type 0
Alike (T.Name n at) u = (k : ℕ) × (u ≡ T.Name n k)
Alike (T.Qualified p n at) u = (k : ℕ) × (u ≡ T.Qualified p n k)
Alike t u = u ≡ t

abbrev pub All_alike : List Token → List Token → Type 0
All_alike [] us = us ≡ []
All_alike (t ∷ ts) us = (u : Token) × (rest : List Token) × (us ≡ u ∷ rest) × Alike t u × All_alike ts rest

front : (us rest : List Token) (u t : Token) → us ≡ u ∷ rest → u ≡ t → us ≡ t ∷ rest
front us rest u t e f = e ∙ ap (λ x. x ∷ rest) f

-- ---- the same of parts that are the same

joined_plain : (raw : Bool) (xs : Exprs) → plain (joined raw xs) ≡ joined raw (plain_all xs)
joined_plain true Nil = refl
joined_plain true (Cons p Nil) = refl
joined_plain true (Cons p (Cons q rest)) = refl
joined_plain false Nil = refl
joined_plain false (Cons p Nil) = refl
joined_plain false (Cons p (Cons q rest)) = refl

pub joined_same : (raw : Bool) (xs ys : Exprs) → plain_all xs ≡ plain_all ys
    → plain (joined raw xs) ≡ plain (joined raw ys)
joined_same raw xs ys e = joined_plain raw xs ∙ (ap (joined raw) e ∙ sym (joined_plain raw ys))

chosen_plain : (xs : Exprs) → plain (chosen xs) ≡ chosen (plain_all xs)
chosen_plain Nil = refl
chosen_plain (Cons p Nil) = refl
chosen_plain (Cons p (Cons q rest)) = refl

chosen_same : (xs ys : Exprs) → plain_all xs ≡ plain_all ys → plain (chosen xs) ≡ plain (chosen ys)
chosen_same xs ys e = chosen_plain xs ∙ (ap chosen e ∙ sym (chosen_plain ys))

wrapped_same : (raw : Bool) (xs ys : Exprs) → plain_all xs ≡ plain_all ys
    → plain (wrapped raw xs) ≡ plain (wrapped raw ys)
wrapped_same true xs ys e = ap M.Raw e
wrapped_same false xs ys e = ap M.Cooked e

cons_same : (p q : Expr) (xs ys : Exprs) → plain p ≡ plain q → plain_all xs ≡ plain_all ys
    → plain_all (Cons p xs) ≡ plain_all (Cons q ys)
cons_same p q xs ys e f = ap (λ z. Cons z (plain_all xs)) e ∙ ap (Cons (plain q)) f

both_same : (p q r s : Expr) → plain p ≡ plain q → plain r ≡ plain s
    → plain_all (one (M.Both p r)) ≡ plain_all (one (M.Both q s))
both_same p q r s e f = ap (λ z. one (M.Both z (plain r))) e ∙ ap (λ z. one (M.Both (plain q) z)) f

times_same : (q : Quant) (x y : Expr) → plain x ≡ plain y → plain (times q x) ≡ plain (times q y)
times_same StarQuant x y e = ap (λ z. M.Repeat z 0 None) e
times_same PlusQuant x y e = ap (λ z. M.Repeat z 1 None) e
times_same QuestionQuant x y e = ap (λ z. M.Repeat z 0 (Some 1)) e
times_same (BoundsQuant l m) x y e = ap (λ z. M.Repeat z l m) e

-- ---- trees of tokens that are alike

pub record Leafed (l : Leaf) (u : Token) : Type 0 where
  pub leaf : Leaf
  pub is : u ≡ leaf_token leaf
  pub same : plain (leaf_expr leaf) ≡ plain (leaf_expr l)

leaf_alike : (l : Leaf) (u : Token) → Alike (leaf_token l) u → Leafed l u
leaf_alike (TextLeaf s) u h = record { leaf = TextLeaf s; is = h; same = refl }
leaf_alike (ClassLeaf s negated) u h = record { leaf = ClassLeaf s negated; is = h; same = refl }
leaf_alike AnyLeaf u h = record { leaf = AnyLeaf; is = h; same = refl }
leaf_alike StartLeaf u h = record { leaf = StartLeaf; is = h; same = refl }
leaf_alike EndLeaf u h = record { leaf = EndLeaf; is = h; same = refl }
leaf_alike BoundaryLeaf u h = record { leaf = BoundaryLeaf; is = h; same = refl }
leaf_alike (NameLeaf n at) u h = record { leaf = NameLeaf n h.0; is = h.1; same = refl }
leaf_alike (QualifiedLeaf p n at) u h = record { leaf = QualifiedLeaf p n h.0; is = h.1; same = refl }

quant_alike : (q : Quant) (u : Token) → Alike (quant_token q) u → u ≡ quant_token q
quant_alike StarQuant u h = h
quant_alike PlusQuant u h = h
quant_alike QuestionQuant u h = h
quant_alike (BoundsQuant l m) u h = h

pub record Exp_alike (e : Exp) (ts us : List Token) : Type 0 where
  pub tree : Exp
  pub rest : List Token
  pub spelled : us ≡ spell_exp tree rest
  pub behind : All_alike ts rest
  pub same : (raw : Bool) → plain_all (content raw tree) ≡ plain_all (content raw e)
  pub same_parts : (raw : Bool) → plain_all (parts raw tree) ≡ plain_all (parts raw e)

pub record Seq_alike (s : Seq) (ts us : List Token) : Type 0 where
  pub tree : Seq
  pub rest : List Token
  pub spelled : us ≡ spell_seq tree rest
  pub behind : All_alike ts rest
  pub same : plain_all (items tree) ≡ plain_all (items s)

pub record Item_alike (i : Item) (ts us : List Token) : Type 0 where
  pub tree : Item
  pub rest : List Token
  pub spelled : us ≡ spell_item tree rest
  pub behind : All_alike ts rest
  pub same : plain (item_expr tree) ≡ plain (item_expr i)

pub record Atom_alike (a : Atom) (ts us : List Token) : Type 0 where
  pub tree : Atom
  pub rest : List Token
  pub spelled : us ≡ spell_atom tree rest
  pub behind : All_alike ts rest
  pub same : plain (atom_expr tree) ≡ plain (atom_expr a)

mutual
  pub exp_alike : (e : Exp) (ts us : List Token) → All_alike (spell_exp e ts) us → Exp_alike e ts us
  exp_alike (Last s) ts us h =
      let k = seq_alike s ts us h in
      record {
        tree = Last k.tree;
        rest = k.rest;
        spelled = k.spelled;
        behind = k.behind;
        same = λ raw. k.same;
        same_parts = λ raw. ap one (joined_same raw (items k.tree) (items s) k.same);
      }
  exp_alike (Or s e) ts us h =
      let k = seq_alike s (T.Sign Slash ∷ spell_exp e ts) us h in
      let b = k.behind in
      let j = exp_alike e ts b.1 b.4 in
      let c = λ (raw : Bool). cons_same (joined raw (items k.tree)) (joined raw (items s)) (parts raw j.tree)
      (parts raw e) (joined_same raw (items k.tree) (items s) k.same) (j.same_parts raw) in
      record {
        tree = Or k.tree j.tree;
        rest = j.rest;
        spelled = k.spelled ∙ ap (spell_seq k.tree) (front k.rest b.1 b.0 (T.Sign Slash) b.2 b.3
            ∙ ap (λ x. T.Sign Slash ∷ x) j.spelled);
        behind = j.behind;
        same = λ raw. ap one (chosen_same (Cons (joined raw (items k.tree)) (parts raw j.tree))
            (Cons (joined raw (items s)) (parts raw e)) (c raw));
        same_parts = c;
      }
  exp_alike (And s e) ts us h =
      let k = seq_alike s (T.Sign Ampersand ∷ spell_exp e ts) us h in
      let b = k.behind in
      let j = exp_alike e ts b.1 b.4 in
      let c = λ (raw : Bool). both_same (joined raw (items k.tree)) (joined raw (items s))
      (joined raw (content raw j.tree)) (joined raw (content raw e)) (joined_same raw (items k.tree) (items s) k.same)
      (joined_same raw (content raw j.tree) (content raw e) (j.same raw)) in
      record {
        tree = And k.tree j.tree;
        rest = j.rest;
        spelled = k.spelled ∙ ap (spell_seq k.tree) (front k.rest b.1 b.0 (T.Sign Ampersand) b.2 b.3
            ∙ ap (λ x. T.Sign Ampersand ∷ x) j.spelled);
        behind = j.behind;
        same = c;
        same_parts = c;
      }

  seq_alike : (s : Seq) (ts us : List Token) → All_alike (spell_seq s ts) us → Seq_alike s ts us
  seq_alike (Single i) ts us h =
      let k = item_alike i ts us h in
      record { tree = Single k.tree; rest = k.rest; spelled = k.spelled; behind = k.behind; same = ap one k.same }
  seq_alike (More i s) ts us h =
      let k = item_alike i (spell_seq s ts) us h in
      let j = seq_alike s ts k.rest k.behind in
      record {
        tree = More k.tree j.tree;
        rest = j.rest;
        spelled = k.spelled ∙ ap (spell_item k.tree) j.spelled;
        behind = j.behind;
        same = cons_same (item_expr k.tree) (item_expr i) (items j.tree) (items s) k.same j.same;
      }

  item_alike : (i : Item) (ts us : List Token) → All_alike (spell_item i ts) us → Item_alike i ts us
  item_alike (Signed s i) ts us h =
      let k = item_alike i ts h.1 h.4 in
      record {
        tree = Signed s k.tree;
        rest = k.rest;
        spelled = front us h.1 h.0 (T.Sign (sign_mark s)) h.2 h.3 ∙ ap (λ x. T.Sign (sign_mark s) ∷ x) k.spelled;
        behind = k.behind;
        same = ap (M.Prefix s) k.same;
      }
  item_alike (Applied n at i) ts us h =
      let b = h.4 in
      let k = item_alike i ts b.1 b.4 in
      record {
        tree = Applied n h.3.0 k.tree;
        rest = k.rest;
        spelled = front us h.1 h.0 (T.Name n h.3.0) h.2 h.3.1
            ∙ ap (λ x. T.Name n h.3.0 ∷ x) (front h.1 b.1 b.0 (T.Sign Colon) b.2 b.3
            ∙ ap (λ x. T.Sign Colon ∷ x) k.spelled);
        behind = k.behind;
        same = ap (M.Macro (record { prefix = None; name = n; at = 0 })) k.same;
      }
  item_alike (Plain a) ts us h =
      let k = atom_alike a ts us h in
      record { tree = Plain k.tree; rest = k.rest; spelled = k.spelled; behind = k.behind; same = k.same }
  item_alike (Times a q) ts us h =
      let k = atom_alike a (quant_token q ∷ ts) us h in
      let b = k.behind in
      record {
        tree = Times k.tree q;
        rest = b.1;
        spelled = k.spelled ∙ ap (spell_atom k.tree) (front k.rest b.1 b.0 (quant_token q) b.2 (quant_alike q b.0 b.3));
        behind = b.4;
        same = times_same q (atom_expr k.tree) (atom_expr a) k.same;
      }

  atom_alike : (a : Atom) (ts us : List Token) → All_alike (spell_atom a ts) us → Atom_alike a ts us
  atom_alike (One l) ts us h =
      let k = leaf_alike l h.0 h.3 in
      record {
        tree = One k.leaf;
        rest = h.1;
        spelled = front us h.1 h.0 (leaf_token k.leaf) h.2 k.is;
        behind = h.4;
        same = k.same;
      }
  atom_alike (Group raw e) ts us h =
      let k = exp_alike e (T.Sign (closer raw) ∷ ts) h.1 h.4 in
      let b = k.behind in
      record {
        tree = Group raw k.tree;
        rest = b.1;
        spelled = front us h.1 h.0 (T.Sign (opener raw)) h.2 h.3
            ∙ ap (λ x. T.Sign (opener raw) ∷ x) (k.spelled
            ∙ ap (spell_exp k.tree) (front k.rest b.1 b.0 (T.Sign (closer raw)) b.2 b.3));
        behind = b.4;
        same = wrapped_same raw (content raw k.tree) (content raw e) (k.same raw);
      }
