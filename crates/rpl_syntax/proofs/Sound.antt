-- What is read is spelled so.
use Rattle.std.proofs.Common.{◌≡◌, ℕ, zero, suc, List, ◌∷◌, length, Option, Some, None, refl, sym, ap, subst, ◌∙◌, ◌⊎◌}
use Rattle.std.proofs.Common.{inl, inr}
use Rattle.std.specs.Prelude.{Bool, true, false, if◌then◌else◌}
use Rattle.rpl_text.specs.Options.{◌>>=◌}
use Rattle.rpl_lexer.specs.declared.punct.Punct.TheVariants.{Bang, Greater, Less, Colon, Slash, Ampersand, OpenParen}
use Rattle.rpl_lexer.specs.declared.punct.Punct.TheVariants.{CloseParen, OpenBrace, CloseBrace, Star, Plus, Question}
use Rattle.rpl_lexer.specs.declared.punct.Punct.TheVariants.{Dot, Caret, Dollar, Tilde}
use Rattle.rpl_syntax.specs.declared.token.Token.{Token}
use Rattle.rpl_syntax.specs.declared.token.Token.TheVariants as T
use Rattle.rpl_syntax.specs.declared.expr.Sign.{Sign}
use Rattle.rpl_syntax.specs.declared.expr.Sign.TheVariants.{Not, Ahead, Behind}
use Rattle.rpl_syntax.specs.Expression.{Expr, Exprs, one, wrapped, joined, chosen, Cons}
use Rattle.rpl_syntax.specs.Expression as M
use Rattle.rpl_syntax.specs.Grammar.{Leaf, TextLeaf, ClassLeaf, NameLeaf, QualifiedLeaf, AnyLeaf, StartLeaf, EndLeaf}
use Rattle.rpl_syntax.specs.Grammar.{BoundaryLeaf, StarQuant, PlusQuant, QuestionQuant, BoundsQuant, Exp, Last, Or, And}
use Rattle.rpl_syntax.specs.Grammar.{Seq, Single, More, Item, Signed, Applied, Plain, Times, Atom, One, Group}
use Rattle.rpl_syntax.specs.Grammar.{leaf_token, sign_mark, opener, closer, spell_exp, spell_seq, spell_item}
use Rattle.rpl_syntax.specs.Grammar.{spell_atom, leaf_expr, unprefixed, content, parts, items, item_expr, atom_expr}
use Rattle.rpl_syntax.specs.Reading.{begins, quantified, closed, item_of, items_of, joins, parts_of, seq_of}
use Rattle.rpl_syntax.specs.Reading.{content_of, read_item, read_exp, signed, applied}

-- the value of a step that did not fail
pub bind_some : {A B : Type 0} (o : Option A) (f : A → Option B) (y : B) → (o >>= f) ≡ Some y → (x : A) × (o ≡ Some x)
    × (f x ≡ Some y)
bind_some (Some x) f y e = (x, refl, e)
bind_some None f y e = absurd cc

-- which way a test went
which : {A : Type 0} (b : Bool) (x y z : A) → (if b then x else y) ≡ z → ((b ≡ true) × (x ≡ z))
    ⊎ ((b ≡ false) × (y ≡ z))
which true x y z e = inl (refl, e)
which false x y z e = inr (refl, e)

abbrev some : {A : Type 0} → A → Option A
some x = Some x

-- equal options have equal values
pub some_is : {A : Type 0} (x y : A) → some x ≡ some y → x ≡ y
some_is x y e = cc

pub record ItemAt (s : List Token) (x : Expr) (r : List Token) : Type 0 where
  pub tree : Item
  pub spelled : s ≡ spell_item tree r
  pub stands : x ≡ item_expr tree

pub record SeqAt (s : List Token) (xs : Exprs) (r : List Token) : Type 0 where
  pub tree : Seq
  pub spelled : s ≡ spell_seq tree r
  pub stands : xs ≡ items tree

pub record ExpAt (raw : Bool) (s : List Token) (xs : Exprs) (r : List Token) : Type 0 where
  pub tree : Exp
  pub spelled : s ≡ spell_exp tree r
  pub stands : xs ≡ content raw tree

-- what follows the sequence q
pub record PartsAt (raw : Bool) (q : Seq) (s : List Token) (ps : Exprs) (r : List Token) : Type 0 where
  pub tree : Exp
  pub spelled : spell_seq q s ≡ spell_exp tree r
  pub stands : ps ≡ parts raw tree
  pub inner : joins s ≡ true → content raw tree ≡ one (chosen (parts raw tree))

abbrev at : Expr → List Token → Expr × List Token
at x r = (x, r)

abbrev all_at : Exprs → List Token → Exprs × List Token
all_at xs r = (xs, r)

item_done : (i : Item) (s : List Token) (x : Expr) (r q : List Token) → at (item_expr i) r ≡ (x, q) → s ≡ spell_item i r
    → ItemAt s x q
item_done i s x r q e f = record {
  tree = i;
  spelled = f ∙ ap (λ (p : Expr × List Token). spell_item i p.1) e;
  stands = sym (ap (λ (p : Expr × List Token). p.0) e);
}

quantified_sound : (a : Atom) (r : List Token) (x : Expr) (q : List Token) → quantified (atom_expr a) r ≡ (x, q)
    → ItemAt (spell_atom a r) x q
quantified_sound a (T.Sign Star ∷ r) x q e = item_done (Times a StarQuant) _ x r q e refl
quantified_sound a (T.Sign Plus ∷ r) x q e = item_done (Times a PlusQuant) _ x r q e refl
quantified_sound a (T.Sign Question ∷ r) x q e = item_done (Times a QuestionQuant) _ x r q e refl
quantified_sound a (T.Bounds l m ∷ r) x q e = item_done (Times a (BoundsQuant l m)) _ x r q e refl
quantified_sound a r x q e = item_done (Plain a) _ x r q e refl

leaf_sound : (l : Leaf) (r : List Token) (x : Expr) (q : List Token) → some (quantified (leaf_expr l) r) ≡ Some (x, q)
    → ItemAt (leaf_token l ∷ r) x q
leaf_sound l r x q e = quantified_sound (One l) r x q (some_is _ _ e)

closed_sound : (b : Bool) (xs : Exprs) (s : List Token) (x : Expr) (q : List Token) → closed b xs s ≡ Some (x, q)
    → (r : List Token) × (s ≡ T.Sign (closer b) ∷ r) × (quantified (wrapped b xs) r ≡ (x, q))
closed_sound true xs (T.Sign CloseBrace ∷ r) x q e = (r, refl, some_is _ _ e)
closed_sound false xs (T.Sign CloseParen ∷ r) x q e = (r, refl, some_is _ _ e)
closed_sound true xs _ x q e = absurd cc
closed_sound false xs _ x q e = absurd cc

-- ---- from the readings of the parts

module _ (item : List Token → Option (Expr × List Token)) (h : (s : List Token) (x : Expr) (r : List Token)
    → item s ≡ Some (x, r) → ItemAt s x r) where
  items_sound : (n : ℕ) (s : List Token) (xs : Exprs) (r : List Token) → items_of n item s ≡ Some (xs, r) → SeqAt s xs r
  items_sound zero s xs r e = absurd cc
  items_sound (suc n) s xs r e =
      let b = bind_some (item s) _ _ e in
      let i = h s b.0.0 b.0.1 b.1 in
      elim (which (begins b.0.1) _ _ _ b.2) [
        | inl k ↦
            let c = bind_some (items_of n item b.0.1) _ _ k.1 in
            let t = items_sound n b.0.1 c.0.0 c.0.1 c.1 in
            let done : all_at (Cons b.0.0 c.0.0) c.0.1 ≡ (xs, r) = some_is _ _ c.2 in
            record {
              tree = More i.tree t.tree;
              spelled = i.spelled
                  ∙ ap (spell_item i.tree) (t.spelled ∙ ap (λ (p : Exprs × List Token). spell_seq t.tree p.1) done);
              stands = sym (ap (λ (p : Exprs × List Token). p.0) done)
                  ∙ (ap (λ y. Cons y c.0.0) i.stands ∙ ap (Cons (item_expr i.tree)) t.stands);
            }
        | inr k ↦
            let done : all_at (one b.0.0) b.0.1 ≡ (xs, r) = some_is _ _ k.1 in
            record {
              tree = Single i.tree;
              spelled = i.spelled
                  ∙ ap (λ (p : Exprs × List Token). spell_item i.tree p.1) done;
              stands = sym (ap (λ (p : Exprs × List Token). p.0) done) ∙ ap (λ y. one y) i.stands;
            }
      ]

module _ (raw : Bool) (seq exp : List Token → Option (Exprs × List Token)) (hs :
    (s : List Token) (xs : Exprs) (r : List Token) → seq s ≡ Some (xs, r) → SeqAt s xs r) (he :
    (s : List Token) (xs : Exprs) (r : List Token) → exp s ≡ Some (xs, r) → ExpAt raw s xs r) where
  parts_done : (q : Seq) (s : List Token) (ps : Exprs) (r : List Token) → joins s ≡ false
      → all_at (one (joined raw (items q))) s ≡ (ps, r) → PartsAt raw q s ps r
  parts_done q s ps r j e = record {
    tree = Last q;
    spelled = ap (λ (p : Exprs × List Token). spell_seq q p.1) e;
    stands = sym (ap (λ (p : Exprs × List Token). p.0) e);
    inner = λ k. absurd (cc (j, k));
  }

  parts_sound : (n : ℕ) (q : Seq) (s : List Token) (ps : Exprs) (r : List Token)
      → parts_of n raw seq exp (items q) s ≡ Some (ps, r) → PartsAt raw q s ps r
  parts_sound zero q s ps r e = absurd cc
  parts_sound (suc n) q (T.Sign Slash ∷ s) ps r e =
      let b = bind_some (seq s) _ _ e in
      let t = hs s b.0.0 b.0.1 b.1 in
      let c = bind_some (parts_of n raw seq exp b.0.0 b.0.1) _ _ b.2 in
      let u = parts_sound n t.tree b.0.1 c.0.0 c.0.1 (subst (λ xs. parts_of n raw seq exp xs b.0.1 ≡ Some c.0) t.stands
      c.1) in
      let done : all_at (Cons (joined raw (items q)) c.0.0) c.0.1 ≡ (ps, r) = some_is _ _ c.2 in
      record {
        tree = Or q u.tree;
        spelled = ap (λ z. spell_seq q (T.Sign Slash ∷ z)) (t.spelled
            ∙ (u.spelled ∙ ap (λ (p : Exprs × List Token). spell_exp u.tree p.1) done));
        stands = sym (ap (λ (p : Exprs × List Token). p.0) done) ∙ ap (Cons (joined raw (items q))) u.stands;
        inner = λ k. refl;
      }
  parts_sound (suc n) q (T.Sign Ampersand ∷ s) ps r e =
      let b = bind_some (exp s) _ _ e in
      let t = he s b.0.0 b.0.1 b.1 in
      let done : all_at (one (M.Both (joined raw (items q)) (joined raw b.0.0))) b.0.1 ≡ (ps, r) = some_is _ _ b.2 in
      record {
        tree = And q t.tree;
        spelled = ap (λ z. spell_seq q (T.Sign Ampersand ∷ z)) (t.spelled
            ∙ ap (λ (p : Exprs × List Token). spell_exp t.tree p.1) done);
        stands = sym (ap (λ (p : Exprs × List Token). p.0) done)
            ∙ ap (λ y. one (M.Both (joined raw (items q)) (joined raw y))) t.stands;
        inner = λ k. refl;
      }
  parts_sound (suc n) q s ps r e = parts_done q s ps r refl (some_is _ _ e)

  content_sound : (s : List Token) (xs : Exprs) (r : List Token) → content_of raw seq exp s ≡ Some (xs, r)
      → ExpAt raw s xs r
  content_sound s xs r e =
      let b = bind_some (seq s) _ _ e in
      let t = hs s b.0.0 b.0.1 b.1 in
      elim (which (joins b.0.1) _ _ _ b.2) [
        | inl k ↦
            let c = bind_some (parts_of (suc (length b.0.1)) raw seq exp b.0.0 b.0.1) _ _ k.1 in
            let u = parts_sound (suc (length b.0.1)) t.tree b.0.1 c.0.0 c.0.1
            (subst (λ ys. parts_of (suc (length b.0.1)) raw seq exp ys b.0.1 ≡ Some c.0) t.stands c.1) in
            let done : all_at (one (chosen c.0.0)) c.0.1 ≡ (xs, r) = some_is _ _ c.2 in
            record {
              tree = u.tree;
              spelled = t.spelled
                  ∙ (u.spelled ∙ ap (λ (p : Exprs × List Token). spell_exp u.tree p.1) done);
              stands = sym (ap (λ (p : Exprs × List Token). p.0) done)
                  ∙ (ap (λ y. one (chosen y)) u.stands ∙ sym (u.inner k.0));
            }
        | inr k ↦
            let done : b.0 ≡ (xs, r) = some_is _ _ k.1 in
            record {
              tree = Last t.tree;
              spelled = t.spelled
                  ∙ ap (λ (p : Exprs × List Token). spell_seq t.tree p.1) done;
              stands = sym (ap (λ (p : Exprs × List Token). p.0) done) ∙ t.stands;
            }
      ]

module _ (below : List Token → Option (Expr × List Token)) (group : Bool → List Token
    → Option (Exprs × List Token)) (hi : (s : List Token) (x : Expr) (r : List Token) → below s ≡ Some (x, r)
    → ItemAt s x r) (hg : (b : Bool) (s : List Token) (xs : Exprs) (r : List Token) → group b s ≡ Some (xs, r)
    → ExpAt b s xs r) where
  signed_sound : (k : Sign) (s : List Token) (x : Expr) (r : List Token) → (below s >>= signed k) ≡ Some (x, r)
      → ItemAt (T.Sign (sign_mark k) ∷ s) x r
  signed_sound k s x r e =
      let b = bind_some (below s) _ _ e in
      let t = hi s b.0.0 b.0.1 b.1 in
      let done : at (M.Prefix k b.0.0) b.0.1 ≡ (x, r) = some_is _ _ b.2 in
      record {
        tree = Signed k t.tree;
        spelled = ap (λ z. T.Sign (sign_mark k) ∷ z) (t.spelled
            ∙ ap (λ (p : Expr × List Token). spell_item t.tree p.1) done);
        stands = sym (ap (λ (p : Expr × List Token). p.0) done) ∙ ap (M.Prefix k) t.stands;
      }

  applied_sound : (n : List ℕ) (place : ℕ) (s : List Token) (x : Expr) (r : List Token)
      → (below s >>= applied n place) ≡ Some (x, r) → ItemAt (T.Name n place ∷ T.Sign Colon ∷ s) x r
  applied_sound n place s x r e =
      let b = bind_some (below s) _ _ e in
      let t = hi s b.0.0 b.0.1 b.1 in
      let done : at (M.Macro (unprefixed n place) b.0.0) b.0.1 ≡ (x, r) = some_is _ _ b.2 in
      record {
        tree = Applied n place t.tree;
        spelled = ap (λ z. T.Name n place ∷ T.Sign Colon ∷ z) (t.spelled
            ∙ ap (λ (p : Expr × List Token). spell_item t.tree p.1) done);
        stands = sym (ap (λ (p : Expr × List Token). p.0) done) ∙ ap (M.Macro (unprefixed n place)) t.stands;
      }

  group_sound : (b : Bool) (s : List Token) (x : Expr) (r : List Token)
      → (group b s >>= λ y. closed b y.0 y.1) ≡ Some (x, r) → ItemAt (T.Sign (opener b) ∷ s) x r
  group_sound b s x r e =
      let g = bind_some (group b s) _ _ e in
      let t = hg b s g.0.0 g.0.1 g.1 in
      let c = closed_sound b g.0.0 g.0.1 x r g.2 in
      let i = quantified_sound (Group b t.tree) c.0 x r (subst (λ ys. quantified (wrapped b ys) c.0 ≡ (x, r)) t.stands
      c.2) in
      record {
        tree = i.tree;
        spelled = ap (λ z. T.Sign (opener b) ∷ z) (t.spelled ∙ ap (spell_exp t.tree) c.1)
            ∙ i.spelled;
        stands = i.stands;
      }

  item_sound : (s : List Token) (x : Expr) (r : List Token) → item_of below group s ≡ Some (x, r) → ItemAt s x r
  item_sound (T.Name n place ∷ T.Sign Colon ∷ s) x r e = applied_sound n place s x r e
  item_sound (T.Text c ∷ s) x r e = leaf_sound (TextLeaf c) s x r e
  item_sound (T.Class c negated ∷ s) x r e = leaf_sound (ClassLeaf c negated) s x r e
  item_sound (T.Name n place ∷ s) x r e = leaf_sound (NameLeaf n place) s x r e
  item_sound (T.Qualified p n place ∷ s) x r e = leaf_sound (QualifiedLeaf p n place) s x r e
  item_sound (T.Sign Bang ∷ s) x r e = signed_sound Not s x r e
  item_sound (T.Sign Greater ∷ s) x r e = signed_sound Ahead s x r e
  item_sound (T.Sign Less ∷ s) x r e = signed_sound Behind s x r e
  item_sound (T.Sign Dot ∷ s) x r e = leaf_sound AnyLeaf s x r e
  item_sound (T.Sign Caret ∷ s) x r e = leaf_sound StartLeaf s x r e
  item_sound (T.Sign Dollar ∷ s) x r e = leaf_sound EndLeaf s x r e
  item_sound (T.Sign Tilde ∷ s) x r e = leaf_sound BoundaryLeaf s x r e
  item_sound (T.Sign OpenParen ∷ s) x r e = group_sound false s x r e
  item_sound (T.Sign OpenBrace ∷ s) x r e = group_sound true s x r e
  item_sound _ x r e = absurd cc

mutual
  pub read_item_sound : (d : ℕ) (s : List Token) (x : Expr) (r : List Token) → read_item d s ≡ Some (x, r)
      → ItemAt s x r
  read_item_sound zero s x r e = absurd cc
  read_item_sound (suc d) s x r e = item_sound (read_item d) (read_exp d) (read_item_sound d) (read_exp_sound d) s x r e

  pub read_exp_sound : (d : ℕ) (raw : Bool) (s : List Token) (xs : Exprs) (r : List Token)
      → read_exp d raw s ≡ Some (xs, r) → ExpAt raw s xs r
  read_exp_sound zero raw s xs r e = absurd cc
  read_exp_sound (suc d) raw s xs r e =
      content_sound raw (seq_of (read_item d)) (read_exp d raw)
      (λ t. items_sound (read_item d) (read_item_sound d) (length t) t) (read_exp_sound d raw) s xs r e
