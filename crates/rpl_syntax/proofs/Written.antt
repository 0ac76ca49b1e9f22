-- The printed text is the writing of the tree.
use Rattle.std.proofs.Common.{◌≡◌, ℕ, zero, suc, List, [], ◌∷◌, ◌++◌, Option, Some, None, refl, sym, ap, ◌∙◌}
use Rattle.std.proofs.Common.{append_assoc}
use Rattle.std.proofs.lemmas.List.{append-nil}
use Rattle.rpl_syntax.specs.declared.expr.Sign.{Sign}
use Rattle.rpl_syntax.specs.declared.expr.Sign.TheVariants.{Not, Ahead, Behind}
use Rattle.rpl_syntax.specs.Expression.{Expr, Text, Class, Any, Start, End, Boundary, Name, Cooked, Raw, Choice, Both}
use Rattle.rpl_syntax.specs.Expression.{Prefix, Repeat, Macro, Marked, Note, Exprs, Nil, Cons}
use Rattle.rpl_syntax.specs.Grammar.{sign_mark, leaf_token, quant_token}
use Rattle.rpl_syntax.specs.Trees.{named, body_of, quant_of, item_tree, exp_tree, seq_tree, choice_tree}
use Rattle.rpl_syntax.specs.Readable.{Good, Good_items, Good_choice, Good_parts}
use Rattle.rpl_syntax.specs.Printed.{printed, items_printed, parts_printed, name_text, quant_text, sign_char}
use Rattle.rpl_syntax.specs.inside.Pieces.{item_printed, body_printed}
use Rattle.rpl_syntax.specs.Writing.{mark, token_text, write_exp, write_seq, write_item, write_atom}

abbrev name_by : Option (List ℕ) → List ℕ → List ℕ
name_by o n = elim o [ None ↦ n | Some p ↦ p ++ 46 ∷ n ]

name_written : (o : Option (List ℕ)) (n : List ℕ) → token_text (leaf_token (named o n)) ≡ name_by o n
name_written None n = refl
name_written (Some p) n = refl

sign_written : (s : Sign) → mark (sign_mark s) ≡ sign_char s
sign_written Not = refl
sign_written Ahead = refl
sign_written Behind = refl

quant_written : (l : ℕ) (m : Option ℕ) → token_text (quant_token (quant_of l m)) ≡ quant_text l m
quant_written zero None = refl
quant_written (suc zero) None = refl
quant_written (suc (suc l)) None = refl
quant_written zero (Some zero) = refl
quant_written zero (Some (suc zero)) = refl
quant_written zero (Some (suc (suc m))) = refl
quant_written (suc zero) (Some m) = refl
quant_written (suc (suc l)) (Some m) = refl

-- between two characters
between : (a b : ℕ) (t u r : List ℕ) → u ≡ t ++ b ∷ r → a ∷ u ≡ (a ∷ t ++ b ∷ []) ++ r
between a b t u r e = ap (λ x. a ∷ x) (e ∙ sym (append_assoc t (b ∷ []) r))

-- as an item, standing alone, and under a quantifier
pub record Written (x : Expr) : Type 0 where
  pub item : (r : List ℕ) → write_item (item_tree x) r ≡ item_printed x ++ r
  pub whole : (r : List ℕ) → write_exp (exp_tree x) r ≡ printed x ++ r
  pub body : (r : List ℕ) → write_atom (body_of (item_tree x)) r ≡ body_printed x ++ r

mutual
  pub written : (x : Expr) → Good x → Written x
  written (Text s) g = record { item = λ r. refl; whole = λ r. refl; body = λ r. refl }
  written (Class s negated) g = record { item = λ r. refl; whole = λ r. refl; body = λ r. refl }
  written Any g = record { item = λ r. refl; whole = λ r. refl; body = λ r. refl }
  written Start g = record { item = λ r. refl; whole = λ r. refl; body = λ r. refl }
  written End g = record { item = λ r. refl; whole = λ r. refl; body = λ r. refl }
  written Boundary g = record { item = λ r. refl; whole = λ r. refl; body = λ r. refl }
  written (Name q) g =
      let e : (r : List ℕ) → token_text (leaf_token (named q.prefix q.name)) ++ r ≡ name_text q ++ r =
      λ r. ap (λ x. x ++ r) (name_written q.prefix q.name) in
      record { item = e; whole = e; body = e }
  written (Cooked ps) g =
      let e : (r : List ℕ) → 40 ∷ write_seq (seq_tree ps) (41 ∷ r) ≡ (40 ∷ items_printed ps ++ 41 ∷ []) ++ r =
      λ r. between 40 41 (items_printed ps) _ r (items_written ps g (41 ∷ r)) in
      record { item = e; whole = e; body = e }
  written (Raw ps) g =
      let e : (r : List ℕ) → 123 ∷ write_seq (seq_tree ps) (125 ∷ r) ≡ (123 ∷ items_printed ps ++ 125 ∷ []) ++ r =
      λ r. between 123 125 (items_printed ps) _ r (items_written ps g (125 ∷ r)) in
      record { item = e; whole = e; body = e }
  written (Choice ps) g =
      let e : (r : List ℕ) → 123 ∷ write_exp (choice_tree ps) (125 ∷ r) ≡ (123 ∷ parts_printed ps ++ 125 ∷ []) ++ r =
      λ r. between 123 125 (parts_printed ps) _ r (choice_written ps g (125 ∷ r)) in
      record { item = e; whole = choice_written ps g; body = e }
  written (Both p q) g =
      let w : (r : List ℕ) → write_item (item_tree p) (32 ∷ 38 ∷ 32 ∷ write_exp (exp_tree q) r)
      ≡ (item_printed p ++ 32 ∷ 38 ∷ 32 ∷ printed q) ++ r = λ r.
      (written p g.0).item _ ∙ (ap (λ x. item_printed p ++ 32 ∷ 38 ∷ 32 ∷ x) ((written q g.1).whole r)
      ∙ sym (append_assoc (item_printed p) (32 ∷ 38 ∷ 32 ∷ printed q) r)) in
      let e : (r : List ℕ) → 123 ∷ write_item (item_tree p) (32 ∷ 38 ∷ 32 ∷ write_exp (exp_tree q) (125 ∷ r))
      ≡ (123 ∷ (item_printed p ++ 32 ∷ 38 ∷ 32 ∷ printed q) ++ 125 ∷ []) ++ r = λ r.
      between 123 125 (item_printed p ++ 32 ∷ 38 ∷ 32 ∷ printed q) _ r (w (125 ∷ r)) in
      record { item = e; whole = w; body = e }
  written (Prefix s p) g =
      let w : (r : List ℕ) → mark (sign_mark s) ∷ write_item (item_tree p) r ≡ (sign_char s ∷ item_printed p) ++ r =
      λ r.
      ap (λ c. c ∷ write_item (item_tree p) r) (sign_written s) ∙ ap (λ x. sign_char s ∷ x) ((written p g).item r) in
      record { item = w; whole = w; body = λ r. between 123 125 (sign_char s ∷ item_printed p) _ r (w (125 ∷ r)) }
  written (Repeat p l m) g =
      let w : (r : List ℕ) → write_atom (body_of (item_tree p)) (token_text (quant_token (quant_of l m)) ++ r)
      ≡ (body_printed p ++ quant_text l m) ++ r = λ r.
      (written p g).body _ ∙ (ap (λ x. body_printed p ++ (x ++ r)) (quant_written l m)
      ∙ sym (append_assoc (body_printed p) (quant_text l m) r)) in
      record { item = w; whole = w; body = λ r. between 123 125 (body_printed p ++ quant_text l m) _ r (w (125 ∷ r)) }
  written (Macro q p) g =
      let w : (r : List ℕ) → q.name ++ 58 ∷ write_item (item_tree p) r ≡ (name_text q ++ 58 ∷ item_printed p) ++ r =
      λ r.
      ap (λ o. name_by o q.name ++ 58 ∷ write_item (item_tree p) r) (sym g.0)
      ∙ (ap (λ x. name_text q ++ 58 ∷ x) ((written p g.1).item r)
      ∙ sym (append_assoc (name_text q) (58 ∷ item_printed p) r)) in
      record { item = w; whole = w; body = λ r. between 123 125 (name_text q ++ 58 ∷ item_printed p) _ r (w (125 ∷ r)) }
  written (Marked m p) g = absurd g
  written (Note s) g = absurd g

  items_written : (ps : Exprs) → Good_items ps → (r : List ℕ) → write_seq (seq_tree ps) r ≡ items_printed ps ++ r
  items_written Nil g r = absurd g
  items_written (Cons p Nil) g r = (written p g).item r
  items_written (Cons p (Cons q rest)) g r =
      (written p g.0).item _ ∙ (ap (λ x. item_printed p ++ 32 ∷ x) (items_written (Cons q rest) g.1 r)
      ∙ sym (append_assoc (item_printed p) (32 ∷ items_printed (Cons q rest)) r))

  parts_written : (ps : Exprs) → Good_parts ps → (r : List ℕ) → write_exp (choice_tree ps) r ≡ parts_printed ps ++ r
  parts_written Nil g r = absurd g
  parts_written (Cons p Nil) g r = (written p g.0).whole r
  parts_written (Cons p (Cons q rest)) g r =
      (written p g.0).item _ ∙ (ap (λ x. item_printed p ++ 32 ∷ 47 ∷ 32 ∷ x) (parts_written (Cons q rest) g.1 r)
      ∙ sym (append_assoc (item_printed p) (32 ∷ 47 ∷ 32 ∷ parts_printed (Cons q rest)) r))

  choice_written : (ps : Exprs) → Good_choice ps → (r : List ℕ) → write_exp (choice_tree ps) r ≡ parts_printed ps ++ r
  choice_written Nil g r = absurd g
  choice_written (Cons p Nil) g r = absurd g
  choice_written (Cons p (Cons q rest)) g r =
      (written p g.0).item _ ∙ (ap (λ x. item_printed p ++ 32 ∷ 47 ∷ 32 ∷ x) (parts_written (Cons q rest) g.1 r)
      ∙ sym (append_assoc (item_printed p) (32 ∷ 47 ∷ 32 ∷ parts_printed (Cons q rest)) r))

pub prints_tree : (x : Expr) → Good x → printed x ≡ write_exp (exp_tree x) []
prints_tree x g = sym ((written x g).whole [] ∙ append-nil (printed x))
