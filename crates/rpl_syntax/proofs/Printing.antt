-- What is printed is read as the expression that `again` tells.
use Rattle.std.proofs.Common.{◌≡◌, ℕ, zero, suc, List, [], Option, Some, None, refl, sym, ap, ◌∙◌, subst}
use Rattle.std.specs.Prelude.{Bool, true, false}
use Rattle.rpl_syntax.specs.Expression.{Expr, Text, Class, Any, Start, End, Boundary, Name, Cooked, Raw, Choice, Both}
use Rattle.rpl_syntax.specs.Expression.{Prefix, Repeat, Macro, Marked, Note, Exprs, Nil, Cons, one, joined, chosen}
use Rattle.rpl_syntax.specs.Expression.{wrapped}
use Rattle.rpl_syntax.specs.declared.name.QName.{QName}
use Rattle.rpl_syntax.specs.declared.token.Token.{Token}
use Rattle.rpl_syntax.specs.Grammar.{TextLeaf, ClassLeaf, NameLeaf, QualifiedLeaf, AnyLeaf, StartLeaf, EndLeaf}
use Rattle.rpl_syntax.specs.Grammar.{BoundaryLeaf, StarQuant, PlusQuant, QuestionQuant, BoundsQuant, Quant, Exp, Last}
use Rattle.rpl_syntax.specs.Grammar.{Or, And, Seq, Single, More, Item, Signed, Applied, Plain, Times, Atom, One, Group}
use Rattle.rpl_syntax.specs.Grammar.{times, content, parts, items, item_expr, atom_expr, Reads, spell_exp}
use Rattle.rpl_syntax.specs.Printed.{is_joined, is_compound}
use Rattle.rpl_syntax.specs.Trees.{named, body_of, quant_of, item_tree, exp_tree, seq_tree, choice_tree}
use Rattle.rpl_syntax.specs.Braces.{grouped, again, items_again, parts_again, unplaced, plain, plain_all}
use Rattle.rpl_syntax.specs.Readable.{is_choice, Good, Good_items, Good_choice, Good_parts}

abbrev unprefixed_as : (prefix : Option (List ℕ)) (name : List ℕ) → QName
unprefixed_as o n = record { prefix = o; name = n; at = 0 }

times_of : (l : ℕ) (m : Option ℕ) (p : Expr) → times (quant_of l m) p ≡ Repeat p l m
times_of zero None p = refl
times_of (suc zero) None p = refl
times_of (suc (suc l)) None p = refl
times_of zero (Some zero) p = refl
times_of zero (Some (suc zero)) p = refl
times_of zero (Some (suc (suc m))) p = refl
times_of (suc zero) (Some m) p = refl
times_of (suc (suc l)) (Some m) p = refl

-- a name alone
named_same : (o : Option (List ℕ)) (n : List ℕ) → plain (atom_expr (One (named o n))) ≡ Name (unprefixed_as o n)
named_same None n = refl
named_same (Some p) n = refl

chosen_plain : (y : Expr) (ps rest : Exprs) (q : Expr) → plain_all ps ≡ Cons q rest
    → plain (chosen (Cons y ps)) ≡ Choice (Cons (plain y) (plain_all ps))
chosen_plain y Nil rest q e = absurd (cc e)
chosen_plain y (Cons p ps) rest q e = refl

last_parts : (p : Expr) (raw : Bool) → is_choice p ≡ false
    → parts raw (exp_tree p) ≡ one (joined raw (content raw (exp_tree p)))
last_parts (Choice ps) raw e = absurd (cc e)
last_parts (Text s) raw e = refl
last_parts (Class s negated) raw e = refl
last_parts Any raw e = refl
last_parts Start raw e = refl
last_parts End raw e = refl
last_parts Boundary raw e = refl
last_parts (Name q) raw e = refl
last_parts (Cooked ps) raw e = refl
last_parts (Raw ps) raw e = refl
last_parts (Both p q) raw e = refl
last_parts (Prefix s p) raw e = refl
last_parts (Repeat p l m) raw e = refl
last_parts (Macro q p) raw e = refl
last_parts (Marked m p) raw e = refl
last_parts (Note s) raw e = refl

-- something is the last of the parts
parts_some : (q : Expr) (rest : Exprs) → (y : Expr) × (ys : Exprs) × (plain_all (parts_again (Cons q rest)) ≡ Cons y ys)
parts_some q Nil = (plain (again q), Nil, refl)
parts_some q (Cons r rest) = (plain (grouped (is_joined q) (again q)), plain_all (parts_again (Cons r rest)), refl)

both_is : {a b x y : Expr} → a ≡ x → b ≡ y → Both a b ≡ Both x y
both_is {a} {b} {x} {y} e f = ap (λ z. Both z b) e ∙ ap (Both x) f

chosen_is : (p q : Expr) (rest ys : Exprs) (y : Expr) → plain y ≡ plain (grouped (is_joined p) (again p))
    → plain_all ys ≡ plain_all (parts_again (Cons q rest))
    → plain (chosen (Cons y ys)) ≡ Choice (plain_all (parts_again (Cons p (Cons q rest))))
chosen_is p q rest ys y e k =
    let n = parts_some q rest in
    chosen_plain y ys n.1 n.0 (k ∙ n.2)
    ∙ (ap (λ z. Choice (Cons z (plain_all ys))) e
    ∙ ap (λ zs. Choice (Cons (plain (grouped (is_joined p) (again p))) zs)) k)

-- read again as an item, as a whole and as the body of a quantifier
pub record Same (x : Expr) (raw : Bool) : Type 0 where
  pub item : plain (item_expr (item_tree x)) ≡ plain (grouped (is_joined x) (again x))
  pub whole : plain (joined raw (content raw (exp_tree x))) ≡ plain (again x)
  pub body : plain (atom_expr (body_of (item_tree x))) ≡ plain (grouped (is_compound x) (again x))

abbrev group_of : Expr → Expr
group_of y = Raw (one y)

mutual
  pub same : (x : Expr) → Good x → (raw : Bool) → Same x raw
  same (Text s) g raw = record { item = refl; whole = refl; body = refl }
  same (Class s negated) g raw = record { item = refl; whole = refl; body = refl }
  same Any g raw = record { item = refl; whole = refl; body = refl }
  same Start g raw = record { item = refl; whole = refl; body = refl }
  same End g raw = record { item = refl; whole = refl; body = refl }
  same Boundary g raw = record { item = refl; whole = refl; body = refl }
  same (Name q) g raw = let e = named_same q.prefix q.name in record { item = e; whole = e; body = e }
  same (Cooked ps) g raw = let e = ap Cooked (same_items ps g) in record { item = e; whole = e; body = e }
  same (Raw ps) g raw = let e = ap Raw (same_items ps g) in record { item = e; whole = e; body = e }
  same (Choice ps) g raw = let e = ap Raw (same_choice ps g true) in record {
    item = e;
    whole = same_joined ps g raw;
    body = e;
  }
  same (Both p q) g raw =
      let e = ap group_of (both_is (same p g.0 true).item (same q g.1 true).whole) in
      record { item = e; whole = both_is (same p g.0 raw).item (same q g.1 raw).whole; body = e }
  same (Prefix s p) g raw = let e = ap (Prefix s) (same p g raw).item in
      record { item = e; whole = e; body = ap group_of e }
  same (Repeat p l m) g raw =
      let e = ap plain (times_of l m (atom_expr (body_of (item_tree p))))
      ∙ ap (λ z. Repeat z l m) (same p g raw).body in
      record { item = e; whole = e; body = ap group_of e }
  same (Macro q p) g raw =
      let e = ap (λ o. Macro (unprefixed_as o q.name) (plain (item_expr (item_tree p)))) (sym g.0)
      ∙ ap (Macro (unplaced q)) (same p g.1 raw).item in
      record { item = e; whole = e; body = ap group_of e }
  same (Marked m p) g raw = absurd g
  same (Note s) g raw = absurd g

  same_items : (ps : Exprs) → Good_items ps → plain_all (items (seq_tree ps)) ≡ plain_all (items_again ps)
  same_items Nil g = absurd g
  same_items (Cons p Nil) g = ap one (same p g true).item
  same_items (Cons p (Cons q rest)) g =
      ap (λ y. Cons y (plain_all (items (seq_tree (Cons q rest))))) (same p g.0 true).item
      ∙ ap (Cons (plain (grouped (is_joined p) (again p)))) (same_items (Cons q rest) g.1)

  same_parts : (ps : Exprs) → Good_parts ps → (raw : Bool)
      → plain_all (parts raw (choice_tree ps)) ≡ plain_all (parts_again ps)
  same_parts Nil g raw = absurd g
  same_parts (Cons p Nil) g raw = ap plain_all (last_parts p raw g.1) ∙ ap one (same p g.0 raw).whole
  same_parts (Cons p (Cons q rest)) g raw =
      ap (λ y. Cons y (plain_all (parts raw (choice_tree (Cons q rest))))) (same p g.0 raw).item
      ∙ ap (Cons (plain (grouped (is_joined p) (again p)))) (same_parts (Cons q rest) g.1 raw)

  same_choice : (ps : Exprs) → Good_choice ps → (raw : Bool) → plain_all (content raw (choice_tree ps))
      ≡ one (Choice (plain_all (parts_again ps)))
  same_choice Nil g raw = absurd g
  same_choice (Cons p Nil) g raw = absurd g
  same_choice (Cons p (Cons q rest)) g raw =
      ap one (chosen_is p q rest (parts raw (choice_tree (Cons q rest))) (item_expr (item_tree p)) (same p g.0 raw).item
      (same_parts (Cons q rest) g.1 raw))

  same_joined : (ps : Exprs) → Good_choice ps → (raw : Bool) → plain (joined raw (content raw (choice_tree ps)))
      ≡ Choice (plain_all (parts_again ps))
  same_joined Nil g raw = absurd g
  same_joined (Cons p Nil) g raw = absurd g
  same_joined (Cons p (Cons q rest)) g raw =
      chosen_is p q rest (parts raw (choice_tree (Cons q rest))) (item_expr (item_tree p)) (same p g.0 raw).item
      (same_parts (Cons q rest) g.1 raw)

-- ---- what is read is good

good_joined : (raw : Bool) (xs : Exprs) → Good_items xs → Good (joined raw xs)
good_joined raw Nil g = absurd g
good_joined raw (Cons p Nil) g = g
good_joined true (Cons p (Cons q rest)) g = g
good_joined false (Cons p (Cons q rest)) g = g

good_wrapped : (raw : Bool) (xs : Exprs) → Good_items xs → Good (wrapped raw xs)
good_wrapped true xs g = g
good_wrapped false xs g = g

good_chosen : (y : Expr) (ps : Exprs) → Good y → Good_parts ps → Good (chosen (Cons y ps))
good_chosen y Nil g h = absurd h
good_chosen y (Cons p ps) g h = (g, h)

good_times : (q : Quant) (x : Expr) → Good x → Good (times q x)
good_times StarQuant x g = g
good_times PlusQuant x g = g
good_times QuestionQuant x g = g
good_times (BoundsQuant l m) x g = g

atom_no_choice : (a : Atom) → is_choice (atom_expr a) ≡ false
atom_no_choice (One (TextLeaf s)) = refl
atom_no_choice (One (ClassLeaf s negated)) = refl
atom_no_choice (One (QualifiedLeaf p n at)) = refl
atom_no_choice (One (NameLeaf n at)) = refl
atom_no_choice (One AnyLeaf) = refl
atom_no_choice (One StartLeaf) = refl
atom_no_choice (One EndLeaf) = refl
atom_no_choice (One BoundaryLeaf) = refl
atom_no_choice (Group true e) = refl
atom_no_choice (Group false e) = refl

times_no_choice : (q : Quant) (x : Expr) → is_choice (times q x) ≡ false
times_no_choice StarQuant x = refl
times_no_choice PlusQuant x = refl
times_no_choice QuestionQuant x = refl
times_no_choice (BoundsQuant l m) x = refl

item_no_choice : (i : Item) → is_choice (item_expr i) ≡ false
item_no_choice (Signed s i) = refl
item_no_choice (Applied n at i) = refl
item_no_choice (Plain a) = atom_no_choice a
item_no_choice (Times a q) = times_no_choice q (atom_expr a)

seq_no_choice : (raw : Bool) (s : Seq) → is_choice (joined raw (items s)) ≡ false
seq_no_choice raw (Single i) = item_no_choice i
seq_no_choice true (More i (Single j)) = refl
seq_no_choice true (More i (More j s)) = refl
seq_no_choice false (More i (Single j)) = refl
seq_no_choice false (More i (More j s)) = refl

good_more : (p : Expr) (xs : Exprs) → Good p → Good_items xs → Good_items (Cons p xs)
good_more p Nil g h = absurd h
good_more p (Cons q rest) g h = (g, h)

good_or : (p : Expr) (xs : Exprs) → Good p → Good_parts xs → Good_parts (Cons p xs)
good_or p Nil g h = absurd h
good_or p (Cons q rest) g h = (g, h)

mutual
  good_content : (raw : Bool) (e : Exp) → Good_items (content raw e)
  good_content raw (Last s) = good_items s
  good_content raw (Or s e) = good_chosen _ (parts raw e) (good_joined raw (items s) (good_items s)) (good_parts raw e)
  good_content raw (And s e) =
      (good_joined raw (items s) (good_items s), good_joined raw (content raw e) (good_content raw e))

  good_parts : (raw : Bool) (e : Exp) → Good_parts (parts raw e)
  good_parts raw (Last s) = (good_joined raw (items s) (good_items s), seq_no_choice raw s)
  good_parts raw (Or s e) =
      good_or (joined raw (items s)) (parts raw e) (good_joined raw (items s) (good_items s)) (good_parts raw e)
  good_parts raw (And s e) =
      ((good_joined raw (items s) (good_items s), good_joined raw (content raw e) (good_content raw e)), refl)

  good_items : (s : Seq) → Good_items (items s)
  good_items (Single i) = good_item i
  good_items (More i s) = good_more (item_expr i) (items s) (good_item i) (good_items s)

  good_item : (i : Item) → Good (item_expr i)
  good_item (Signed s i) = good_item i
  good_item (Applied n at i) = (refl, good_item i)
  good_item (Plain a) = good_atom a
  good_item (Times a q) = good_times q (atom_expr a) (good_atom a)

  good_atom : (a : Atom) → Good (atom_expr a)
  good_atom (One (TextLeaf s)) = tt
  good_atom (One (ClassLeaf s negated)) = tt
  good_atom (One (QualifiedLeaf p n at)) = tt
  good_atom (One (NameLeaf n at)) = tt
  good_atom (One AnyLeaf) = tt
  good_atom (One StartLeaf) = tt
  good_atom (One EndLeaf) = tt
  good_atom (One BoundaryLeaf) = tt
  good_atom (Group raw e) = good_wrapped raw (content raw e) (good_content raw e)

-- an expression that tokens are read as has a form that is read
pub reads_good : (p : List Token) (x : Expr) → Reads p x → Good x
reads_good p x h = subst Good (sym h.stands_for) (good_joined false (content false h.tree) (good_content false h.tree))

-- what some tokens spell is printed as tokens that spell it with its braces
pub reads_back : (p : List Token) (x : Expr) → Reads p x → (y : Expr) × Reads (spell_exp (exp_tree x) []) y
    × (plain y ≡ plain (again x))
reads_back p x h =
    let g = reads_good p x h in (
      joined false (content false (exp_tree x)),
      record { tree = exp_tree x; spelled = refl; stands_for = refl },
      (same x g false).whole,
    )
