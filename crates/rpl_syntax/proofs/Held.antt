-- An expression that a text is read as can be written.
use Rattle.std.proofs.Common.{ℕ, List, [], ◌∷◌, refl, sym, subst, arith}
use Rattle.std.specs.Prelude.{Bool, true, false, IsUtf8}
use Rattle.rpl_lexer.specs.declared.punct.Punct.TheVariants.{Slash, Ampersand}
use Rattle.rpl_syntax.specs.declared.token.Token.{Token}
use Rattle.rpl_syntax.specs.declared.token.Token.TheVariants as T
use Rattle.rpl_syntax.specs.Expression.{Expr, Exprs, Nil, Cons, wrapped, joined, chosen}
use Rattle.rpl_syntax.specs.Grammar.{Leaf, TextLeaf, ClassLeaf, NameLeaf, QualifiedLeaf, AnyLeaf, StartLeaf, EndLeaf}
use Rattle.rpl_syntax.specs.Grammar.{BoundaryLeaf, Quant, StarQuant, PlusQuant, QuestionQuant, BoundsQuant, Exp, Last}
use Rattle.rpl_syntax.specs.Grammar.{Or, And, Seq, Single, More, Item, Signed, Applied, Plain, Times, Atom, One, Group}
use Rattle.rpl_syntax.specs.Grammar.{leaf_token, quant_token, closer, spell_exp, spell_seq, spell_item, spell_atom}
use Rattle.rpl_syntax.specs.Grammar.{leaf_expr, times, content, parts, items, item_expr, atom_expr}
use Rattle.rpl_syntax.specs.Readable.{Good}
use Rattle.rpl_syntax.specs.Texts.{IsReadAs, Writable, Writable_all}
use Rattle.rpl_syntax.proofs.Printing.{reads_good}
use Rattle.rpl_syntax.proofs.Said.{Fit_token, All_fit, tokens_fit}

joined_held : (raw : Bool) (xs : Exprs) → Writable_all xs → Writable (joined raw xs)
joined_held true Nil h = h
joined_held false Nil h = h
joined_held raw (Cons p Nil) h = h.0
joined_held true (Cons p (Cons q rest)) h = h
joined_held false (Cons p (Cons q rest)) h = h

wrapped_held : (raw : Bool) (xs : Exprs) → Writable_all xs → Writable (wrapped raw xs)
wrapped_held true xs h = h
wrapped_held false xs h = h

chosen_held : (xs : Exprs) → Writable_all xs → Writable (chosen xs)
chosen_held Nil h = h
chosen_held (Cons p Nil) h = h.0
chosen_held (Cons p (Cons q rest)) h = h

times_held : (q : Quant) (x : Expr) → Writable x → Fit_token (quant_token q) → Writable (times q x)
times_held StarQuant x h f = (h, omega arith)
times_held PlusQuant x h f = (h, omega arith)
times_held QuestionQuant x h f = (h, (omega arith, omega arith))
times_held (BoundsQuant l m) x h f = (h, f)

leaf_held : (l : Leaf) → Fit_token (leaf_token l) → Writable (leaf_expr l)
leaf_held (TextLeaf s) f = f
leaf_held (ClassLeaf ranges negated) f = f
leaf_held (NameLeaf n at) f = f
leaf_held (QualifiedLeaf p n at) f = f
leaf_held AnyLeaf f = tt
leaf_held StartLeaf f = tt
leaf_held EndLeaf f = tt
leaf_held BoundaryLeaf f = tt

record Exp_held (e : Exp) (ts : List Token) : Type 0 where
  here : (raw : Bool) → Writable_all (content raw e)
  split : (raw : Bool) → Writable_all (parts raw e)
  behind : All_fit ts

record Seq_held (s : Seq) (ts : List Token) : Type 0 where
  here : Writable_all (items s)
  behind : All_fit ts

record Item_held (i : Item) (ts : List Token) : Type 0 where
  here : Writable (item_expr i)
  behind : All_fit ts

record Atom_held (a : Atom) (ts : List Token) : Type 0 where
  here : Writable (atom_expr a)
  behind : All_fit ts

mutual
  exp_held : (e : Exp) (ts : List Token) → All_fit (spell_exp e ts) → Exp_held e ts
  exp_held (Last s) ts h =
      let k = seq_held s ts h in
      record { here = λ raw. k.here; split = λ raw. (joined_held raw (items s) k.here, tt); behind = k.behind }
  exp_held (Or s e) ts h =
      let k = seq_held s (T.Sign Slash ∷ spell_exp e ts) h in
      let j = exp_held e ts k.behind.1 in
      record {
        here = λ raw. (
          chosen_held (Cons (joined raw (items s)) (parts raw e)) (
            joined_held raw (items s) k.here,
            j.split raw,
          ),
          tt,
        );
        split = λ raw. (joined_held raw (items s) k.here, j.split raw);
        behind = j.behind;
      }
  exp_held (And s e) ts h =
      let k = seq_held s (T.Sign Ampersand ∷ spell_exp e ts) h in
      let j = exp_held e ts k.behind.1 in
      record {
        here = λ raw. ((joined_held raw (items s) k.here, joined_held raw (content raw e) (j.here raw)), tt);
        split = λ raw. ((joined_held raw (items s) k.here, joined_held raw (content raw e) (j.here raw)), tt);
        behind = j.behind;
      }

  seq_held : (s : Seq) (ts : List Token) → All_fit (spell_seq s ts) → Seq_held s ts
  seq_held (Single i) ts h = let k = item_held i ts h in record { here = (k.here, tt); behind = k.behind }
  seq_held (More i s) ts h =
      let k = item_held i (spell_seq s ts) h in
      let j = seq_held s ts k.behind in
      record { here = (k.here, j.here); behind = j.behind }

  item_held : (i : Item) (ts : List Token) → All_fit (spell_item i ts) → Item_held i ts
  item_held (Signed s i) ts h = let k = item_held i ts h.1 in record { here = k.here; behind = k.behind }
  item_held (Applied n at i) ts h = let k = item_held i ts h.1.1 in record { here = (h.0, k.here); behind = k.behind }
  item_held (Plain a) ts h = let k = atom_held a ts h in record { here = k.here; behind = k.behind }
  item_held (Times a q) ts h = let k = atom_held a (quant_token q ∷ ts) h in
      record { here = times_held q (atom_expr a) k.here k.behind.0; behind = k.behind.1 }

  atom_held : (a : Atom) (ts : List Token) → All_fit (spell_atom a ts) → Atom_held a ts
  atom_held (One l) ts h = record { here = leaf_held l h.0; behind = h.1 }
  atom_held (Group raw e) ts h = let k = exp_held e (T.Sign (closer raw) ∷ ts) h.1 in
      record { here = wrapped_held raw (content raw e) (k.here raw); behind = k.behind.1 }

-- a tree whose tokens can be written
pub tree_held : (e : Exp) → All_fit (spell_exp e []) → Good (joined false (content false e))
    × Writable (joined false (content false e))
tree_held e f = (
  reads_good (spell_exp e []) (joined false (content false e)) (record {
    tree = e;
    spelled = refl;
    stands_for = refl;
  }),
  joined_held false (content false e) ((exp_held e [] f).here false),
)

-- an expression that a UTF-8 text is read as has a form that is read, and can be written
pub read_held : (s : List ℕ) (x : Expr) → IsUtf8 s → IsReadAs s x → Good x × Writable x
read_held s x u h =
    let f = subst All_fit h.reads.spelled (tokens_fit s 0 0 h.lexemes h.tokens u h.cut h.say) in
    subst (λ y. Good y × Writable y) (sym h.reads.stands_for) (tree_held h.reads.tree f)
