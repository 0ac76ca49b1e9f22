-- The printed text is read as the expression that was printed.
use Rattle.std.proofs.Common.{ℕ, zero, suc, List, [], Option, Some, None, refl, sym, ap, subst, ◌∙◌, arith}
use Rattle.std.specs.Prelude.{false, encode_utf8_all}
use Rattle.rpl_syntax.specs.Expression.{Expr, Text, Class, Any, Start, End, Boundary, Name, Cooked, Raw, Choice, Both}
use Rattle.rpl_syntax.specs.Expression.{Prefix, Repeat, Macro, Marked, Note, Exprs, Nil, Cons, joined}
use Rattle.rpl_syntax.specs.Grammar.{Item, Signed, Applied, Plain, Times, content, spell_exp, Reads}
use Rattle.rpl_syntax.specs.Printed.{printed}
use Rattle.rpl_syntax.specs.Trees.{named, body_of, quant_of, item_tree, exp_tree, seq_tree, choice_tree}
use Rattle.rpl_syntax.specs.Readable.{Good}
use Rattle.rpl_syntax.specs.Texts.{Allowed, ReadsBack, HasFewTokens, AreNames, Writable, Writable_all}
use Rattle.rpl_lexer.proofs.Spans.{drop_zero}
use Rattle.rpl_syntax.proofs.Printing.{same}
use Rattle.rpl_syntax.proofs.Written.{prints_tree}
use Rattle.rpl_syntax.proofs.Placing.{joined_same, exp_alike}
use Rattle.rpl_syntax.proofs.Cutting.{Lexes, cutting}
use Rattle.rpl_syntax.proofs.Encoded.{encoded_exp}
use Rattle.rpl_syntax.proofs.Fronts.{Loose}
use Rattle.rpl_syntax.proofs.Lexing.{Fit_leaf, Fit_quant, Fit_exp, Fit_seq, Fit_item, Fit_atom, lexes_exp}

-- ---- what can be written of a tree

quant_fit : (l : ℕ) (m : Option ℕ) → Allowed l m → Fit_quant (quant_of l m)
quant_fit zero None h = tt
quant_fit (suc zero) None h = tt
quant_fit (suc (suc l)) None h = h
quant_fit zero (Some zero) h = h
quant_fit zero (Some (suc zero)) h = tt
quant_fit zero (Some (suc (suc m))) h = h
quant_fit (suc zero) (Some m) h = h
quant_fit (suc (suc l)) (Some m) h = h

named_fit : (o : Option (List ℕ)) (n : List ℕ) → AreNames o n → Fit_leaf (named o n)
named_fit None n h = (h, refl)
named_fit (Some p) n h = (h.0, h.1, refl)

body_fit : (i : Item) → Fit_item i → Fit_atom (body_of i)
body_fit (Plain a) h = h
body_fit (Signed s i) h = h
body_fit (Applied n at i) h = h
body_fit (Times a q) h = h

record Fits (x : Expr) : Type 0 where
  item : Fit_item (item_tree x)
  whole : Fit_exp (exp_tree x)

mutual
  fits : (x : Expr) → Writable x → Fits x
  fits (Text s) w = record { item = w; whole = w }
  fits (Class ranges negated) w = record { item = w; whole = w }
  fits Any w = record { item = tt; whole = tt }
  fits Start w = record { item = tt; whole = tt }
  fits End w = record { item = tt; whole = tt }
  fits Boundary w = record { item = tt; whole = tt }
  fits (Name q) w = let f = named_fit q.prefix q.name w in record { item = f; whole = f }
  fits (Cooked ps) w = let f = items_fit ps w in record { item = f; whole = f }
  fits (Raw ps) w = let f = items_fit ps w in record { item = f; whole = f }
  fits (Choice ps) w = let f = parts_fit ps w in record { item = f; whole = f }
  fits (Both p q) w = record {
    item = ((fits p w.0).item, (fits q w.1).whole);
    whole = ((fits p w.0).item, (fits q w.1).whole);
  }
  fits (Prefix s p) w = let f = (fits p w).item in record { item = f; whole = f }
  fits (Repeat p l m) w = record {
    item = (body_fit (item_tree p) (fits p w.0).item, quant_fit l m w.1);
    whole = (body_fit (item_tree p) (fits p w.0).item, quant_fit l m w.1);
  }
  fits (Macro q p) w = record { item = (w.0, refl, (fits p w.1).item); whole = (w.0, refl, (fits p w.1).item) }
  fits (Marked m p) w = absurd w
  fits (Note s) w = absurd w

  items_fit : (ps : Exprs) → Writable_all ps → Fit_seq (seq_tree ps)
  items_fit Nil w = tt
  items_fit (Cons p Nil) w = (fits p w.0).item
  items_fit (Cons p (Cons q rest)) w = ((fits p w.0).item, items_fit (Cons q rest) w.1)

  parts_fit : (ps : Exprs) → Writable_all ps → Fit_exp (choice_tree ps)
  parts_fit Nil w = tt
  parts_fit (Cons p Nil) w = (fits p w.0).whole
  parts_fit (Cons p (Cons q rest)) w = ((fits p w.0).item, parts_fit (Cons q rest) w.1)

lexes : (x : Expr) → Good x → Writable x → Lexes (encode_utf8_all (printed x)) (spell_exp (exp_tree x) [])
lexes x g w =
    let none : Loose [] = record { word = refl; dot = refl } in
    subst (λ b. Lexes b (spell_exp (exp_tree x) [])) (sym (ap encode_utf8_all (prints_tree x g)
    ∙ encoded_exp (exp_tree x) [])) (lexes_exp (exp_tree x) [] [] (fits x w).whole none refl)

-- the printed text of an expression that can be written, if it has few enough tokens, is read as that expression with
-- the braces that printing adds
pub printed_reads_back : (x : Expr) → Good x → Writable x → HasFewTokens x → ReadsBack x
printed_reads_back x g w few =
    let s = encode_utf8_all (printed x) in
    let c = cutting (spell_exp (exp_tree x) []) s s 0 0 (drop_zero s) (omega arith) (omega (arith, few)) (lexes x g w)
    in
    let a = exp_alike (exp_tree x) [] c.tokens c.alike in
    let y = joined false (content false a.tree) in
    let reads : Reads c.tokens y = record {
      tree = a.tree;
      spelled = a.spelled ∙ ap (spell_exp a.tree) a.behind;
      stands_for = refl;
    } in (
      y,
      record { lexemes = c.lexemes; tokens = c.tokens; cut = c.chain; say = c.say; reads = reads },
      joined_same false (content false a.tree) (content false (exp_tree x)) (a.same false) ∙ (same x g false).whole,
    )
