-- The reading is all that the tokens spell.
use Rattle.std.proofs.Common.{◌≡◌, ◌+◌, List, [], ◌∷◌, length, Some, refl, sym, ap, ◌∙◌, arith}
use Rattle.std.specs.Prelude.{false}
use Rattle.rpl_text.specs.Options.{◌>>=◌}
use Rattle.rpl_syntax.specs.declared.token.Token.{Token}
use Rattle.rpl_syntax.specs.Expression.{Expr, Exprs, joined}
use Rattle.rpl_syntax.specs.Grammar.{Exp, spell_exp, content, Reads}
use Rattle.rpl_syntax.specs.Reading.{read_exp, whole, read}
use Rattle.rpl_syntax.proofs.Again.{long_exp, exp_again}
use Rattle.rpl_syntax.proofs.Sound.{bind_some, some_is, read_exp_sound}

tree_read : (e : Exp) → read (spell_exp e []) ≡ Some (joined false (content false e))
tree_read e = ap (λ o. o >>= whole) (exp_again e (length (spell_exp e []) + 1) false [] (omega (arith, long_exp e []))
    (record { unbound = refl; no_item = refl }) refl)

-- what the tokens spell is read
pub again : (p : List Token) (x : Expr) → Reads p x → read p ≡ Some x
again p x h = ap read h.spelled ∙ (tree_read h.tree ∙ ap (λ y. Some y) (sym h.stands_for))

whole_is : (o : Exprs × List Token) (x : Expr) → whole o ≡ Some x → (o.1 ≡ []) × (joined false o.0 ≡ x)
whole_is (xs, []) x e = (refl, some_is _ _ e)
whole_is (xs, t ∷ r) x e = absurd cc

-- what is read, the tokens spell
pub sound : (p : List Token) (x : Expr) → read p ≡ Some x → Reads p x
sound p x e =
    let b = bind_some (read_exp (length p + 1) false p) whole x e in
    let t = read_exp_sound (length p + 1) false p b.0.0 b.0.1 b.1 in
    let w = whole_is b.0 x b.2 in
    record {
      tree = t.tree;
      spelled = t.spelled ∙ ap (spell_exp t.tree) w.0;
      stands_for = sym w.1
          ∙ ap (joined false) t.stands;
    }

-- no tokens spell two expressions
pub unique : (p : List Token) (x y : Expr) → Reads p x → Reads p y → x ≡ y
unique p x y h k = some_is x y (sym (again p x h) ∙ again p y k)
