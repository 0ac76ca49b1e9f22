-- Steps of the walks over bodies.
use Rattle.std.proofs.Common.{◌≡◌, ℕ, suc, ◌+◌, ◌<◌, ◌≤◌, List, ◌∷◌, ◌++◌, length, drop, get_or, sym, ap, ◌∙◌}
use Rattle.std.proofs.Common.{append_assoc, add-one}
use Rattle.std.proofs.Math.Seq.{drop-cons}
use Rattle.std.proofs.lemmas.List.{drop_all, append-nil}
use Rattle.rpl_syntax.specs.declared.expr.Expr.{Expr}
use Rattle.rpl_syntax.specs.declared.name.QName.{QName}
use Rattle.rpl_syntax.specs.View.{expr_of, exprs_all}
use Rattle.rpl_scope.specs.Bodies.{Use, names, names_all, uses, uses_all}

front : (es : List Expr) (i : ℕ) (e : Expr) → i < length es → e ≡ get_or es i e → drop i es ≡ e ∷ drop (i + 1) es
front es i e lt h = rw add-one (drop-cons es i e lt ∙ ap (λ x. x ∷ drop (suc i) es) (sym h))

pub names_step : (done now all : List QName) (es : List Expr) (i : ℕ) (e : Expr) → i < length es → e ≡ get_or es i e
    → now ≡ done ++ names (expr_of e) → done ++ names_all (exprs_all (drop i es)) ≡ all
    → now ++ names_all (exprs_all (drop (i + 1) es)) ≡ all
names_step done now all es i e lt h n a =
    ap (λ x. x ++ names_all (exprs_all (drop (i + 1) es))) n ∙ append_assoc done (names (expr_of e)) _
    ∙ ap (λ x. done ++ names_all (exprs_all x)) (sym (front es i e lt h)) ∙ a

pub names_done : (done all : List QName) (es : List Expr) (i : ℕ) → length es ≤ i
    → done ++ names_all (exprs_all (drop i es)) ≡ all → done ≡ all
names_done done all es i le a = sym (append-nil done)
    ∙ ap (λ x. done ++ names_all (exprs_all x)) (sym (drop_all i es le)) ∙ a

pub uses_step : (done now all : List Use) (es : List Expr) (i : ℕ) (e : Expr) → i < length es → e ≡ get_or es i e
    → now ≡ done ++ uses (expr_of e) → done ++ uses_all (exprs_all (drop i es)) ≡ all
    → now ++ uses_all (exprs_all (drop (i + 1) es)) ≡ all
uses_step done now all es i e lt h n a =
    ap (λ x. x ++ uses_all (exprs_all (drop (i + 1) es))) n ∙ append_assoc done (uses (expr_of e)) _
    ∙ ap (λ x. done ++ uses_all (exprs_all x)) (sym (front es i e lt h)) ∙ a

pub uses_done : (done all : List Use) (es : List Expr) (i : ℕ) → length es ≤ i
    → done ++ uses_all (exprs_all (drop i es)) ≡ all → done ≡ all
uses_done done all es i le a = sym (append-nil done) ∙ ap (λ x. done ++ uses_all (exprs_all x)) (sym (drop_all i es le))
    ∙ a
