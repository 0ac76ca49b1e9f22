-- The expressions of a list, as a row of the type and as the list of the `Vec`.
use Rattle.std.proofs.Common.{◌≡◌, ◌≢◌, List, [], ◌∷◌, ◌++◌, length, refl, sym, ap, ◌∙◌}
use Rattle.std.specs.Prelude.{Bool}
use mathlib.Core.Former.{Count}
use Rattle.rpl_syntax.specs.Expression as M
use Rattle.rpl_syntax.specs.declared.expr.Exprs.{Exprs}
use Rattle.rpl_syntax.specs.declared.expr.Expr.{Expr, Cooked', Raw', Choice', Row_of-Expr, end_of-Expr, more_of-Expr}
use Rattle.rpl_syntax.specs.declared.expr.Expr.{items-the_row-Expr, items_hidden-the_row-Expr-0}
use Rattle.rpl_syntax.specs.declared.expr.Expr.TheViews as V
use Rattle.rpl_syntax.specs.View.{expr_of, exprs_of, exprs_all, shown}

abbrev row_of : Expr → (n : Count) × Row_of-Expr n
row_of (Cooked' _ row) = (_, row)
row_of (Raw' _ row) = (_, row)
row_of (Choice' _ row) = (_, row)
row_of _ = (_, end_of-Expr)

exprs_row : (n : _) (row : Row_of-Expr n) → exprs_of row ≡ exprs_all (items-the_row-Expr n row)
exprs_row n end_of-Expr = refl
exprs_row n (more_of-Expr p rest) = ap (M.Cons (expr_of p)) (exprs_row _ rest)

-- a `( )` group stands for the group of the expressions in its list
pub cooked_view : (ps : Exprs) → expr_of (V.Cooked ps) ≡ M.Cooked (shown ps)
cooked_view ps =
    let row = row_of (V.Cooked ps) in
    ap M.Cooked (exprs_row row.0 row.1 ∙ ap exprs_all (items_hidden-the_row-Expr-0 ps.items))

-- a `{ }` group stands for the group of the expressions in its list
pub raw_view : (ps : Exprs) → expr_of (V.Raw ps) ≡ M.Raw (shown ps)
raw_view ps =
    let row = row_of (V.Raw ps) in
    ap M.Raw (exprs_row row.0 row.1 ∙ ap exprs_all (items_hidden-the_row-Expr-0 ps.items))

-- a choice stands for the choice of the expressions in its list
pub choice_view : (ps : Exprs) → expr_of (V.Choice ps) ≡ M.Choice (shown ps)
choice_view ps =
    let row = row_of (V.Choice ps) in
    ap M.Choice (exprs_row row.0 row.1 ∙ ap exprs_all (items_hidden-the_row-Expr-0 ps.items))

pub choice_of_more : (ps : List Expr) → length ps ≢ 1 → M.chosen (exprs_all ps) ≡ M.Choice (exprs_all ps)
choice_of_more [] h = refl
choice_of_more (p ∷ []) h = absurd (h refl)
choice_of_more (p ∷ q ∷ ps) h = refl

pub join_of_more : (raw : Bool) (ps : List Expr) → length ps ≢ 1
    → M.joined raw (exprs_all ps) ≡ M.wrapped raw (exprs_all ps)
join_of_more raw [] h = refl
join_of_more raw (p ∷ []) h = absurd (h refl)
join_of_more raw (p ∷ q ∷ ps) h = refl

-- one expression more at the end
with_last : M.Exprs → M.Expr → M.Exprs
with_last M.Nil p = M.Cons p M.Nil
with_last (M.Cons q ps) p = M.Cons q (with_last ps p)

exprs_last : (xs : List Expr) (p : Expr) → exprs_all (xs ++ p ∷ []) ≡ with_last (exprs_all xs) (expr_of p)
unfolding with_last
exprs_last [] p = refl
exprs_last (x ∷ xs) p = ap (M.Cons (expr_of x)) (exprs_last xs p)

-- the same expressions with one more are the same
pub exprs_more : (xs ys : List Expr) (p q : Expr) → exprs_all xs ≡ exprs_all ys → expr_of p ≡ expr_of q
    → exprs_all (xs ++ p ∷ []) ≡ exprs_all (ys ++ q ∷ [])
exprs_more xs ys p q e f =
    exprs_last xs p ∙ ap (λ ps. with_last ps (expr_of p)) e ∙ ap (with_last (exprs_all ys)) f ∙ sym (exprs_last ys q)
