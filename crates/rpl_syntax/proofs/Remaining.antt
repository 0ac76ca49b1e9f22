-- What is written of a list, and what is left of it.
use Rattle.std.proofs.Common.{◌≡◌, ℕ, suc, ◌+◌, ◌-◌, ◌<◌, List, [], ◌∷◌, ◌++◌, length, get_or, drop, append_assoc, sym}
use Rattle.std.proofs.Common.{ap, ◌∙◌, arith}
use Rattle.std.specs.Prelude.{Bool, true, false, nat_lt}
use Rattle.std.proofs.Math.Seq.{drop-cons}
use Rattle.std.proofs.lemmas.List.{append-nil, length-drop}
use Rattle.std.proofs.lemmas.Bool.Decides.{nat_tests}
use Rattle.rpl_syntax.specs.declared.expr.Expr.{Expr}
use Rattle.rpl_syntax.specs.View.{expr_of, exprs_all}
use Rattle.rpl_syntax.specs.Printed.{items_printed, parts_printed}
use Rattle.rpl_syntax.specs.inside.Pieces.{item_of_group, part_of_choice, item_printed}

abbrev pub is_more : List Expr → Bool
is_more [] = false
is_more (q ∷ r) = true

pub at_cons : (s : List Expr) (i : ℕ) (p : Expr) → i < length s → p ≡ get_or s i p → drop i s ≡ p ∷ drop (i + 1) s
at_cons s i p lt e = let k : suc i ≡ i + 1 = omega arith in drop-cons s i p lt
    ∙ (ap (λ x. x ∷ drop (suc i) s) (sym e) ∙ ap (λ j. p ∷ drop j s) k)

more_by : (r : List Expr) (i n : ℕ) → length r ≡ n - (i + 1) → nat_lt (i + 1) n ≡ is_more r
more_by [] i n e = grind (arith, nat_tests)
more_by (q ∷ r) i n e = grind (arith, nat_tests)

pub more_is : (s : List Expr) (i : ℕ) → nat_lt (i + 1) (length s) ≡ is_more (drop (i + 1) s)
more_is s i = more_by (drop (i + 1) s) i (length s) (length-drop (i + 1) s)

pub items_split : (p : Expr) (r : List Expr) → item_of_group (is_more r) (expr_of p) ++ items_printed (exprs_all r)
    ≡ items_printed (exprs_all (p ∷ r))
items_split p [] = append-nil (item_printed (expr_of p))
items_split p (q ∷ r) = append_assoc (item_printed (expr_of p)) (32 ∷ []) (items_printed (exprs_all (q ∷ r)))

pub parts_split : (p : Expr) (r : List Expr) → part_of_choice (is_more r) (expr_of p) ++ parts_printed (exprs_all r)
    ≡ parts_printed (exprs_all (p ∷ r))
parts_split p [] = append-nil _
parts_split p (q ∷ r) = append_assoc (item_printed (expr_of p)) (32 ∷ 47 ∷ 32 ∷ []) (parts_printed (exprs_all (q ∷ r)))

pub items_step : (s t all : List ℕ) (ps : List Expr) (i : ℕ) (p : Expr) → i < length ps → p ≡ get_or ps i p
    → t ≡ s ++ item_of_group (nat_lt (i + 1) (length ps)) (expr_of p) → s ++ items_printed (exprs_all (drop i ps)) ≡ all
    → t ++ items_printed (exprs_all (drop (i + 1) ps)) ≡ all
items_step s t all ps i p lt e f h =
    let r = drop (i + 1) ps in
    ap (λ x. x ++ items_printed (exprs_all r)) (f ∙ ap (λ b. s ++ item_of_group b (expr_of p)) (more_is ps i))
    ∙ (append_assoc s (item_of_group (is_more r) (expr_of p)) (items_printed (exprs_all r))
    ∙ (ap (λ x. s ++ x) (items_split p r) ∙ (ap (λ x. s ++ items_printed (exprs_all x)) (sym (at_cons ps i p lt e))
    ∙ h)))

pub parts_step : (s t all : List ℕ) (ps : List Expr) (i : ℕ) (p : Expr) → i < length ps → p ≡ get_or ps i p
    → t ≡ s ++ part_of_choice (nat_lt (i + 1) (length ps)) (expr_of p) → s ++ parts_printed (exprs_all (drop i ps))
    ≡ all
    → t ++ parts_printed (exprs_all (drop (i + 1) ps)) ≡ all
parts_step s t all ps i p lt e f h =
    let r = drop (i + 1) ps in
    ap (λ x. x ++ parts_printed (exprs_all r)) (f ∙ ap (λ b. s ++ part_of_choice b (expr_of p)) (more_is ps i))
    ∙ (append_assoc s (part_of_choice (is_more r) (expr_of p)) (parts_printed (exprs_all r))
    ∙ (ap (λ x. s ++ x) (parts_split p r) ∙ (ap (λ x. s ++ parts_printed (exprs_all x)) (sym (at_cons ps i p lt e))
    ∙ h)))
