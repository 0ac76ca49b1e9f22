-- The table, one rule after the other.
use Rattle.std.proofs.Common.{◌≡◌, ℕ, zero, suc, ◌+◌, ◌<◌, List, [], ◌∷◌, ◌++◌, length, map, refl, sym, ap, subst, ◌∙◌}
use Rattle.std.proofs.Common.{arith, append_assoc}
use Rattle.std.proofs.lemmas.List.{map-append}
use Rattle.std.specs.Prelude.{Option, Some, None, slice_get}
use Rattle.std.proofs.lemmas.Option.{slice_get_within}
use Rattle.std.specs.Option.{option_or}
use Rattle.rpl_core.specs.Table.{AreDistinct, IsNew, names_of}
use Rattle.rpl_core.specs.declared.rules.Rule.{Rule}
use Rattle.rpl_names.specs.Roots.{Packages}
use Rattle.rpl_names.specs.Tables as P
use Rattle.rpl_expand.specs.Faults.{Fault, size_fault, table_fault}
use Rattle.rpl_expand.specs.Answers.{IsDue}
use Rattle.rpl_forms.specs.Inlining.{inner}
use Rattle.rpl_forms.specs.Rows.{Row, row_at, rows_of, inners_of}
use Rattle.rpl_expand.specs.Sets.{statement_at}
use Rattle.rpl_expand.specs.Table.{Statement, row_of, rows}
use Rattle.rpl_forms.proofs.InnerCounts.{rows_more, inners_more}
use Rattle.rpl_expand.proofs.Standing.{from, from_here}

-- the rows of a statement and those after it, once its rule is r
pub rows_turn : (rs : List Rule) (s : Statement) (ss : List Statement) (r : Rule) → row_at r ≡ row_of (inners_of rs) s
    → rows (inners_of rs) (s ∷ ss) ≡ row_at r ∷ rows (inners_of (rs ++ r ∷ [])) ss
rows_turn rs s ss r made =
    let I = inners_of rs in
    ap (λ x. x ∷ rows (I ++ inner I x.block x.body ∷ []) ss) (sym made)
    ∙ ap (λ J. row_at r ∷ rows J ss) (sym (inners_more rs r))

-- the same of the statements of a set from the n-th rule on
pub rows_from_here : (p : Packages) (rs : List Rule) (n : ℕ) (s : Statement) (r : Rule)
    → n < 2 + length (P.rows p.stock.modules) → statement_at p n ≡ Some s → row_at r ≡ row_of (inners_of rs) s
    → rows (inners_of rs) (from p n) ≡ row_at r ∷ rows (inners_of (rs ++ r ∷ [])) (from p (n + 1))
rows_from_here p rs n s r within there made =
    ap (rows (inners_of rs)) (from_here p n s within there) ∙ rows_turn rs s (from p (n + 1)) r made

pub table_turn : (rs : List Rule) (r : Rule) (old new : List Row) (whole : List Row) → old ≡ row_at r ∷ new
    → rows_of rs ++ old ≡ whole → rows_of (rs ++ r ∷ []) ++ new ≡ whole
table_turn rs r old new whole e h =
    ap (λ l. l ++ new) (rows_more rs r) ∙ append_assoc (rows_of rs) (row_at r ∷ []) new
    ∙ ap (λ l. rows_of rs ++ l) (sym e) ∙ h

pub fault_turn : (k : ℕ) (r : Row) (old new : List Row) (due : Option Fault) → old ≡ r ∷ new
    → size_fault (Some k) r.body ≡ None → table_fault k old ≡ due → table_fault (k + 1) new ≡ due
fault_turn k r old new due e none h =
    sym (ap (λ o. option_or o (table_fault (k + 1) new)) none) ∙ ap (table_fault k) (sym e) ∙ h

pub fault_found : (k : ℕ) (r : Row) (old new : List Row) (due : Option Fault) (f : Fault) → old ≡ r ∷ new
    → size_fault (Some k) r.body ≡ Some f → table_fault k old ≡ due → due ≡ Some f
fault_found k r old new due f e some h =
    sym h ∙ ap (table_fault k) e ∙ ap (λ o. option_or o (table_fault (k + 1) new)) some

-- ---- names

names_rows : (rs : List Rule) → map (λ r. r.name) (rows_of rs) ≡ names_of rs
names_rows [] = refl
names_rows (r ∷ rs) = ap (λ l. r.name ∷ l) (names_rows rs)

found_before : (xs ys : List (List ℕ)) (i : ℕ) (x : List ℕ) → slice_get xs i ≡ Some x → slice_get (xs ++ ys) i ≡ Some x
found_before [] ys i x h = absurd (cc)
found_before (y ∷ xs) ys zero x h = h
found_before (y ∷ xs) ys (suc i) x h = found_before xs ys i x h

found_behind : (xs ys : List (List ℕ)) (x : List ℕ) → slice_get (xs ++ x ∷ ys) (length xs) ≡ Some x
found_behind [] ys x = refl
found_behind (y ∷ xs) ys x = found_behind xs ys x

-- one of distinct names isn't among those before it
new_behind : (xs ys : List (List ℕ)) (x : List ℕ) → AreDistinct (xs ++ x ∷ ys) → IsNew x xs
new_behind xs ys x d i h =
    let same = d i (length xs) x (found_before xs (x ∷ ys) i x h) (found_behind xs ys x) in
    let lt = slice_get_within xs i x h in
    omega (arith, same, lt)

-- in a table of distinct names the next rule has a new one
pub next_is_new : (rs : List Rule) (r : Rule) (old new whole : List Row) → old ≡ row_at r ∷ new
    → rows_of rs ++ old ≡ whole → AreDistinct (map (λ x. x.name) whole) → IsNew r.name (names_of rs)
next_is_new rs r old new whole e is d =
    let all : map (λ (x : Row). x.name) whole ≡ names_of rs ++ r.name ∷ map (λ x. x.name) new =
    ap (map (λ x. x.name)) (sym is ∙ ap (λ l. rows_of rs ++ l) e)
    ∙ map-append (λ (x : Row). x.name) (rows_of rs) (row_at r ∷ new)
    ∙ ap (λ l. l ++ r.name ∷ map (λ x. x.name) new) (names_rows rs) in
    new_behind (names_of rs) (map (λ x. x.name) new) r.name (subst AreDistinct all d)

-- a core that is too large, after rules that are not
pub due_found : (k : ℕ) (r : Row) (old new : List Row) (due : Option Fault) (o : Option Fault) → old ≡ r ∷ new
    → IsDue (size_fault (Some k) r.body) o → table_fault k old ≡ due → IsDue due o
due_found k r old new due None e some h = tt
due_found k r old new due (Some f) e some h = fault_found k r old new due f e some h
