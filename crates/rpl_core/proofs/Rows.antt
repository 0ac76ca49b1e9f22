-- The parts of a sequence or a choice, as a row of the generated type and as the list of the `Vec`.
use Rattle.std.proofs.Common.{◌≡◌, List, [], ◌∷◌, ◌++◌, refl, sym, ap, ◌∙◌}
use mathlib.Core.Former.{Count}
use Rattle.rpl_core.specs.Core as C
use Rattle.rpl_core.specs.declared.peg.Pegs.{Pegs}
use Rattle.rpl_core.specs.declared.peg.Peg.{Peg, Seq', Choice', Row_of-Peg, end_of-Peg, more_of-Peg, items-the_row-Peg}
use Rattle.rpl_core.specs.declared.peg.Peg.{items_hidden-the_row-Peg-0}
use Rattle.rpl_core.specs.declared.peg.Peg.TheViews as V
use Rattle.rpl_core.specs.View.{core_of, cores, cores_of}

abbrev row_of : Peg → (n : Count) × Row_of-Peg n
row_of (Seq' _ row) = (_, row)
row_of (Choice' _ row) = (_, row)
row_of _ = (_, end_of-Peg)

cores_row : (n : _) (row : Row_of-Peg n) → cores_of row ≡ cores (items-the_row-Peg n row)
cores_row n end_of-Peg = refl
cores_row n (more_of-Peg p rest) = ap (C.Then (core_of p)) (cores_row _ rest)

-- the core of a sequence
pub seq_view : (ps : Pegs) → core_of (V.Seq ps) ≡ C.Seq (cores ps.items.items)
seq_view ps =
    let row = row_of (V.Seq ps) in
    ap C.Seq (cores_row row.0 row.1 ∙ ap cores (items_hidden-the_row-Peg-0 ps.items))

-- the core of a choice
pub choice_view : (ps : Pegs) → core_of (V.Choice ps) ≡ C.Choice (cores ps.items.items)
choice_view ps =
    let row = row_of (V.Choice ps) in
    ap C.Choice (cores_row row.0 row.1 ∙ ap cores (items_hidden-the_row-Peg-0 ps.items))

-- one core more at the end
with_last : C.Cores → C.Core → C.Cores
with_last C.NoMore p = C.Then p C.NoMore
with_last (C.Then q ps) p = C.Then q (with_last ps p)

cores_last : (xs : List Peg) (p : Peg) → cores (xs ++ p ∷ []) ≡ with_last (cores xs) (core_of p)
unfolding with_last
cores_last [] p = refl
cores_last (x ∷ xs) p = ap (C.Then (core_of x)) (cores_last xs p)

-- the same cores with one more are the same
pub cores_more : (xs ys : List Peg) (p q : Peg) → cores xs ≡ cores ys → core_of p ≡ core_of q
    → cores (xs ++ p ∷ []) ≡ cores (ys ++ q ∷ [])
cores_more xs ys p q e f =
    cores_last xs p ∙ ap (λ ps. with_last ps (core_of p)) e ∙ ap (with_last (cores ys)) f ∙ sym (cores_last ys q)
