-- The parts of a sequence or a choice, one after the other.
use Rattle.std.proofs.Common.{◌≡◌, ℕ, suc, ◌+◌, ◌<◌, List, ◌∷◌, length, drop, get_or, sym, ap, ◌∙◌, arith}
use Rattle.std.proofs.Math.Seq.{drop-cons}
use Rattle.rpl_core.specs.Core.{Choice, Seq}
use Rattle.rpl_core.specs.declared.peg.Peg.{Peg}
use Rattle.rpl_core.specs.declared.peg.Peg.TheViews as V
use Rattle.rpl_core.specs.declared.peg.Pegs.{Pegs}
use Rattle.rpl_core.specs.View.{core_of, cores, listed}
use Rattle.rpl_core.proofs.Rows.{seq_view, choice_view}

-- from a number on, a list is what stands at that number, and then the list from the next number on
pub drop_here : {A : Type 0} (xs : List A) (k : ℕ) (x : A) → k < length xs → x ≡ get_or xs k x
    → drop k xs ≡ x ∷ drop (k + 1) xs
drop_here xs k x lt is =
    let n : k + 1 ≡ suc k = omega arith in
    drop-cons xs k x lt ∙ ap (λ y. y ∷ drop (suc k) xs) (sym is) ∙ ap (λ n. x ∷ drop n xs) (sym n)

-- the core of a sequence is the sequence of the cores of its parts
pub seq_core : (p : Peg) (ps : Pegs) (row : List Peg) → p ≡ V.Seq ps → row ≡ listed ps → Seq (cores row) ≡ core_of p
seq_core p ps row is e = sym (ap core_of is ∙ seq_view ps ∙ ap (λ l. Seq (cores l)) (sym e))

-- the core of a choice is the choice of the cores of its parts
pub choice_core : (p : Peg) (ps : Pegs) (row : List Peg) → p ≡ V.Choice ps → row ≡ listed ps
    → Choice (cores row) ≡ core_of p
choice_core p ps row is e = sym (ap core_of is ∙ choice_view ps ∙ ap (λ l. Choice (cores l)) (sym e))
