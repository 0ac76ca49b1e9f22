-- The parts of a sequence or a choice, one after the other.
use Rattle.std.proofs.Common.{◌≡◌, ℕ, ◌+◌, ◌<◌, List, [], ◌∷◌, length, drop, get_or, refl, ap, ◌∙◌, arith, length-drop}
use Rattle.std.proofs.lemmas.List.{drop_all, nil_from_length}
use Rattle.rpl_core.specs.Code.{code, code_first, tested_choice}
use Rattle.rpl_core.specs.Core.{Choice, NoMore}
use Rattle.rpl_core.specs.declared.peg.Peg.{Peg}
use Rattle.rpl_core.specs.declared.peg.Peg.TheViews as V
use Rattle.rpl_core.specs.declared.peg.Pegs.{Pegs}
use Rattle.rpl_core.specs.Head.{head}
use Rattle.rpl_core.specs.View.{core_of, cores, listed}
use Rattle.rpl_core.proofs.Rows.{choice_view}
use Rattle.rpl_core.proofs.Walk.{drop_here}
use Rattle.rpl_codegen.specs.inside.Sizes.{len, len_first, tried_len}

-- a part that others follow
first_more : (p : Peg) (ps : List Peg) → 0 < length ps
    → len_first (cores (p ∷ ps)) ≡ tried_len (head (core_of p)) (len (core_of p)) + len_first (cores ps)
first_more p [] lt = absurd (omega arith)
first_more p (q ∷ ps) lt = refl

pub len_first_here : (ps : List Peg) (k : ℕ) (p : Peg) → k + 1 < length ps → p ≡ get_or ps k p
    → len_first (cores (drop k ps)) ≡ tried_len (head (core_of p)) (len (core_of p)) + len_first
    (cores (drop (k + 1) ps))
len_first_here ps k p lt is =
    ap (λ l. len_first (cores l)) (drop_here ps k p (omega arith) is)
    ∙ first_more p (drop (k + 1) ps) (omega (arith, length-drop (k + 1) ps))

code_first_more : (at : ℕ → ℕ) (p : Peg) (ps : List Peg) (a : ℕ) → 0 < length ps
    → code_first at (cores (p ∷ ps)) a ≡ tested_choice (head (core_of p)) (code at (core_of p))
    (code_first at (cores ps))
    a
code_first_more at p [] a lt = absurd (omega arith)
code_first_more at p (q ∷ ps) a lt = refl

pub code_first_here : (at : ℕ → ℕ) (ps : List Peg) (k : ℕ) (p : Peg) (a : ℕ) → k + 1 < length ps → p ≡ get_or ps k p
    → code_first at (cores (drop k ps)) a ≡ tested_choice (head (core_of p)) (code at (core_of p))
    (code_first at (cores (drop (k + 1) ps))) a
code_first_here at ps k p a lt is =
    ap (λ l. code_first at (cores l) a) (drop_here ps k p (omega arith) is)
    ∙ code_first_more at p (drop (k + 1) ps) a (omega (arith, length-drop (k + 1) ps))

-- the last part
pub drop_last : (ps : List Peg) (k : ℕ) (p : Peg) → k + 1 ≡ length ps → p ≡ get_or ps k p → drop k ps ≡ p ∷ []
drop_last ps k p last is =
    drop_here ps k p (omega arith) is ∙ ap (λ l. p ∷ l) (drop_all (k + 1) ps (omega arith))

-- no part
pub no_parts : (ps : Pegs) → length (listed ps) ≡ 0 → core_of (V.Choice ps) ≡ Choice NoMore
no_parts ps none = choice_view ps ∙ ap (λ l. Choice (cores l)) (nil_from_length (listed ps) none)

-- a part of a slice that is the list
pub part_of : (row ps : List Peg) (k : ℕ) (p : Peg) → row ≡ ps → p ≡ get_or row k p → p ≡ get_or ps k p
part_of row ps k p e is = is ∙ ap (λ l. get_or l k p) e
