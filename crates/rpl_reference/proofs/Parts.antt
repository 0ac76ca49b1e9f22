-- The parts of a list from an index on.
use Rattle.std.proofs.Common.{◌≡◌, ◌≢◌, ℕ, ◌+◌, ◌<◌, List, length, drop, get_or, sym, ap, ◌∙◌, arith}
use Rattle.std.proofs.lemmas.List.{drop_more}
use Rattle.rpl_core.specs.Core.{Core, Then}
use Rattle.rpl_core.specs.View.{core_of, cores}
use Rattle.rpl_core.specs.Meaning.{Outcome, or_else, level, level_first}
use Rattle.rpl_core.specs.declared.peg.Peg.{Peg}

-- the part at the index, and the others
pub part_here : (ps : List Peg) (k : ℕ) (p : Peg) → k < length ps → p ≡ get_or ps k p
    → cores (drop k ps) ≡ Then (core_of p) (cores (drop (k + 1) ps))
part_here ps k p lt e =
    ap cores (drop_more ps k p lt) ∙ ap (λ q. Then (core_of q) (cores (drop (k + 1) ps))) (sym e)

-- a choice that has more parts after the one at the index
pub first_here : (below : Core → ℕ → Outcome) (R : List Core) (t : List ℕ) (ps : List Peg) (k : ℕ) (p : Peg) (i : ℕ)
    → k + 1 < length ps → p ≡ get_or ps k p
    → level_first below R t (cores (drop k ps)) i
    ≡ or_else (level below R t (core_of p) i) i (level_first below R t (cores (drop (k + 1) ps)))
first_here below R t ps k p i lt e =
    let q = get_or ps (k + 1) p in
    let more : cores (drop (k + 1) ps) ≡ Then (core_of q) (cores (drop (k + 1 + 1) ps)) =
    ap cores (drop_more ps (k + 1) p lt) in
    let two : cores (drop k ps) ≡ Then (core_of p) (Then (core_of q) (cores (drop (k + 1 + 1) ps))) =
    part_here ps k p (omega arith) e ∙ ap (Then (core_of p)) more in
    ap (λ x. level_first below R t x i) two
    ∙ ap (λ x. or_else (level below R t (core_of p) i) i (level_first below R t x)) (sym more)

-- the same, where the part at the index isn't the last
pub first_more : (below : Core → ℕ → Outcome) (R : List Core) (t : List ℕ) (ps : List Peg) (k : ℕ) (p : Peg) (i : ℕ)
    → k < length ps → k + 1 ≢ length ps → p ≡ get_or ps k p
    → level_first below R t (cores (drop k ps)) i
    ≡ or_else (level below R t (core_of p) i) i (level_first below R t (cores (drop (k + 1) ps)))
first_more below R t ps k p i lt more e = first_here below R t ps k p i (omega (arith, more)) e
