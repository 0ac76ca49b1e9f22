-- What is made of capped outcomes is, capped, what is made of the outcomes.
use Rattle.std.proofs.Common.{◌≡◌, ℕ, ◌+◌, ◌-◌, ◌^◌, refl, ap, ◌∙◌, min, arith}
use Rattle.std.specs.Prelude.{true, false, nat_eq, if◌then◌else◌}
use Rattle.rpl_core.specs.Forest.{Forest, NoTree, joined}
use Rattle.rpl_core.specs.Meaning.{Outcome, Open, Fail, At, HaltAt, more, prefixed, or_else, turns, ends_here}
use Rattle.rpl_reference.specs.Outcomes.{capped}

-- the greatest work
abbrev top : ℕ
top = 2 ^ 64 - 1

-- works v and w that cap to the same, and the same capped outcome
pub capped_more : (v w : ℕ) (o : Outcome) → min v top ≡ min w top → capped (more v (capped o)) ≡ capped (more w o)
capped_more v w Open e = refl
capped_more v w (Fail x) e = let q : min (v + min x top) top ≡ min (w + x) top = omega arith in ap Fail q
capped_more v w (At x j f) e = let q : min (v + min x top) top ≡ min (w + x) top = omega arith in ap (λ y. At y j f) q
capped_more v w (HaltAt x j f) e =
    let q : min (v + min x top) top ≡ min (w + x) top = omega arith in ap (λ y. HaltAt y j f) q

pub capped_prefixed : (v w : ℕ) (g : Forest) (o : Outcome) → min v top ≡ min w top
    → capped (prefixed v g (capped o)) ≡ capped (prefixed w g o)
capped_prefixed v w g Open e = refl
capped_prefixed v w g (Fail x) e = let q : min (v + min x top) top ≡ min (w + x) top = omega arith in ap Fail q
capped_prefixed v w g (At x j f) e =
    let q : min (v + min x top) top ≡ min (w + x) top = omega arith in ap (λ y. At y j (joined g f)) q
capped_prefixed v w g (HaltAt x j f) e =
    let q : min (v + min x top) top ≡ min (w + x) top = omega arith in ap (λ y. HaltAt y j (joined g f)) q

-- a first part that fails, and the rest
pub first_fails : (m : Outcome) (i : ℕ) (rest : ℕ → Outcome) (work : ℕ) → Fail work ≡ capped m
    → capped (more (min (1 + work) top) (capped (rest i))) ≡ capped (or_else m i rest)
first_fails Open i rest work e = absurd (cc)
first_fails (Fail w) i rest work e =
    let same : work ≡ min w top = cc in
    capped_more (min (1 + work) top) (1 + w) (rest i) (omega arith)
first_fails (At w k g) i rest work e = absurd (cc)
first_fails (HaltAt w k g) i rest work e = absurd (cc)

-- a first part that succeeds
pub first_matches : (m : Outcome) (i : ℕ) (rest : ℕ → Outcome) (work j : ℕ) (f : Forest) → At work j f ≡ capped m
    → At (min (1 + work) top) j f ≡ capped (or_else m i rest)
first_matches Open i rest work j f e = absurd (cc)
first_matches (Fail w) i rest work j f e = absurd (cc)
first_matches (At w k g) i rest work j f e =
    let same : work ≡ min w top = cc in
    let place : j ≡ k = cc in
    let trees : f ≡ g = cc in
    let q : min (1 + work) top ≡ min (1 + w) top = omega arith in
    cc
first_matches (HaltAt w k g) i rest work j f e = absurd (cc)

-- a first part that halts
pub first_halts : (m : Outcome) (i : ℕ) (rest : ℕ → Outcome) (work j : ℕ) (f : Forest) → HaltAt work j f ≡ capped m
    → HaltAt (min (1 + work) top) j f ≡ capped (or_else m i rest)
first_halts Open i rest work j f e = absurd (cc)
first_halts (Fail w) i rest work j f e = absurd (cc)
first_halts (At w k g) i rest work j f e = absurd (cc)
first_halts (HaltAt w k g) i rest work j f e =
    let same : work ≡ min w top = cc in
    let place : j ≡ k = cc in
    let trees : f ≡ g = cc in
    let q : min (1 + work) top ≡ min (1 + w) top = omega arith in
    cc

-- a turn that succeeds, and the other turns
pub turn_matches : (m : Outcome) (i : ℕ) (again : ℕ → Outcome) (work j : ℕ) (f : Forest) → At work j f ≡ capped m
    → capped (prefixed (min (1 + work) top) f (capped (again j))) ≡ capped (turns m i again)
turn_matches Open i again work j f e = absurd (cc)
turn_matches (Fail w) i again work j f e = absurd (cc)
turn_matches (At w k g) i again work j f e =
    let same : work ≡ min w top = cc in
    let place : j ≡ k = cc in
    let trees : f ≡ g = cc in
    ap (λ x. capped (prefixed (min (1 + work) top) f (capped (again x)))) place
    ∙ ap (λ x. capped (prefixed (min (1 + work) top) x (capped (again k)))) trees
    ∙ capped_prefixed (min (1 + work) top) (1 + w) g (again k) (omega arith)
turn_matches (HaltAt w k g) i again work j f e = absurd (cc)

-- one length, and the others
pub one_length : (m o : Outcome) (i : ℕ) → capped (ends_here (capped m) i (capped o)) ≡ capped (ends_here m i o)
one_length Open o i = refl
one_length (Fail w) o i = capped_more (1 + min w top) (1 + w) o (omega arith)
one_length (HaltAt w j f) o i = capped_more (1 + min w top) (1 + w) o (omega arith)
one_length (At w j f) o i =
    elim (nat_eq j i) as (λ b. capped (if b then At (1 + min w top) i NoTree else more (1 + min w top) (capped o))
    ≡ capped (if b then At (1 + w) i NoTree else more (1 + w) o)) [
      | true ↦ let q : min (1 + min w top) top ≡ min (1 + w) top = omega arith in
          ap (λ y. At y i NoTree) q
      | false ↦ capped_more (1 + min w top) (1 + w) o (omega arith)
    ]
