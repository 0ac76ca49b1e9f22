-- The meaning at a depth is one level over that below.
use Rattle.std.proofs.Common.{◌≡◌, ℕ, zero, suc, ◌+◌, ◌-◌, ◌<◌, ◌≤◌, List, refl, ap, ◌∙◌, arith}
use Rattle.std.specs.Prelude.{true, false, nat_le, if◌then◌else◌}
use Rattle.std.proofs.lemmas.Bool.Decides.{nat_tests}
use Rattle.rpl_core.specs.Core.{Core}
use Rattle.rpl_core.specs.Meaning.{Outcome, peg, lengths, ends_here, more}
use Rattle.rpl_reference.specs.inside.Below.{below, core_at}

pub peg_is : (n : ℕ) (R : List Core) (t : List ℕ) (e : Core) (i : ℕ) → peg n R t e i ≡ core_at n R t e i
peg_is zero R t e i = refl
peg_is (suc n) R t e i = refl

-- what stands below a depth is the meaning one level down
pub below_is : (n : ℕ) (R : List Core) (t : List ℕ) (e : Core) (i : ℕ) → 0 < n
    → below n R t e i ≡ core_at (n - 1) R t e i
below_is zero R t e i lt = absurd (omega arith)
below_is (suc n) R t e i lt =
    let down : n ≡ suc n - 1 = omega arith in
    peg_is n R t e i ∙ ap (λ k. core_at k R t e i) down

-- a length for which there are characters enough, and the others
pub length_here : (n k : ℕ) (body : ℕ → Outcome) (i : ℕ) → 0 < n → k ≤ i
    → lengths n k body i ≡ ends_here (body (i - k)) i (lengths (n - 1) (k + 1) body i)
length_here zero k body i lt le = absurd (omega arith)
length_here (suc n) k body i lt le =
    let down : n ≡ suc n - 1 = omega arith in
    let so : nat_le k i ≡ true = grind (arith, nat_tests) in
    ap (λ b. if b then ends_here (body (i - k)) i (lengths n (k + 1) body i) else more 1 (lengths n (k + 1) body i)) so
    ∙ ap (λ m. ends_here (body (i - k)) i (lengths m (k + 1) body i)) down

-- a length for which there are too few, and the others
pub length_past : (n k : ℕ) (body : ℕ → Outcome) (i : ℕ) → 0 < n → i < k
    → lengths n k body i ≡ more 1 (lengths (n - 1) (k + 1) body i)
length_past zero k body i lt past = absurd (omega arith)
length_past (suc n) k body i lt past =
    let down : n ≡ suc n - 1 = omega arith in
    let no : nat_le k i ≡ false = grind (arith, nat_tests) in
    ap (λ b. if b then ends_here (body (i - k)) i (lengths n (k + 1) body i) else more 1 (lengths n (k + 1) body i)) no
    ∙ ap (λ m. more 1 (lengths m (k + 1) body i)) down
