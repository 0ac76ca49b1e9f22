-- A run from a state, seen from the run's start.
use Rattle.std.proofs.Common.{◌≡◌, ℕ, suc, ◌+◌, ◌-◌, ◌<◌, List, [], ◌∷◌, refl, sym, ap, ◌∙◌, arith}
use Rattle.std.specs.Prelude.{false}
use Rattle.rpl_core.specs.Instr.{Instr}
use Rattle.rpl_core.specs.Machine.{State, Going, Failing, Ended, step, is_over}
use Rattle.rpl_core.specs.Run.{Answer, Matched, Failed, Unfinished, one_later, run_from}
use Rattle.rpl_reference.specs.inside.States.{later}

later_more : (k : ℕ) (x : Answer) → later k (one_later x) ≡ later (k + 1) x
later_more k (Matched n i cs) = let e : k + suc n ≡ k + 1 + n = omega arith in ap (λ m. Matched m i cs) e
later_more k (Failed n) = let e : k + suc n ≡ k + 1 + n = omega arith in ap Failed e
later_more k Unfinished = refl

goes_on : (code : List Instr) (t : List ℕ) (n : ℕ) (s : State) → is_over s ≡ false
    → run_from code t (suc n) s ≡ one_later (run_from code t n (step code t s))
goes_on code t n (Going a i st cs) e = refl
goes_on code t n (Failing [] cs) e = absurd (cc)
goes_on code t n (Failing (x ∷ st) cs) e = refl
goes_on code t n (Ended i cs) e = absurd (cc)

-- one step more
pub step_later : (code : List Instr) (t : List ℕ) (b k : ℕ) (s s1 : State) (a : Answer) → is_over s ≡ false → k < b
    → s1 ≡ step code t s → a ≡ later k (run_from code t (b - k) s)
    → a ≡ later (k + 1) (run_from code t (b - (k + 1)) s1)
step_later code t b k s s1 a o lt e h =
    let n : b - k ≡ suc (b - (k + 1)) = omega arith in
    h ∙ ap (λ m. later k (run_from code t m s)) n ∙ ap (later k) (goes_on code t (b - (k + 1)) s o) ∙ later_more k _
    ∙ ap (λ x. later (k + 1) (run_from code t (b - (k + 1)) x)) (sym e)
