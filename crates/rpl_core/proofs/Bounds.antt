-- A run that has ended ends the same way with any bound that lets it.
use Rattle.std.proofs.Common.{◌≡◌, ◌≢◌, ℕ, zero, suc, ◌<◌, ◌≤◌, List, [], ◌∷◌, refl, ap, ◌∙◌, arith}
use Rattle.std.specs.Prelude.{slice_get}
use Rattle.rpl_core.specs.Instr.{Instr}
use Rattle.rpl_core.specs.Machine.{State, Going, Failing, Ended, act, resume, start_state}
use Rattle.rpl_core.specs.Run.{Answer, Matched, Failed, Unfinished, one_later, run_from, steps_of}
use Rattle.rpl_core.specs.Laws.{RunLaw}

later_open : (a : Answer) → one_later a ≢ Unfinished → a ≢ Unfinished
later_open a ne e = ne (ap one_later e)

later_steps : (a : Answer) → a ≢ Unfinished → steps_of (one_later a) ≡ suc (steps_of a)
later_steps (Matched n i cs) ne = refl
later_steps (Failed n) ne = refl
later_steps Unfinished ne = absurd (ne refl)

module _ (code : List Instr) (t : List ℕ) where
  -- what a run from s does with each bound, where it ends as a
  record Stops (s : State) (a : Answer) : Type 0 where
    enough : (b : ℕ) → steps_of a ≤ b → run_from code t b s ≡ a
    short : (b : ℕ) → b < steps_of a → run_from code t b s ≡ Unfinished

  one_more : (s s1 : State) (a : Answer) → ((b : ℕ) → run_from code t (suc b) s ≡ one_later (run_from code t b s1))
      → run_from code t zero s ≡ Unfinished → a ≢ Unfinished → Stops s1 a → Stops s (one_later a)
  one_more s s1 a go none ne k = record { enough = enough; short = short }
    where
      enough : (b : ℕ) → steps_of (one_later a) ≤ b → run_from code t b s ≡ one_later a
      enough zero le = absurd (omega (arith, later_steps a ne))
      enough (suc b) le = go b ∙ ap one_later (k.enough b (omega (arith, later_steps a ne)))

      short : (b : ℕ) → b < steps_of (one_later a) → run_from code t b s ≡ Unfinished
      short zero lt = none
      short (suc b) lt = go b ∙ ap one_later (k.short b (omega (arith, later_steps a ne)))

  stops : (b : ℕ) (s : State) → run_from code t b s ≢ Unfinished → Stops s (run_from code t b s)
  stops b (Ended i cs) ne = record { enough = λ c le. refl; short = λ c lt. absurd (omega arith) }
  stops b (Failing [] cs) ne = record { enough = λ c le. refl; short = λ c lt. absurd (omega arith) }
  stops zero (Failing (x ∷ st) cs) ne = absurd (ne refl)
  stops (suc b) (Failing (x ∷ st) cs) ne =
      let again = later_open (run_from code t b (resume (x ∷ st) cs)) ne in
      one_more _ (resume (x ∷ st) cs) _ (λ c. refl) refl again (stops b (resume (x ∷ st) cs) again)
  stops zero (Going a i st cs) ne = absurd (ne refl)
  stops (suc b) (Going a i st cs) ne =
      let again = later_open (run_from code t b (act (slice_get code a) t a i st cs)) ne in
      one_more _ (act (slice_get code a) t a i st cs) _ (λ c. refl) refl again
      (stops b (act (slice_get code a) t a i st cs) again)

pub run_holds : RunLaw
run_holds code t b ne =
    let k = stops code t b start_state ne in
    record { ended = ne; enough = k.enough; short = k.short }
