-- What an answer of the run tells of the outcome.
use Rattle.std.proofs.Common.{inl, inr, ◌≡◌, ◌≢◌, ℕ, ◌+◌, ◌*◌, ◌<◌, ◌≤◌, List, refl, sym, subst, arith}
use Rattle.std.proofs.lemmas.Bool.{cases_lt}
use Rattle.rpl_core.specs.Forest.{flat}
use Rattle.rpl_core.specs.Meaning.{Outcome, Open, Fail, At, HaltAt}
use Rattle.rpl_core.specs.Outcome.{as_match, work_of, depth}
use Rattle.rpl_core.specs.Meaning.{peg}
use Rattle.rpl_core.specs.Instr.{Instr}
use Rattle.rpl_core.specs.Run.{Answer, Matched, Failed, run, steps_of}
use Rattle.rpl_compile_laws.specs.Laws.{EndsWithin, RunsAs, Tells, AnswerLaw}
use Rattle.rpl_compile_laws.proofs.Whole.{simulation_holds}

module _ (code : List Instr) (t : List ℕ) (b : ℕ) where
  -- a run is unfinished below its steps, and has its answer from there on
  by_bound : (o : Outcome) (w : ℕ) (answer : ℕ → Answer) → work_of o ≡ w → ((n : ℕ) → steps_of (answer n) ≡ n)
      → ((n : ℕ) → n ≤ 4 * w + 2 → Tells o b (answer n)) → EndsWithin code t w answer → Tells o b (run code t b)
  by_bound o w answer work long tells k =
      let n = long k.steps in
      elim (cases_lt b (steps_of (answer k.steps))) [
        | inl lt ↦ let less : b < 4 * work_of o + 2 = omega (arith, k.within) in
            subst (Tells o b) (sym (k.ends.short b lt)) less
        | inr le ↦ subst (Tells o b) (sym (k.ends.enough b le)) (tells k.steps k.within)
      ]

  -- so each answer tells what the outcome is
  told : (o : Outcome) → as_match o ≢ Open → RunsAs code t (as_match o) → Tells (as_match o) b (run code t b)
  told Open ne k = absurd (ne refl)
  told (Fail w) ne k = by_bound (Fail w) w (λ n. Failed n) refl (λ n. refl) (λ n le. (w, refl, le)) k
  told (At w j f) ne k =
      by_bound (At w j f) w (λ n. Matched n j (flat f)) refl (λ n. refl) (λ n le. (w, f, refl, refl, le)) k
  told (HaltAt w j f) ne k =
      by_bound (At w j f) w (λ n. Matched n j (flat f)) refl (λ n. refl) (λ n le. (w, f, refl, refl, le)) k

-- the law
pub answer_holds : AnswerLaw
answer_holds h R g code still is t chars ne b =
    told code t b (peg (depth t R) R t g 0) ne (simulation_holds h R g code still is t chars)
