-- A whole program does what its goal means.
use Rattle.std.proofs.Common.{◌≡◌, ◌≢◌, ℕ, zero, suc, ◌+◌, ◌*◌, ◌<◌, ◌≤◌, List, [], ◌∷◌, length, Some, refl, sym, ap}
use Rattle.std.proofs.Common.{◌∙◌, subst, arith}
use Rattle.std.specs.Prelude.{Bool, true, false, slice_get}
use Rattle.std.proofs.lemmas.List.{append-nil}
use Rattle.std.specs.Str.{all_scalars}
use Rattle.rpl_core.specs.Core.{Core}
use Rattle.rpl_core.specs.Forest.{Caught, flat}
use Rattle.rpl_core.specs.Meaning.{Outcome, Open, Fail, At, HaltAt, peg}
use Rattle.rpl_core.specs.Outcome.{depth, as_match}
use Rattle.rpl_core.specs.Instr.{Instr}
use Rattle.rpl_core.specs.Instr as I
use Rattle.rpl_core.specs.Machine.{State, Going, Failing, Ended, act, resume, after, is_over, start_state}
use Rattle.rpl_core.specs.Run.{Answer, Matched, Failed, Unfinished, one_later, run_from, steps_of, EndsAs}
use Rattle.rpl_core.specs.Code.{code, size}
use Rattle.rpl_core.specs.Programs.{bodies, address, program, by_goal, by_rule, IsCode}
use Rattle.rpl_compile_laws.specs.Static.{may_halt, NoPredicateHalts}
use Rattle.rpl_compile_laws.specs.Laws.{EndsWithin, RunsAs, SimulationLaw}
use Rattle.rpl_compile_laws.proofs.Steps.{HasAt, has_front, has_back, leads_last, Does}
use Rattle.rpl_compile_laws.proofs.Cases.{fetch}
use Rattle.rpl_compile_laws.proofs.Sound.{sound}
use Rattle.rpl_compile_laws.proofs.Simulation.{Linked, peg_runs}
use Rattle.rpl_compile_laws.proofs.Quiet.{peg_goes}
use Rattle.rpl_compile_laws.proofs.Places.{code_long, has_all, placed_rule}
use Rattle.rpl_compile_laws.proofs.Characters.{chars_there}

-- how a state ends a run, where it does
abbrev answer_of : ℕ → State → Answer
answer_of n (Going a i st cs) = Unfinished
answer_of n (Failing st cs) = Failed n
answer_of n (Ended i cs) = Matched n i cs

-- one step more is counted in the answer
count_answer : (n : ℕ) (r : State) → one_later (answer_of n r) ≡ answer_of (suc n) r
count_answer n (Going a i st cs) = refl
count_answer n (Failing st cs) = refl
count_answer n (Ended i cs) = refl

module _ (prog : List Instr) (t : List ℕ) where
  -- a run from s comes to the end r after n steps at most
  record Stops (n : ℕ) (s r : State) : Type 0 where
    steps : ℕ
    within : steps ≤ n
    enough : (b : ℕ) → steps ≤ b → run_from prog t b s ≡ answer_of steps r
    short : (b : ℕ) → b < steps → run_from prog t b s ≡ Unfinished

  -- a run that has ended stays
  stays : (n i : ℕ) (cs : List Caught) → after prog t n (Ended i cs) ≡ Ended i cs
  stays zero i cs = refl
  stays (suc n) i cs = stays n i cs

  -- so does one that has failed
  stays_failing : (n : ℕ) (cs : List Caught) → after prog t n (Failing [] cs) ≡ Failing [] cs
  stays_failing zero cs = refl
  stays_failing (suc n) cs = stays_failing n cs

  -- one step before
  one_more : (n : ℕ) (s s1 r : State) → ((b : ℕ) → run_from prog t (suc b) s ≡ one_later (run_from prog t b s1))
      → run_from prog t zero s ≡ Unfinished → Stops n s1 r → Stops (suc n) s r
  one_more n s s1 r go none k = record {
    steps = suc k.steps;
    within = omega (arith, k.within);
    enough = enough;
    short = short;
  }
    where
      enough : (b : ℕ) → suc k.steps ≤ b → run_from prog t b s ≡ answer_of (suc k.steps) r
      enough zero le = absurd (omega arith)
      enough (suc b) le = go b ∙ ap one_later (k.enough b (omega arith)) ∙ count_answer k.steps r

      short : (b : ℕ) → b < suc k.steps → run_from prog t b s ≡ Unfinished
      short zero lt = none
      short (suc b) lt = go b ∙ ap one_later (k.short b (omega arith))

  -- a run that is over after n steps ends in n steps at most
  stops : (n : ℕ) (s r : State) → is_over r ≡ true → after prog t n s ≡ r → Stops n s r
  stops n (Ended i cs) r o e =
      subst (λ x. Stops n (Ended i cs) x) (sym (stays n i cs) ∙ e) (record {
        steps = 0;
        within = omega arith;
        enough = λ b le. refl;
        short = λ b lt. absurd (omega arith);
      })
  stops n (Failing [] cs) r o e =
      subst (λ x. Stops n (Failing [] cs) x) (sym (stays_failing n cs) ∙ e) (record {
        steps = 0;
        within = omega arith;
        enough = λ b le. refl;
        short = λ b lt. absurd (omega arith);
      })
  stops zero (Failing (x ∷ st) cs) r o e = let f : false ≡ true = ap is_over e ∙ o in absurd (cc)
  stops (suc n) (Failing (x ∷ st) cs) r o e =
      one_more n _ (resume (x ∷ st) cs) r (λ b. refl) refl (stops n (resume (x ∷ st) cs) r o e)
  stops zero (Going a i st cs) r o e = let f : false ≡ true = ap is_over e ∙ o in absurd (cc)
  stops (suc n) (Going a i st cs) r o e =
      one_more n _ (act (slice_get prog a) t a i st cs) r (λ b. refl) refl
      (stops n (act (slice_get prog a) t a i st cs) r o e)

  -- the answer of n steps and no fewer, at most so many for the work
  ends_in : (n w : ℕ) (r : State) (answer : ℕ → Answer) → n ≤ 4 * w + 2 → ((m : ℕ) → answer_of m r ≡ answer m)
      → ((m : ℕ) → answer m ≢ Unfinished) → ((m : ℕ) → steps_of (answer m) ≡ m) → Stops n start_state r
      → EndsWithin prog t w answer
  ends_in n w r answer le same over long k =
      let l = long k.steps in
      let ends : EndsAs prog t (answer k.steps) = record {
        ended = over k.steps;
        enough = λ b h. k.enough b (omega arith) ∙ same k.steps;
        short = λ b h. k.short b (omega arith);
      } in
      record { steps = k.steps; within = omega (arith, k.within); ends = ends }

  -- what a program's start does is how its run ends, where the goal's code is followed by the end
  runs : (b : ℕ) (o : Outcome) → slice_get prog b ≡ Some I.Finish → Does prog t 0 start_state b [] [] o
      → RunsAs prog t (as_match o)
  runs b Open h d = tt
  runs b (Fail w) h d =
      ends_in d.0 w (Failing [] d.2) (λ n. Failed n) (omega (arith, d.1)) (λ m. refl) (λ m e. absurd (cc)) (λ m. refl)
      (stops d.0 start_state (Failing [] d.2) refl d.3.by)
  runs b (At w j f) h d =
      let l = leads_last prog t d.0 _ _ _ d.2 (fetch prog t b j [] (flat f) I.Finish h) in
      ends_in (d.0 + 1) w (Ended j (flat f)) (λ n. Matched n j (flat f)) (omega (arith, d.1)) (λ m. refl)
      (λ m e. absurd (cc)) (λ m. refl) (stops (d.0 + 1) start_state (Ended j (flat f)) refl l.by)
  runs b (HaltAt w j f) h d =
      let x = d 0 refl in
      ends_in x.0 w (Ended j (flat f)) (λ n. Matched n j (flat f)) (omega (arith, x.1)) (λ m. refl) (λ m e. absurd (cc))
      (λ m. refl) (stops x.0 start_state (Ended j (flat f)) refl (x.2.by ∙ ap (Ended j) (append-nil (flat f))))

-- the theorem, at every depth
pub at_depth : (n : ℕ) (h : ℕ → Bool) (R : List Core) (g : Core) (c : List Instr) → NoPredicateHalts h R g
    → IsCode R g c → (t : List ℕ) → all_scalars t ≡ true → RunsAs c t (as_match (peg n R t g 0))
at_depth n h R g c still is t chars =
    let marks = is.marks in
    let prog = program marks R g in
    let at = address marks R g in
    let reach : ℕ → Type 0 = λ q. marks q ≡ true in
    let all = has_all prog [] in
    let front = has_front prog 0 (code at g 0) _ all in
    let tail = has_back prog 0 (code at g 0) _ all in
    let z : 0 + length (code at g 0) + 1 ≡ size g + 1 = omega (arith, code_long at (λ x. 0) g 0 0) in
    let rules = subst (λ x. HasAt prog x (bodies marks at R 0 (size g + 1))) z tail.1 in
    let linked : Linked prog t R at (chars_there t chars) reach (λ q. may_halt h q ≡ false) = λ r p m e.
    let y : r ≡ 0 + r = omega arith in
    let from = (is.exact r).0 m in (
      placed_rule prog marks at R 0 (size g + 1) r p rules e (ap marks (sym y) ∙ m),
      sound h reach p (λ q k. (is.exact q).1 (by_rule r q p from e k)) (still.rules r p from e),
    ) in
    let goal = sound h reach g (λ q k. (is.exact q).1 (by_goal q k)) still.goal in
    let all_runs = peg_runs prog t R at (chars_there t chars) reach (λ q. may_halt h q ≡ false) linked
    (peg_goes h R t still.closed) n in
    subst (λ x. RunsAs x t (as_match (peg n R t g 0))) (sym is.same)
    (runs prog t (0 + length (code at g 0)) (peg n R t g 0) tail.0 (all_runs.frag g 0 front goal 0 [] []))

-- the law
pub simulation_holds : SimulationLaw
simulation_holds h R g c still is t chars = at_depth (depth t R) h R g c still is t chars
