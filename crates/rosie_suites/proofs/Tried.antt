-- What tests are tried with.
use Rattle.std.proofs.Common.{ℕ, ◌≡◌, ◌<◌, ◌≤◌, Bool, true, false, cond, List, [], ◌∷◌, ◌++◌, length, refl, sym, ◌∙◌}
use Rattle.std.proofs.Common.{ap, subst, arith}
use Rattle.std.proofs.Common.{append_assoc, get_or}
use Rattle.std.specs.Prelude.{Option, Some, None, map, nat_lt}
use Rattle.std.proofs.Math.Logic.{∥∥₁_elim, ∥∥₁_map, ∥∥₁_map₂}
use Rattle.std.proofs.Props.{props}
use Rattle.std.proofs.lemmas.List.{get_or-map, length-map}
use Rattle.std.proofs.lemmas.Grind.{merely}
use Rattle.std.proofs.lemmas.List.Elements.{All-push}
use Rattle.rpl_core.specs.Core.{Core}
use Rattle.rpl_core.specs.Instr.{Instr}
use Rattle.rpl_core.specs.Programs.{IsCode}
use Rattle.rpl_core.proofs.Codes.{code_holds}
use Rattle.rpl_core.proofs.Reaching.{has_code}
use Rattle.rpl_check.specs.Checked.{IsWhole}
use Rattle.rpl_codegen.specs.Compiled.{HasLongCode}
use Rattle.rpl_compile_laws.proofs.Answering.{answer_holds}
use Rattle.rpl_compile_laws.specs.Laws.{IsCapture}
use Rattle.rpl_names.specs.declared.targets.Target.{Target}
use Rattle.rpl_unittest.specs.declared.test.Test.{Test}
use Rattle.rosie_jobs.specs.Lines.{Job}
use Rattle.rosie_suites.specs.Suites.{AreTrials, IsSubject, goal_of, subject_unless_long}
use Rattle.rosie_suites.specs.Tried.{subject_for}
use Rattle.rosie_suites.specs.Trials.{Subject, TooLong, HasCode, Trial}
use Rattle.rosie_suites.specs.declared.trial.Trial as D
use Rattle.rosie_suites.specs.inside.Ready.{AreBound, AreReady, IsBound, IsReady, IsReadyJob, IsReadyTrial, IsText}
use Rattle.rosie_suites.proofs.Once.{subject_one}

module _ (R : List Core) where
  job_with : Core → List Instr → Job
  job_with g code = record { rules = R; goal = g; code = code }

  -- every subject that is due has this code
  coded : (t : Target) (due : Subject) (code : List Instr) → IsSubject R (Some t) due → IsCode R (goal_of t) code
      → due ≡ subject_unless_long (job_with (goal_of t) code)
  unfolding job_with
  coded t due code h is = h.2
      ∙ ap (λ c. subject_unless_long (record { rules = R; goal = goal_of t; code = c }))
      (code_holds R (goal_of t) h.0 code h.1 is)

  pub runs_due : (t : Target) (g : Core) (code : List Instr) (due : Subject) → IsSubject R (Some t) due → g ≡ goal_of t
      → IsCode R g code → length code ≤ 1048576 → due ≡ HasCode (record { rules = R; goal = g; code = code })
  unfolding job_with
  runs_due t g code due h e is fits =
      let test : nat_lt 1048576 (length code) ≡ false = grind (arith, fits) in
      coded t due code h (subst (λ x. IsCode R x code) e is)
      ∙ ap (λ b. cond b TooLong (HasCode (job_with (goal_of t) code))) test
      ∙ ap (λ x. HasCode (job_with x code)) (sym e)

  pub long_due : (t : Target) (g : Core) (due : Subject) → IsSubject R (Some t) due → g ≡ goal_of t → HasLongCode R g
      → due ≡ TooLong
  unfolding job_with
  long_due t g due h e long =
      let more = long.2 in
      let test : nat_lt 1048576 (length long.0) ≡ true = grind (arith, more) in
      coded t due long.0 h (subst (λ x. IsCode R x long.0) e long.1)
      ∙ ap (λ b. cond b TooLong (HasCode (job_with (goal_of t) long.0))) test

-- what the tests of a target are tried with is one thing
pub subject_is : (R : List Core) (o : Option Target) → IsSubject R o (subject_for R o)
subject_is R None = refl
subject_is R (Some t) = ((has_code R (goal_of t)).0, (has_code R (goal_of t)).1, refl)

pub subject_due : (R : List Core) (o p : Option Target) (due : Subject) → p ≡ o → IsSubject R p due
    → due ≡ subject_for R o
subject_due R o p due e h =
    subject_one R o due (subject_for R o) (subst (λ x. IsSubject R x due) e h) (subject_is R o)

long_or : (b : Bool) (job : Job) → IsReadyJob job → IsReady (cond b TooLong (HasCode job))
long_or true job h = tt
long_or false job h = h

-- and it is ready, where the goal is whole and a match of it is one tree
pub ready_for : (R : List Core) (o : Option Target) (t : Target) (g : Core) → o ≡ Some t → g ≡ goal_of t → IsWhole R g
    → (label : List ℕ) × IsCapture R label g → ∥ IsReady (subject_for R o) ∥₁
ready_for R o t g e f w root =
    let whole = subst (IsWhole R) f w in
    let one = subst (λ x. (label : List ℕ) × IsCapture R label x) f root in
    let code = has_code R (goal_of t) in
    let job : Job = record { rules = R; goal = goal_of t; code = code.0 } in
    subst (λ x. ∥ IsReady (subject_for R x) ∥₁) (sym e)
    (merely (long_or (nat_lt 1048576 (length code.0)) job (record {
      meant = λ text chars b. answer_holds whole.stays.0 _ _ _ whole.stays.1 code.1 text chars (whole.shut text) b;
      label = one.0;
      root = one.1;
    })))

-- ---- the tests in turn

-- of the trials that are due, these are the first, and those of the other tests come after
pub record Passed (R : List Core) (target : List ℕ → Option Target) (due so_far : List Trial) (rest : List Test) :
    Type 0 where
  pub more : List Trial
  pub split : due ≡ so_far ++ more
  pub others : AreTrials R target rest more

pub all_next :
    (R : List Core) (target : List ℕ → Option Target) (due so_far : List Trial) (t : Test) (tests rest : List Test) (s :
    Subject)
    → tests ≡ t ∷ rest → Passed R target due so_far tests → ((x : Subject) → IsSubject R (target t.name) x → x ≡ s)
    → Passed R target due (so_far ++ record { test = t; subject = s } ∷ []) rest
all_next R target due so_far t tests rest s e h same =
    let k = subst (λ ts. AreTrials R target ts h.more) e h.others in
    record {
      more = k.1;
      split =
          h.split ∙ ap (λ xs. so_far ++ xs) (k.4 ∙ ap (λ x. record { test = t; subject = x } ∷ k.1) (same k.0 k.2))
          ∙ sym (append_assoc so_far (record { test = t; subject = s } ∷ []) k.1);
      others = k.3;
    }

-- ---- and each of them is ready

pub ready_next : (ts : List Trial) (t : Trial) → ∥ AreReady ts ∥₁ → IsText t.test.text → ∥ IsReady t.subject ∥₁
    → ∥ AreReady (ts ++ t ∷ []) ∥₁
ready_next ts t h text s = ∥∥₁_map₂ h s (λ r k. All-push IsReadyTrial ts t r (text, k))

-- one of them
pub ready_at : {X : Type 0} (f : X → Trial) (xs : List X) (i : ℕ) (x : X) → i < length xs → x ≡ get_or xs i x
    → ∥ AreReady (map f xs) ∥₁ → ∥ IsReadyTrial (f x) ∥₁
ready_at f xs i x lt e h =
    ∥∥₁_map h (λ r. subst IsReadyTrial (get_or-map f xs i x (f x) lt
    ∙ ap f (sym e)) (r i (f x) (let l = length-map xs f in omega arith)))

-- ---- and its target a rule

pub bound_next : (R : List Core) (ts : List D.Trial) (t : D.Trial) → ∥ AreBound R ts ∥₁ → IsBound R t.target
    → ∥ AreBound R (ts ++ t ∷ []) ∥₁
bound_next R ts t h b = ∥∥₁_map h (λ r. All-push (λ x. IsBound R x.target) ts t r b)

bound_prop : (R : List Core) (o : Option Target) → IsProp (IsBound R o)
bound_prop R None = Prim.hlevel props
bound_prop R (Some t) = Prim.hlevel props

-- one of them
pub bound_at : (R : List Core) (ts : List D.Trial) (i : ℕ) (t : D.Trial) → i < length ts → t ≡ get_or ts i t
    → ∥ AreBound R ts ∥₁ → IsBound R t.target
bound_at R ts i t lt e h =
    ∥∥₁_elim h (bound_prop R t.target) (λ r. subst (λ x. IsBound R x.target) (sym e) (r i t lt))
