-- A goal on a whole text.
use Rattle.std.proofs.Common.{◌≡◌, ◌≢◌, ℕ, ◌<◌, List, [], Result, Ok, Err, refl, sym, ap, subst, ◌∙◌, zero-add, arith}
use Rattle.std.specs.Prelude.{IsErrAnd, IfErr}
use Rattle.std.specs.Borrow.{Bor}
use Rattle.rpl_core.specs.Core.{Core}
use Rattle.rpl_core.specs.Meaning.{Outcome, Open, Fail, At, HaltAt, peg}
use Rattle.rpl_core.specs.Outcome.{outcome, work_of, as_match, depth}
use Rattle.rpl_core.specs.Table.{bodies_of}
use Rattle.rpl_core.specs.View.{core_of}
use Rattle.rpl_core.specs.declared.peg.Peg.{Peg}
use Rattle.rpl_core.specs.declared.rules.Rule.{Rule}
use Rattle.rpl_text.specs.Places.{index, IsPlace}
use Rattle.rpl_text.proofs.Walks.{at_zero, place_at, index_at}
use Rattle.rpl_trace.specs.Evaluations.{Evaluations, NoneLeft, Ending, ending, trace, count}
use Rattle.rpl_trace.specs.Traces.{place_behind, ending_place}
use Rattle.rpl_trace.specs.inside.Levels.{core_at, made_at}
use Rattle.rpl_trace.specs.inside.Standing.{Whole}
use Rattle.rpl_trace.specs.inside.Tasks.{DoesAll, LeadsCore}
use Rattle.rpl_trace.specs.inside.Steps.{State, due, Comes, Refused, Stands}
use Rattle.rpl_trace.specs.declared.answer.TraceFault.{TraceFault}
use Rattle.rpl_trace.specs.declared.answer.TraceFault.TheVariants.{NoMemory, TraceTooLong}
use Rattle.rpl_trace.specs.declared.event.End.TheVariants as E
use Rattle.rpl_trace.specs.declared.task.Task.TheVariants as T
use Rattle.rpl_trace.proofs.Counted.{count_holds}
use Rattle.rpl_trace.proofs.Levels.{peg_is, evaluations_are}

pub first_place : (t : List ℕ) → IsPlace t 0
first_place t = subst (IsPlace t) (at_zero t) (place_at t 0 (omega arith))

index_zero : (t : List ℕ) → index t 0 ≡ 0
index_zero t = ap (index t) (sym (at_zero t)) ∙ index_at t 0 (omega arith)

same_work : (o : Outcome) → work_of (as_match o) ≡ work_of o
same_work Open = refl
same_work (Fail w) = refl
same_work (At w j f) = refl
same_work (HaltAt w j f) = refl

place_same : (t : List ℕ) (o : Outcome) → ending_place t (ending o) ≡ place_behind t (as_match o)
place_same t Open = refl
place_same t (Fail w) = refl
place_same t (At w j f) = refl
place_same t (HaltAt w j f) = refl

-- the goal's own outcome and evaluations from the first place
abbrev pub own : List Core → Core → List ℕ → Outcome
own R g t = core_at (depth t R) R t g (index t 0)

abbrev pub own_made : List Core → Core → List ℕ → Evaluations
own_made R g t = made_at (depth t R) R t g (index t 0)

pub record Goal (R : List Core) (g : Core) (t : List ℕ) : Type 0 where
  pub shut : own R g t ≢ Open
  pub made : own_made R g t ≡ trace R g t
  pub work : count (own_made R g t) ≡ work_of (outcome R g t)
  pub place : ending_place t (ending (own R g t)) ≡ place_behind t (outcome R g t)

pub goal_at : (R : List Core) (g : Core) (t : List ℕ) → outcome R g t ≢ Open → Goal R g t
goal_at R g t h =
    let n = depth t R in
    let same : own R g t ≡ peg n R t g 0 = ap (core_at n R t g) (index_zero t) ∙ sym (peg_is n R t g 0) in
    let made : own_made R g t ≡ trace R g t = ap (made_at n R t g) (index_zero t) ∙ sym (evaluations_are n R t g 0) in
    let open_not : peg n R t g 0 ≢ Open = λ e. h (ap as_match e) in
    record {
      shut = λ e. open_not (sym same ∙ e);
      made = made;
      work = ap count made ∙ count_holds n R t g 0 open_not ∙ sym (same_work (peg n R t g 0));
      place = ap (λ o. ending_place t (ending o)) same ∙ place_same t (peg n R t g 0);
    }

-- nothing has happened yet
abbrev pub fresh : ℕ → State
fresh limit = record { tasks = []; events = []; spent = 0; limit = limit }

pub fresh_stands : (t : List ℕ) (limit : ℕ) (s : State) → s ≡ fresh limit → Stands t s
fresh_stands t limit s e = let P : State → Type 0 = Stands t in
    subst P (sym e) (record { tasks = tt; events = tt; within = omega arith })

-- with the goal to be evaluated, it comes to the goal's own evaluations
pub started : (rs cs : List Rule) (a : Bor Peg) (p : Peg) (t : List ℕ) (limit : ℕ) (s mid : State) → rs ≡ cs → a.now ≡ p
    → s ≡ fresh limit → mid ≡ due (T.Evaluate a) s → Goal (bodies_of cs) (core_of p) t
    → Comes (bodies_of rs) t (ending (own (bodies_of cs) (core_of p) t)) (own_made (bodies_of cs) (core_of p) t) mid
    (E.At 0)
started rs cs a p t limit s mid er ep es em q =
    let R = bodies_of cs in
    let o = ending (own R (core_of p) t) in
    let f = own_made R (core_of p) t in
    let P1 : State → Type 0 = λ m. Comes (bodies_of rs) t o f m (E.At 0) in
    let P2 : State → Type 0 = λ x. Comes (bodies_of rs) t o f (due (T.Evaluate a) x) (E.At 0) in
    let P3 : List Rule → Type 0 = λ xs. Comes (bodies_of xs) t o f (due (T.Evaluate a) (fresh limit)) (E.At 0) in
    let P4 : Peg → Type 0 = λ y. LeadsCore R t (DoesAll R t o f []) (core_of y) (index t 0) (Whole NoneLeft) 0 in
    subst P1 (sym em) (subst P2 (sym es)
    (subst P3 (sym er) (subst P4 (sym ep) (depth t R, (q.shut, (refl, refl, zero-add (count f)))))))

pub limit_is : (a : Bor Peg) (limit : ℕ) (s mid : State) → s ≡ fresh limit → mid ≡ due (T.Evaluate a) s
    → mid.limit ≡ limit
limit_is a limit s mid es em = ap (λ (x : State). x.limit) em ∙ ap (λ (x : State). x.limit) es

-- out of memory is no refusal
pub memory_alone : {A : Type 0} (P : Type 0) (r : Result A TraceFault) → IsErrAnd r (λ y. y ≡ NoMemory)
    → IfErr r (λ e. e ≡ TraceTooLong → P)
memory_alone P (Ok x) h = absurd h
memory_alone P (Err y) h = λ e. absurd (cc)

pub too_long : {A : Type 0} (R : List Core) (t : List ℕ) (o : Ending) (f : Evaluations) (s : State) (limit work :
    ℕ) (x : TraceFault) (r : Result A TraceFault)
    → s.limit ≡ limit → count f ≡ work → Comes R t o f s (E.At 0) → Refused R t s (E.At 0) x → IsErrAnd r (λ y. y ≡ x)
    → IfErr r (λ e. e ≡ TraceTooLong → limit < work)
too_long R t o f s limit work x (Ok z) el ew c h k = absurd k
too_long R t o f s limit work x (Err y) el ew c h k = λ e.
    let same : x ≡ TraceTooLong = sym k ∙ e in
    let m = subst (Refused R t s (E.At 0)) same h o f c in
    omega arith
