-- What holds of all goals: their code does what they mean, a capture gives one tree, and evaluations end.
use Rattle.std.specs.Prelude.{◌≡◌, ◌≢◌, ℕ, Bool, true, false, ◌+◌, ◌*◌, ◌<◌, ◌≤◌, List, Some, slice_get}
use Rattle.std.specs.Str.{all_scalars}
use Rattle.rpl_core.specs.Core.{Core, Call, Capture}
use Rattle.rpl_core.specs.Forest.{Forest, NoTree, Tree, flat}
use Rattle.rpl_core.specs.Meaning.{Outcome, Open, Fail, At, HaltAt}
use Rattle.rpl_core.specs.Outcome.{outcome, work_of}
use Rattle.rpl_core.specs.Instr.{Instr}
use Rattle.rpl_core.specs.Run.{Answer, Matched, Failed, Unfinished, run, EndsAs}
use Rattle.rpl_core.specs.Programs.{IsCode}
use Rattle.rpl_compile_laws.specs.Static.{may_halt, NoPredicateHalts}
use Rattle.rpl_compile_laws.specs.Termination.{Terminates}

-- the run ends with this answer after some steps, and they are at most four times the work and two
pub record EndsWithin (code : List Instr) (t : List ℕ) (work : ℕ) (answer : ℕ → Answer) : Type 0 where
  pub steps : ℕ
  pub within : steps ≤ 4 * work + 2
  pub ends : EndsAs code t (answer steps)

-- the run ends as the outcome says, with its place and just its trees; where it is open, nothing is said
abbrev pub RunsAs : List Instr → List ℕ → Outcome → Type 0
RunsAs code t Open = Unit {0}
RunsAs code t (Fail w) = EndsWithin code t w (λ n. Failed n)
RunsAs code t (At w j f) = EndsWithin code t w (λ n. Matched n j (flat f))
RunsAs code t (HaltAt w j f) = EndsWithin code t w (λ n. Matched n j (flat f))

-- the code of a goal, no predicate of which may halt, runs on each text as the goal means
abbrev pub SimulationLaw : Type 0
SimulationLaw =
    (h : ℕ → Bool) (R : List Core) (g : Core) (code : List Instr) → NoPredicateHalts h R g → IsCode R g code →
    (t : List ℕ) → all_scalars t ≡ true → RunsAs code t (outcome R g t)

-- what an answer within b steps tells of the outcome: a match its place and just its trees, a failure that it failed,
-- each after at most four times the work and two steps; an unfinished run that b is less than that
abbrev pub Tells : Outcome → ℕ → Answer → Type 0
Tells o b (Matched n j cs) = (w : ℕ) × (f : Forest) × (o ≡ At w j f) × (cs ≡ flat f) × (n ≤ 4 * w + 2)
Tells o b (Failed n) = (w : ℕ) × (o ≡ Fail w) × (n ≤ 4 * w + 2)
Tells o b Unfinished = b < 4 * work_of o + 2

-- the same law from the answer's side, where the outcome isn't open
abbrev pub AnswerLaw : Type 0
AnswerLaw =
    (h : ℕ → Bool) (R : List Core) (g : Core) (code : List Instr) → NoPredicateHalts h R g → IsCode R g code →
    (t : List ℕ) → all_scalars t ≡ true → outcome R g t ≢ Open → (b : ℕ) → Tells (outcome R g t) b (run code t b)

-- where neither the goal nor any rule has a halt, no body of a predicate may
abbrev pub NoHaltLaw : Type 0
NoHaltLaw =
    (R : List Core) (g : Core) → may_halt (λ r. false) g ≡ false →
    ((r : ℕ) (p : Core) → slice_get R r ≡ Some p → may_halt (λ r. false) p ≡ false) →
    NoPredicateHalts (λ r. false) R g

-- the goal is a capture with the label, or a call of a rule whose body is one
pub data IsCapture (R : List Core) (label : List ℕ) : Core → Type 0 where
  itself : (p : Core) → IsCapture R label (Capture label p)
  by_call : (r : ℕ) (p : Core) → slice_get R r ≡ Some (Capture label p) → IsCapture R label (Call r)

-- a match of a capture has one tree, with its label, from the first place to the place after the match
abbrev pub OneTreeLaw : Type 0
OneTreeLaw =
    (R : List Core) (label : List ℕ) (g : Core) (t : List ℕ) (w j : ℕ) (f : Forest) →
    IsCapture R label g → outcome R g t ≡ At w j f → (subs : Forest) × (f ≡ Tree label 0 j subs NoTree)

-- the depth of a text and a table is enough for every goal whose evaluations end
abbrev pub TerminationLaw : Type 0
TerminationLaw =
    (m : ℕ → Bool) (rank : ℕ → ℕ) (R : List Core) (g : Core) (t : List ℕ) →
    Terminates m rank R g → outcome R g t ≢ Open
