-- What a step of a trace does.
use Rattle.std.specs.Prelude.{◌≡◌, ℕ, ◌+◌, ◌-◌, ◌*◌, ◌<◌, ◌≤◌, List, [], ◌∷◌, reverse, length, Result, Ok, Err}
use Rattle.std.specs.Prelude.{Option, Some, None}
use Rattle.std.specs.Borrow.{Bor}
use Rattle.rpl_core.specs.Core.{Core}
use Rattle.rpl_core.specs.View.{core_of}
use Rattle.rpl_core.specs.declared.peg.Peg.{Peg}
use Rattle.rpl_text.specs.Places.{index}
use Rattle.rpl_trace.specs.Evaluations.{Ending, Evaluations, count}
use Rattle.rpl_trace.specs.inside.Seen.{end_seen, EndStands, EventsStand}
use Rattle.rpl_trace.specs.inside.Standing.{Whole, standing}
use Rattle.rpl_trace.specs.inside.Tasks.{DoesAll, LeadsInside, TasksStand}
use Rattle.rpl_trace.specs.declared.event.End.{End}
use Rattle.rpl_trace.specs.declared.event.End.TheVariants as E
use Rattle.rpl_trace.specs.declared.event.Event.{Event}
use Rattle.rpl_trace.specs.declared.event.Event.TheVariants as V
use Rattle.rpl_trace.specs.declared.task.Task.{Task}
use Rattle.rpl_trace.specs.declared.task.Task.TheVariants as T
use Rattle.rpl_trace.specs.declared.tracer.Tracer.{Tracer}
use Rattle.rpl_trace.specs.declared.answer.TraceFault.{TraceFault}
use Rattle.rpl_trace.specs.declared.answer.TraceFault.TheVariants.{NoMemory, TraceTooLong}

-- A trace under way: what is still to be done, the next first; what happened, the last first; how many evaluations
-- there were, and how many there may be.
pub record State : Type 0 where
  pub tasks : List Task
  pub events : List Event
  pub spent : ℕ
  pub limit : ℕ

abbrev pub state_of : Tracer → State
state_of w =
    record { tasks = reverse w.tasks.items; events = reverse w.events.items; spent = w.spent; limit = w.limit }

-- one more task, one more event, one more evaluation
abbrev pub due : Task → State → State
due task s = record { tasks = task ∷ s.tasks; events = s.events; spent = s.spent; limit = s.limit }

abbrev pub happened : Event → State → State
happened event s = record { tasks = s.tasks; events = event ∷ s.events; spent = s.spent; limit = s.limit }

abbrev pub counted : State → State
counted s = record { tasks = s.tasks; events = s.events; spent = s.spent + 1; limit = s.limit }

-- In the end the evaluations f are made, and end as o.
abbrev pub Comes : List Core → List ℕ → Ending → Evaluations → State → End → Type 0
Comes R t o f s e = DoesAll R t o f s.tasks (end_seen t e) (standing t s.events) s.spent

-- all places are places of the text, and the limit isn't passed
pub record Stands (t : List ℕ) (s : State) : Type 0 where
  pub tasks : TasksStand t s.tasks
  pub events : EventsStand t s.events
  pub within : s.spent ≤ s.limit

-- How much can still be done: an evaluation brings at most four tasks.
abbrev pub left : State → ℕ
left s = 5 * (s.limit - s.spent) + length s.tasks

-- the step leads where the state before it did
pub record Steps (R : List Core) (t : List ℕ) (old : State) (e : End) (new : State) (next : End) : Type 0 where
  pub comes : (o : Ending) (f : Evaluations) → Comes R t o f old e → Comes R t o f new next
  pub stands : Stands t new
  pub ends : EndStands t next
  pub limit : new.limit ≡ old.limit

-- Refused, there are more evaluations than the limit; out of memory says nothing.
abbrev pub Refused : List Core → List ℕ → State → End → TraceFault → Type 0
Refused R t s e NoMemory = Unit {0}
Refused R t s e TraceTooLong = (o : Ending) (f : Evaluations) → Comes R t o f s e → s.limit < count f

abbrev pub Goes : List Core → List ℕ → State → End → State → Result End TraceFault → Type 0
Goes R t old e new (Ok next) = Steps R t old e new next
Goes R t old e new (Err x) = Refused R t old e x

-- nothing is left to be done
pub record Done (t : List ℕ) (o : Ending) (f : Evaluations) (s : State) (e : End) : Type 0 where
  pub ending : end_seen t e ≡ o
  pub made : standing t s.events ≡ Whole f
  pub spent : s.spent ≡ count f

-- inside the innermost evaluation under way are the ways of a choice at the place
abbrev pub Chooses : List Peg → ℕ → State → End → State → Type 0
Chooses [] place old e new = (e ≡ E.Fails) × (new ≡ happened (V.Ends E.Fails) old)
Chooses (p ∷ ps) place old e new =
    (a : Bor Peg) × (b : Bor (List Peg)) × (a.now ≡ p) × (b.now ≡ ps) × (e ≡ E.At place)
    × (new ≡ due (T.Evaluate a) (due (T.Ways b place) (due T.Close old)))

-- inside it is the body of a rule, if there is one
abbrev pub Calls : Option Core → ℕ → State → End → State → Type 0
Calls None place old e new = (e ≡ E.Fails) × (new ≡ happened (V.Ends E.Fails) old)
Calls (Some p) place old e new =
    (a : Bor Peg) × (core_of a.now ≡ p) × (e ≡ E.At place) × (new ≡ due (T.Evaluate a) (due T.Close old))

-- It goes on with what is inside an evaluation of p that has just begun, and brings at most three tasks.
pub record Enters (R : List Core) (t : List ℕ) (p : Core) (place : ℕ) (old : State) (e : End) (new : State)
    : Type 0 where
  pub comes : (o : Ending) (f : Evaluations)
      → LeadsInside R t (DoesAll R t o f old.tasks) p (index t place) (standing t old.events) old.spent
      → Comes R t o f new e
  pub stands : Stands t new
  pub ends : EndStands t e
  pub spent : new.spent ≡ old.spent
  pub limit : new.limit ≡ old.limit
  pub tasks : length new.tasks ≤ length old.tasks + 3
