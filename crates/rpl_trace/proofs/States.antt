-- A state, with one more task, event or evaluation.
use Rattle.std.proofs.Common.{◌≡◌, ℕ, ◌+◌, ◌-◌, ◌<◌, ◌≤◌, List, [], ◌∷◌, ◌++◌, length, reverse, refl, sym, ap, subst}
use Rattle.std.proofs.Common.{◌∙◌, arith}
use Rattle.std.proofs.lemmas.List.{reverse-append}
use Rattle.rpl_core.specs.Core.{Core}
use Rattle.rpl_trace.specs.Evaluations.{Ending, Evaluations, count}
use Rattle.rpl_trace.specs.inside.Seen.{EventStands}
use Rattle.rpl_trace.specs.inside.Tasks.{TaskStands}
use Rattle.rpl_trace.specs.inside.Steps.{State, due, happened, counted, Stands, Comes, Refused, left}
use Rattle.rpl_trace.specs.declared.event.End.{End}
use Rattle.rpl_trace.specs.declared.event.Event.{Event}
use Rattle.rpl_trace.specs.declared.event.Event.TheVariants as V
use Rattle.rpl_trace.specs.declared.event.Kind.{Kind}
use Rattle.rpl_text.specs.Places.{IsPlace}
use Rattle.rpl_trace.specs.declared.task.Task.{Task}
use Rattle.rpl_trace.specs.declared.answer.TraceFault.{TraceFault}
use Rattle.rpl_trace.specs.declared.answer.TraceFault.TheVariants.{NoMemory, TraceTooLong}

-- what was pushed last is first in reverse
pub last_first : {A : Type 0} (xs : List A) (x : A) → reverse (xs ++ x ∷ []) ≡ x ∷ reverse xs
last_first xs x = reverse-append xs (x ∷ [])

pub due_pushed : (tasks : List Task) (task : Task) (events : List Event) (spent limit : ℕ)
    → record {
      tasks = reverse (tasks ++ task ∷ []);
      events = events;
      spent = spent;
      limit = limit;
    } ≡ due task (record { tasks = reverse tasks; events = events; spent = spent; limit = limit })
due_pushed tasks task events spent limit =
    ap (λ (x : List Task). let s : State = record { tasks = x; events = events; spent = spent; limit = limit } in
    s) (last_first tasks task)

pub stands_due : (t : List ℕ) (s : State) (task : Task) → TaskStands t task → Stands t s → Stands t (due task s)
stands_due t s task h k = record { tasks = (h, k.tasks); events = k.events; within = k.within }

pub stands_happened : (t : List ℕ) (s : State) (event : Event) → EventStands t event → Stands t s
    → Stands t (happened event s)
stands_happened t s event h k = record { tasks = k.tasks; events = (h, k.events); within = k.within }

pub stands_counted : (t : List ℕ) (s : State) → s.spent < s.limit → Stands t s → Stands t (counted s)
stands_counted t s h k = record { tasks = k.tasks; events = k.events; within = omega arith }

-- out of memory, or no room for what comes next
pub refuses : (R : List Core) (t : List ℕ) (s : State) (e : End) (x : TraceFault)
    → (x ≡ TraceTooLong → s.limit ≤ s.spent)
    → ((o : Ending) (f : Evaluations) → Comes R t o f s e → s.spent < count f) → Refused R t s e x
refuses R t s e NoMemory h k = tt
refuses R t s e TraceTooLong h k = λ o f c. let l = h refl in let m = k o f c in omega arith

pub stands_more : (t : List ℕ) (s new : State) (task : Task) → new ≡ due task s → TaskStands t task → Stands t s
    → Stands t new
stands_more t s new task e h k = let P : State → Type 0 = Stands t in subst P (sym e) (stands_due t s task h k)

pub stands_begun : (t : List ℕ) (s new : State) (kind : Kind) (place : ℕ)
    → new ≡ happened (V.Begins kind place) (counted s) → s.spent < s.limit → IsPlace t place → Stands t s → Stands t new
stands_begun t s new kind place e lt h k =
    let P : State → Type 0 = Stands t in
    subst P (sym e) (stands_happened t (counted s) (V.Begins kind place) h (stands_counted t s lt k))

-- the last task was taken
pub popped : (items rest : List Task) (task : Task) (events : List Event) (spent limit : ℕ) → items ≡ rest ++ task ∷ []
    → record {
      tasks = reverse items;
      events = events;
      spent = spent;
      limit = limit;
    } ≡ due task (record { tasks = reverse rest; events = events; spent = spent; limit = limit })
popped items rest task events spent limit e =
    ap (λ (x : List Task). let s : State = record {
      tasks = reverse x;
      events = events;
      spent = spent;
      limit = limit;
    } in s) e ∙ due_pushed rest task events spent limit

pub stands_rest : (t : List ℕ) (a s : State) (task : Task) → a ≡ due task s → Stands t a → TaskStands t task
    × Stands t s
stands_rest t a s task e h =
    let P : State → Type 0 = Stands t in
    let k = subst P e h in
    (k.tasks.0, record { tasks = k.tasks.1; events = k.events; within = k.within })

pub left_less : (a s : State) (task : Task) (n : ℕ) → a ≡ due task s → n ≤ left s → n < left a
left_less a s task n e h = let k : left a ≡ left s + 1 = ap left e ∙ omega arith in omega arith

pub nil_from_length : {A : Type 0} (xs : List A) → length xs ≡ 0 → xs ≡ []
nil_from_length [] e = refl
nil_from_length (x ∷ xs) e = absurd (omega arith)

abbrev with_tasks : List Task → List Event → ℕ → ℕ → State
with_tasks tasks events spent limit = record { tasks = reverse tasks; events = events; spent = spent; limit = limit }

pub none_left : (items rest : List Task) (events : List Event) (spent limit : ℕ) → items ≡ [] → rest ≡ []
    → with_tasks items events spent limit ≡ with_tasks rest events spent limit
none_left items rest events spent limit e f = ap (λ x. with_tasks x events spent limit) (e ∙ sym f)
