-- What the tasks of a trace still lead to.
use Rattle.std.specs.Prelude.{◌≡◌, ◌≢◌, ℕ, ◌+◌, ◌^◌, ◌≤◌, nat_eq, if◌then◌else◌, List, [], ◌∷◌}
use Rattle.rpl_core.specs.Core.{Core, Cores}
use Rattle.rpl_core.specs.Core as C
use Rattle.rpl_core.specs.Meaning.{Outcome, Open, lengths}
use Rattle.rpl_core.specs.View.{core_of, cores}
use Rattle.rpl_text.specs.Places.{index, IsPlace}
use Rattle.rpl_trace.specs.Evaluations.{Ending, Unsaid, Fails, EndsAt, HaltsAt, Evaluations, ending, inside_of}
use Rattle.rpl_trace.specs.Evaluations.{lengths_made, count}
use Rattle.rpl_trace.specs.inside.Levels.{core_at, made_at, all_at, all_made, first_at, first_made}
use Rattle.rpl_trace.specs.inside.Standing.{Standing, Whole, add, ended, vanished}
use Rattle.rpl_trace.specs.declared.task.Task.{Task}
use Rattle.rpl_trace.specs.declared.task.Task.TheVariants as T

-- how a predicate at i ends whose body ends so
abbrev pub if_failed : Ending → ℕ → Ending
if_failed Unsaid i = Unsaid
if_failed Fails i = EndsAt i
if_failed (EndsAt j) i = Fails
if_failed (HaltsAt j) i = Fails

abbrev pub if_matched : Ending → ℕ → Ending
if_matched Unsaid i = Unsaid
if_matched Fails i = Fails
if_matched (EndsAt j) i = EndsAt i
if_matched (HaltsAt j) i = Fails

-- how a length of a look-behind at i ends whose body ends so
abbrev pub if_met : Ending → ℕ → Ending
if_met Unsaid i = Unsaid
if_met Fails i = Fails
if_met (EndsAt j) i = if nat_eq j i then EndsAt i else Fails
if_met (HaltsAt j) i = Fails

-- what is said of how an evaluation ended, of what stands then, and of how many evaluations there were
abbrev pub Onward : Type 1
Onward = Ending → Standing → ℕ → Type 0

-- the outcome o, which isn't open, and the evaluations that it makes
abbrev pub Leads : Onward → Outcome → Evaluations → Standing → ℕ → Type 0
Leads onward o f s v = (o ≢ Open) × onward (ending o) (add s f) (v + count f)

-- the same at some depth
abbrev pub LeadsCore : List Core → List ℕ → Onward → Core → ℕ → Standing → ℕ → Type 0
LeadsCore R t onward p i s v = (n : ℕ) × Leads onward (core_at n R t p i) (made_at n R t p i) s v

-- parts in turn, a choice of parts, the turns of a body, lengths of a look-behind
abbrev pub LeadsAll : List Core → List ℕ → Onward → Cores → ℕ → Standing → ℕ → Type 0
LeadsAll R t onward ps i s v = (n : ℕ) × Leads onward (all_at n R t ps i) (all_made n R t ps i) s v

abbrev pub LeadsFirst : List Core → List ℕ → Onward → Cores → ℕ → Standing → ℕ → Type 0
LeadsFirst R t onward ps i s v = (n : ℕ) × Leads onward (first_at n R t ps i) (first_made n R t ps i) s v

abbrev pub LeadsTurns : List Core → List ℕ → Onward → Core → ℕ → Standing → ℕ → Type 0
LeadsTurns R t onward p i s v =
    (n : ℕ) × Leads onward (core_at n R t (C.Many p) i) (inside_of (made_at n R t (C.Many p) i)) s v

-- what is inside an evaluation of a core, which then ends
abbrev pub LeadsInside : List Core → List ℕ → Onward → Core → ℕ → Standing → ℕ → Type 0
LeadsInside R t onward p i s v =
    (n : ℕ) × Leads (λ e x. onward e (ended e x)) (core_at n R t p i) (inside_of (made_at n R t p i)) s v

abbrev pub LeadsLengths : List Core → List ℕ → Onward → Core → ℕ → ℕ → ℕ → Standing → ℕ → Type 0
LeadsLengths R t onward p count k i s v =
    (n : ℕ)
    × Leads onward (lengths count k (core_at n R t p) i)
    (lengths_made count k (core_at n R t p) (made_at n R t p) i) s v

-- P where it matched, at the place; P where it failed; else Q
abbrev pub OnMatch : Ending → (ℕ → Type 0) → Type 0 → Type 0
OnMatch Unsaid P Q = Q
OnMatch Fails P Q = Q
OnMatch (EndsAt i) P Q = P i
OnMatch (HaltsAt i) P Q = Q

abbrev pub OnFailure : Ending → Type 0 → Type 0 → Type 0
OnFailure Unsaid P Q = Q
OnFailure Fails P Q = P
OnFailure (EndsAt i) P Q = Q
OnFailure (HaltsAt i) P Q = Q

-- after a turn of the body p at i
abbrev pub Turned : List Core → List ℕ → Core → ℕ → Onward → Onward
Turned R t p i onward Unsaid s v = onward Unsaid (vanished s) v
Turned R t p i onward Fails s v = onward (EndsAt i) (vanished s) v
Turned R t p i onward (EndsAt j) s v = LeadsTurns R t onward p j (ended (EndsAt j) s) (v + 1)
Turned R t p i onward (HaltsAt j) s v = onward (HaltsAt j) (vanished s) v

-- the task is done, and then the rest
abbrev pub Does : List Core → List ℕ → Task → Onward → Onward
Does R t (T.Evaluate p) onward e s v = OnMatch e (λ i. LeadsCore R t onward (core_of p.now) i s v) (onward e s v)
Does R t (T.Parts ps) onward e s v = OnMatch e (λ i. LeadsAll R t onward (cores ps.now) i s v) (onward e s v)
Does R t (T.Ways ps p) onward e s v = OnFailure e (LeadsFirst R t onward (cores ps.now) (index t p) s v) (onward e s v)
Does R t (T.Turns b p) onward e s v = Turned R t (core_of b.now) (index t p) onward e s v
Does R t (T.Not p) onward e s v = onward (if_failed e (index t p)) s v
Does R t (T.And p) onward e s v = onward (if_matched e (index t p)) s v
Does R t (T.Meets p) onward e s v = onward (if_met e (index t p)) s v
Does R t (T.Lengths l) onward e s v =
    OnFailure e (LeadsLengths R t onward (core_of l.body.now) l.count l.length (index t l.place) s v) (onward e s v)
Does R t T.Close onward e s v = onward e (ended e s) v

-- All of them, the first first: in the end the evaluations f are made, and end as o.
abbrev pub DoesAll : List Core → List ℕ → Ending → Evaluations → List Task → Onward
DoesAll R t o f [] e s v = (e ≡ o) × (s ≡ Whole f) × (v ≡ count f)
DoesAll R t o f (task ∷ tasks) e s v = Does R t task (DoesAll R t o f tasks) e s v

-- each place in a task is one of the text, and its lengths can be counted
abbrev pub TaskStands : List ℕ → Task → Type 0
TaskStands t (T.Ways ps p) = IsPlace t p
TaskStands t (T.Turns b p) = IsPlace t p
TaskStands t (T.Not p) = IsPlace t p
TaskStands t (T.And p) = IsPlace t p
TaskStands t (T.Meets p) = IsPlace t p
TaskStands t (T.Lengths l) = IsPlace t l.place × (l.length + l.count ≤ 2 ^ 32)
TaskStands t _ = Unit {0}

abbrev pub TasksStand : List ℕ → List Task → Type 0
TasksStand t [] = Unit {0}
TasksStand t (x ∷ xs) = TaskStands t x × TasksStand t xs
