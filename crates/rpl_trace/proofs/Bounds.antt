-- No more evaluations were made than are made in the end.
use Rattle.std.proofs.Common.{ℕ, suc, ◌+◌, ◌-◌, ◌<◌, ◌≤◌, List, [], ◌∷◌, arith}
use Rattle.std.specs.Prelude.{Bool, true, false, nat_le, if◌then◌else◌}
use Rattle.rpl_core.specs.Core.{Core, Many}
use Rattle.rpl_core.specs.Meaning.{Outcome, lengths}
use Rattle.rpl_core.specs.View.{core_of}
use Rattle.rpl_text.specs.Places.{index}
use Rattle.rpl_trace.specs.Evaluations.{Evaluations, NoneLeft, One, Ending, Unsaid, Fails, EndsAt, HaltsAt, Length}
use Rattle.rpl_trace.specs.Evaluations.{lengths_made, length_ending, where_no_end, count, inside_of}
use Rattle.rpl_trace.specs.inside.Levels.{below, under, core_at, made_at}
use Rattle.rpl_trace.specs.inside.Standing.{Standing, ended}
use Rattle.rpl_trace.specs.inside.Tasks.{Onward, Leads, LeadsCore, LeadsTurns, LeadsLengths}
use Rattle.rpl_trace.specs.inside.Tasks.{OnMatch, OnFailure, Turned, Does, DoesAll}
use Rattle.rpl_trace.specs.declared.task.Task.{Task}
use Rattle.rpl_trace.specs.declared.task.Task.TheVariants as T
use Rattle.rpl_trace.proofs.Counted.{is_one}

-- there are at most m
abbrev pub Bounds : Onward → ℕ → Type 0
Bounds onward m = (e : Ending) (s : Standing) (v : ℕ) → onward e s v → v ≤ m

by_leads : (onward : Onward) (o : Outcome) (f : Evaluations) (s : Standing) (v m : ℕ) → Bounds onward m
    → Leads onward o f s v → v + count f ≤ m
by_leads onward o f s v m b h = b _ _ _ h.1

on_match : (A Q : Type 0) (P : ℕ → Type 0) (e : Ending) → ((i : ℕ) → P i → A) → (Q → A) → OnMatch e P Q → A
on_match A Q P Unsaid f g h = g h
on_match A Q P Fails f g h = g h
on_match A Q P (EndsAt i) f g h = f i h
on_match A Q P (HaltsAt i) f g h = g h

on_failure : (A Q P : Type 0) (e : Ending) → (P → A) → (Q → A) → OnFailure e P Q → A
on_failure A Q P Unsaid f g h = g h
on_failure A Q P Fails f g h = f h
on_failure A Q P (EndsAt i) f g h = g h
on_failure A Q P (HaltsAt i) f g h = g h

by_turned : (R : List Core) (t : List ℕ) (p : Core) (i : ℕ) (onward : Onward) (m : ℕ) → Bounds onward m
    → Bounds (Turned R t p i onward) m
by_turned R t p i onward m b Unsaid s v h = b _ _ _ h
by_turned R t p i onward m b Fails s v h = b _ _ _ h
by_turned R t p i onward m b (EndsAt j) s v (n, h) =
    let f = inside_of (made_at n R t (Many p) j) in
    let x : v + 1 + count f ≤ m = by_leads onward (core_at n R t (Many p) j) f (ended (EndsAt j) s) (v + 1) m b h in
    omega arith
by_turned R t p i onward m b (HaltsAt j) s v h = b _ _ _ h

by_task : (R : List Core) (t : List ℕ) (task : Task) (onward : Onward) (m : ℕ) → Bounds onward m
    → Bounds (Does R t task onward) m
by_task R t (T.Evaluate p) onward m b e s v h =
    on_match (v ≤ m) _ _ e (λ i (n, k). let x = by_leads onward _ (made_at n R t (core_of p.now) i) s v m b k in
    omega arith) (b e s v) h
by_task R t (T.Parts ps) onward m b e s v h =
    on_match (v ≤ m) _ _ e (λ i (n, k). let x = by_leads onward _ _ s v m b k in omega arith) (b e s v) h
by_task R t (T.Ways ps p) onward m b e s v h =
    on_failure (v ≤ m) _ _ e (λ (n, k). let x = by_leads onward _ _ s v m b k in omega arith) (b e s v) h
by_task R t (T.Turns p i) onward m b e s v h = by_turned R t (core_of p.now) (index t i) onward m b e s v h
by_task R t (T.Not p) onward m b e s v h = b _ _ _ h
by_task R t (T.And p) onward m b e s v h = b _ _ _ h
by_task R t (T.Meets p) onward m b e s v h = b _ _ _ h
by_task R t (T.Lengths l) onward m b e s v h =
    on_failure (v ≤ m) _ _ e (λ (n, k). let x = by_leads onward _ _ s v m b k in omega arith) (b e s v) h
by_task R t T.Close onward m b e s v h = b _ _ _ h

pub by_tasks : (R : List Core) (t : List ℕ) (o : Ending) (f : Evaluations) (tasks : List Task)
    → Bounds (DoesAll R t o f tasks) (count f)
by_tasks R t o f [] e s v h = let x = h.2 in omega arith
by_tasks R t o f (task ∷ tasks) e s v h =
    by_task R t task (DoesAll R t o f tasks) (count f) (by_tasks R t o f tasks) e s v h

-- one that is still to be made is one more
pub one_more : (R : List Core) (t : List ℕ) (onward : Onward) (p : Core) (i : ℕ) (s : Standing) (v m : ℕ)
    → Bounds onward m → LeadsCore R t onward p i s v → v < m
one_more R t onward p i s v m b (n, h) =
    let x = by_leads onward (core_at n R t p i) (made_at n R t p i) s v m b h in
    let y = is_one (below n R t) (under n R t) R t p i in
    omega arith

pub turn_more : (R : List Core) (t : List ℕ) (onward : Onward) (p : Core) (i : ℕ) (s : Standing) (v m : ℕ)
    → Bounds onward m → LeadsTurns R t onward p i s (v + 1) → v < m
turn_more R t onward p i s v m b (n, h) =
    let f = inside_of (made_at n R t (Many p) i) in
    let x : v + 1 + count f ≤ m = by_leads onward (core_at n R t (Many p) i) f s (v + 1) m b h in
    omega arith

length_counts : (b : Bool) (k i : ℕ) (e : Ending) (f g h : Evaluations)
    → 1 ≤ count (if b then One (Length k) i e f g else One (Length k) i Fails NoneLeft h)
length_counts true k i e f g h = omega arith
length_counts false k i e f g h = omega arith

pub length_more : (R : List Core) (t : List ℕ) (onward : Onward) (p : Core) (c k i : ℕ) (s : Standing) (v m : ℕ)
    → Bounds onward m → LeadsLengths R t onward p (suc c) k i s v → v < m
length_more R t onward p c k i s v m b (n, h) =
    let f = lengths_made (suc c) k (core_at n R t p) (made_at n R t p) i in
    let x : v + count f ≤ m = by_leads onward (lengths (suc c) k (core_at n R t p) i) f s v m b h in
    let o = core_at n R t p (i - k) in
    let g = lengths_made c (k + 1) (core_at n R t p) (made_at n R t p) i in
    let y : 1 ≤ count f =
    length_counts (nat_le k i) k i (length_ending o i) (made_at n R t p (i - k)) (where_no_end o i g) g in
    omega arith
