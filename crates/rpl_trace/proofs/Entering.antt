-- What is inside an evaluation that has just begun, core by core.
use Rattle.std.proofs.Common.{◌≡◌, ℕ, ◌+◌, ◌-◌, ◌^◌, ◌≤◌, List, [], ◌∷◌, length, get_or, drop, Option, Some, None, refl}
use Rattle.std.proofs.Common.{sym, subst, arith}
use Rattle.std.specs.Prelude.{false, slice_get}
use Rattle.std.specs.Borrow.{Bor}
use Rattle.rpl_core.specs.Core as C
use Rattle.rpl_core.specs.Core.{Core, NoMore}
use Rattle.rpl_core.specs.View.{core_of, cores}
use Rattle.rpl_core.specs.declared.peg.Peg.{Peg}
use Rattle.rpl_text.specs.Places.{index, IsPlace}
use Rattle.rpl_trace.specs.Evaluations.{Evaluations, NoneLeft, EndsAt, ending, inside_of}
use Rattle.rpl_trace.specs.inside.Levels.{core_at, made_at, is_alone}
use Rattle.rpl_trace.specs.inside.Seen.{end_seen, EndStands}
use Rattle.rpl_trace.specs.inside.Standing.{Standing, standing}
use Rattle.rpl_trace.specs.inside.Tasks.{Onward, Does, DoesAll, Leads, LeadsCore, LeadsFirst, LeadsInside, LeadsLengths}
use Rattle.rpl_trace.specs.inside.Tasks.{OnFailure, TaskStands}
use Rattle.rpl_trace.specs.inside.Steps.{State, due, happened, Stands, Enters, Chooses, Calls}
use Rattle.rpl_trace.specs.declared.event.End.{End}
use Rattle.rpl_trace.specs.declared.event.End.TheVariants as E
use Rattle.rpl_trace.specs.declared.event.Event.TheVariants as V
use Rattle.rpl_trace.specs.declared.event.Kind.TheVariants as K
use Rattle.rpl_trace.specs.declared.task.Task.{Task}
use Rattle.rpl_trace.specs.declared.task.Task.TheVariants as T
use Rattle.rpl_trace.specs.declared.task.Lengths.{Lengths}
use Rattle.rpl_trace.proofs.Leading.{closing, leaf, seq, capture, negated, affirmed, behind, call, no_call, first_way}
use Rattle.rpl_trace.proofs.Leading.{turn}
use Rattle.rpl_trace.proofs.States.{stands_due, stands_happened}

-- it makes no other evaluation
pub leaf_in : (R : List Core) (t : List ℕ) (p : Core) (place : ℕ) (old : State) (end e : End) (new : State)
    → ((n : ℕ) → end_seen t end ≡ ending (core_at n R t p (index t place)))
    → ((n : ℕ) → inside_of (made_at n R t p (index t place)) ≡ NoneLeft)
    → EndStands t end → Stands t old → e ≡ end → new ≡ happened (V.Ends end) old → Enters R t p place old e new
leaf_in R t p place old end e new q m a b s n =
    let P : State → Type 0 = λ x. Enters R t p place old end x in
    let E : End → Type 0 = λ x. Enters R t p place old x new in
    subst E (sym s)
    (subst P (sym n)
    (record {
      comes = λ o f (d, h).
          let onward = DoesAll R t o f old.tasks in
          let u = core_at d R t p (index t place) in
          let Q : Evaluations → Type 0 = λ x. Leads (closing onward) u x (standing t old.events) old.spent in
          leaf onward u (end_seen t end) (standing t old.events) old.spent (q d) (subst Q (m d) h);
      stands = stands_happened t old (V.Ends end) a b;
      ends = a;
      spent = refl;
      limit = refl;
      tasks = omega arith;
    }))

-- its parts are one task
pub task_in : (R : List Core) (t : List ℕ) (p : Core) (place : ℕ) (old : State) (e : End) (new : State) (task : Task)
    → ((onward : Onward) (s : Standing) (v : ℕ) → LeadsInside R t onward p (index t place) s v
    → Does R t task (closing onward) (end_seen t e) s v)
    → TaskStands t task → EndStands t e → Stands t old → new ≡ due task (due T.Close old) → Enters R t p place old e new
task_in R t p place old e new task k a b d n =
    let P : State → Type 0 = λ s. Enters R t p place old e s in
    subst P (sym n)
    (record {
      comes = λ o f h. k (DoesAll R t o f old.tasks) (standing t old.events) old.spent h;
      stands = stands_due t (due T.Close old) task a (stands_due t old T.Close tt d);
      ends = b;
      spent = refl;
      limit = refl;
      tasks = omega arith;
    })

-- a body, and what is made of it
pub body_in : (R : List Core) (t : List ℕ) (p : Core) (place : ℕ) (old : State) (e : End) (new : State) (task :
    Task) (body : Bor Peg)
    → ((onward : Onward) (s : Standing) (v : ℕ) → LeadsInside R t onward p (index t place) s v
    → Does R t (T.Evaluate body) (Does R t task (closing onward)) (EndsAt (index t place)) s v)
    → TaskStands t task → IsPlace t place → Stands t old → e ≡ E.At place
    → new ≡ due (T.Evaluate body) (due task (due T.Close old)) → Enters R t p place old e new
body_in R t p place old e new task body k a b d q n =
    let P : State → Type 0 = λ s. Enters R t p place old (E.At place) s in
    let Q : End → Type 0 = λ x. Enters R t p place old x new in
    subst Q (sym q)
    (subst P (sym n)
    (record {
      comes = λ o f h. k (DoesAll R t o f old.tasks) (standing t old.events) old.spent h;
      stands = stands_due t (due task (due T.Close old)) (T.Evaluate body) tt
          (stands_due t (due T.Close old) task a (stands_due t old T.Close tt d));
      ends = b;
      spent = refl;
      limit = refl;
      tasks = omega arith;
    }))

pub turns_in : (R : List Core) (t : List ℕ) (place : ℕ) (old : State) (e : End) (new : State) (body : Bor Peg)
    → IsPlace t place → Stands t old → e ≡ E.At place
    → new ≡ due (T.Evaluate body) (due (T.Turns body place) (happened (V.Begins K.Turn place) (due T.Close old)))
    → Enters R t (C.Many (core_of body.now)) place old e new
turns_in R t place old e new body b d q n =
    let p = C.Many (core_of body.now) in
    let i = index t place in
    let P : State → Type 0 = λ s. Enters R t p place old (E.At place) s in
    let Q : End → Type 0 = λ x. Enters R t p place old x new in
    subst Q (sym q)
    (subst P (sym n)
    (record {
      comes = λ o f h. turn R t (closing (DoesAll R t o f old.tasks)) (core_of body.now) i (standing t old.events)
          old.spent h;
      stands =
          stands_due t (due (T.Turns body place) (happened (V.Begins K.Turn place) (due T.Close old))) (T.Evaluate body)
          tt
          (stands_due t (happened (V.Begins K.Turn place) (due T.Close old)) (T.Turns body place) b
          (stands_happened t (due T.Close old) (V.Begins K.Turn place) b (stands_due t old T.Close tt d)));
      ends = b;
      spent = refl;
      limit = refl;
      tasks = omega arith;
    }))

pub ways_in : (R : List Core) (t : List ℕ) (ps : List Peg) (place : ℕ) (old : State) (e : End) (new : State)
    → is_alone (C.Choice (cores ps)) ≡ false → IsPlace t place → Stands t old → Chooses ps place old e new
    → Enters R t (C.Choice (cores ps)) place old e new
ways_in R t [] place old e new a b d (q, n) =
    leaf_in R t (C.Choice NoMore) place old E.Fails e new (λ m. refl) (λ m. refl) tt d q n
ways_in R t (p ∷ []) place old e new a b d h = absurd (cc)
ways_in R t (p ∷ r ∷ ps) place old e new a b d (body, rest, hb, hr, q, n) =
    let cs = cores (r ∷ ps) in
    let i = index t place in
    body_in R t (C.Choice (C.Then (core_of p) cs)) place old e new (T.Ways rest place) body
    (λ onward s v h.
    let F : Peg → Type 0 = λ x.
    LeadsCore R t (λ y z w. OnFailure y (LeadsFirst R t (closing onward) cs i z w) (closing onward y z w)) (core_of x) i
    s v in
    let G : List Peg → Type 0 = λ ys.
    LeadsCore R t (λ y z w. OnFailure y (LeadsFirst R t (closing onward) (cores ys) i z w) (closing onward y z w))
    (core_of body.now) i s v in
    subst G (sym hr) (subst F (sym hb) (first_way R t onward (core_of p) (core_of r) (cores ps) i s v h)))
    b b d q n

pub rule_in : (R : List Core) (t : List ℕ) (r : ℕ) (place : ℕ) (old : State) (e : End) (new : State)
    → IsPlace t place → Stands t old → Calls (slice_get R r) place old e new → Enters R t (C.Call r) place old e new
rule_in R t r place old e new b d h = by_case (slice_get R r) refl h
  where
    by_case : (o : Option Core) → slice_get R r ≡ o → Calls o place old e new → Enters R t (C.Call r) place old e new
    by_case None s (q, n) =
        let P : State → Type 0 = λ x. Enters R t (C.Call r) place old E.Fails x in
        let Q : End → Type 0 = λ x. Enters R t (C.Call r) place old x new in
        subst Q (sym q)
        (subst P (sym n)
        (record {
          comes = λ o f k. absurd (no_call R t (DoesAll R t o f old.tasks) r (index t place) (standing t old.events)
              old.spent s k);
          stands = stands_happened t old (V.Ends E.Fails) tt d;
          ends = tt;
          spent = refl;
          limit = refl;
          tasks = omega arith;
        }))
    by_case (Some c) s (body, hb, q, n) =
        let Q : End → Type 0 = λ x. Enters R t (C.Call r) place old x new in
        subst Q (sym q)
        (task_in R t (C.Call r) place old (E.At place) new (T.Evaluate body)
        (λ onward x v k.
        let F : Core → Type 0 = λ y. LeadsCore R t (closing onward) y (index t place) x v in
        subst F (sym hb) (call R t onward r c (index t place) x v s k))
        tt b d n)

-- parts in turn
pub parts_in : (R : List Core) (t : List ℕ) (place : ℕ) (old : State) (e : End) (new : State) (parts : Bor (List Peg))
    → IsPlace t place → Stands t old → e ≡ E.At place → new ≡ due (T.Parts parts) (due T.Close old)
    → Enters R t (C.Seq (cores parts.now)) place old e new
parts_in R t place old e new parts b d q n =
    let p = C.Seq (cores parts.now) in
    let Q : End → Type 0 = λ x. Enters R t p place old x new in
    subst Q (sym q)
    (task_in R t p place old (E.At place) new (T.Parts parts)
    (λ onward s v h. seq R t onward (cores parts.now) (index t place) s v h) tt b d n)

pub capture_in : (R : List Core) (t : List ℕ) (label : List ℕ) (place : ℕ) (old : State) (e : End) (new : State) (body :
    Bor Peg)
    → IsPlace t place → Stands t old → e ≡ E.At place → new ≡ due (T.Evaluate body) (due T.Close old)
    → Enters R t (C.Capture label (core_of body.now)) place old e new
capture_in R t label place old e new body b d q n =
    let p = C.Capture label (core_of body.now) in
    let Q : End → Type 0 = λ x. Enters R t p place old x new in
    subst Q (sym q)
    (task_in R t p place old (E.At place) new (T.Evaluate body)
    (λ onward s v h. capture R t onward label (core_of body.now) (index t place) s v h) tt b d n)

pub not_in : (R : List Core) (t : List ℕ) (place : ℕ) (old : State) (e : End) (new : State) (body : Bor Peg)
    → IsPlace t place → Stands t old → e ≡ E.At place
    → new ≡ due (T.Evaluate body) (due (T.Not place) (due T.Close old))
    → Enters R t (C.Not (core_of body.now)) place old e new
not_in R t place old e new body b d q n =
    body_in R t (C.Not (core_of body.now)) place old e new (T.Not place) body
    (λ onward s v h. negated R t onward (core_of body.now) (index t place) s v h) b b d q n

pub and_in : (R : List Core) (t : List ℕ) (place : ℕ) (old : State) (e : End) (new : State) (body : Bor Peg)
    → IsPlace t place → Stands t old → e ≡ E.At place
    → new ≡ due (T.Evaluate body) (due (T.And place) (due T.Close old))
    → Enters R t (C.And (core_of body.now)) place old e new
and_in R t place old e new body b d q n =
    body_in R t (C.And (core_of body.now)) place old e new (T.And place) body
    (λ onward s v h. affirmed R t onward (core_of body.now) (index t place) s v h) b b d q n

pub lengths_in : (R : List Core) (t : List ℕ) (least most place : ℕ) (old : State) (e : End) (new : State) (l : Lengths)
    → l.length ≡ least → l.count ≡ most + 1 - least → l.place ≡ place → l.length + l.count ≤ 2 ^ 32
    → IsPlace t place → Stands t old → e ≡ E.Fails → new ≡ due (T.Lengths l) (due T.Close old)
    → Enters R t (C.Behind least most (core_of l.body.now)) place old e new
lengths_in R t least most place old e new l hl hc hp le b d q n =
    let p = core_of l.body.now in
    let Q : End → Type 0 = λ x. Enters R t (C.Behind least most p) place old x new in
    let S : ℕ → Type 0 = IsPlace t in
    subst Q (sym q)
    (task_in R t (C.Behind least most p) place old E.Fails new (T.Lengths l)
    (λ onward s v h.
    let F : ℕ → Type 0 = λ x. LeadsLengths R t (closing onward) p (most + 1 - least) x (index t place) s v in
    let G : ℕ → Type 0 = λ x. LeadsLengths R t (closing onward) p x l.length (index t place) s v in
    let H : ℕ → Type 0 = λ x. LeadsLengths R t (closing onward) p l.count l.length (index t x) s v in
    subst H (sym hp) (subst G (sym hc) (subst F (sym hl) (behind R t onward least most p (index t place) s v h))))
    (subst S (sym hp) b, le) tt d n)

-- the first of some parts, and the rest of them
pub chosen : (ps : List Peg) (place : ℕ) (old new : State) (e : End) (a : Bor Peg) (b : Bor (List Peg)) → e ≡ E.At place
    → new ≡ due (T.Evaluate a) (due (T.Ways b place) (due T.Close old))
    → 1 ≤ length ps → a.now ≡ get_or ps 0 a.now → b.now ≡ drop 1 ps → Chooses ps place old e new
chosen [] place old new e a b q n le f r = absurd (omega arith)
chosen (p ∷ ps) place old new e a b q n le f r = (a, b, f, r, q, n)
