-- What each task comes to, as a step from one state to the next.
use Rattle.std.proofs.Common.{◌≡◌, ◌≢◌, ℕ, suc, ◌+◌, ◌-◌, ◌*◌, ◌<◌, ◌≤◌, List, [], ◌∷◌, length, drop, get_or, Result}
use Rattle.std.proofs.Common.{Ok, Err, refl, sym, ap, subst, ◌∙◌, arith}
use Rattle.std.specs.Prelude.{true, false, nat_le, IsErrAnd, OnOk, IfErr}
use Rattle.std.specs.Borrow.{Bor}
use Rattle.rpl_core.specs.Core as C
use Rattle.rpl_core.specs.Core.{Core}
use Rattle.rpl_core.specs.View.{core_of, cores}
use Rattle.rpl_core.specs.declared.peg.Peg.{Peg}
use Rattle.rpl_text.specs.Places.{index, IsPlace}
use Rattle.rpl_trace.specs.Evaluations.{Evaluations, NoneLeft, Ending, Kind}
use Rattle.rpl_trace.specs.Evaluations.{Length, count}
use Rattle.rpl_trace.specs.Kinds.{kind_of, kind_seen}
use Rattle.rpl_trace.specs.inside.Levels.{AreAlike, is_alone}
use Rattle.rpl_trace.specs.inside.Seen.{end_seen, EndStands}
use Rattle.rpl_trace.specs.inside.Standing.{Inside, standing}
use Rattle.rpl_trace.specs.inside.Tasks.{Onward, DoesAll, LeadsCore, LeadsAll, LeadsFirst, LeadsInside, LeadsLengths}
use Rattle.rpl_trace.specs.inside.Tasks.{TaskStands}
use Rattle.rpl_trace.specs.inside.Tasks.{if_met}
use Rattle.rpl_trace.specs.inside.Steps.{State, due, happened, counted, left, Stands, Comes, Steps, Refused, Goes}
use Rattle.rpl_trace.specs.inside.Steps.{Enters, Chooses, Done}
use Rattle.rpl_trace.specs.declared.event.End.{End}
use Rattle.rpl_trace.specs.declared.event.End.TheVariants as E
use Rattle.rpl_trace.specs.declared.answer.TraceFault.{TraceFault}
use Rattle.rpl_trace.specs.declared.answer.TraceFault.TheVariants.{NoMemory, TraceTooLong}
use Rattle.rpl_trace.specs.declared.event.Event.{Event}
use Rattle.rpl_trace.specs.declared.event.Event.TheVariants as V
use Rattle.rpl_trace.specs.declared.event.Kind as D
use Rattle.rpl_trace.specs.declared.event.Kind.TheVariants as K
use Rattle.rpl_trace.specs.declared.task.Task.{Task}
use Rattle.rpl_trace.specs.declared.task.Task.TheVariants as T
use Rattle.rpl_trace.specs.declared.task.Lengths.{Lengths}
use Rattle.rpl_trace.proofs.Leading.{closing, Shorter, begins, alike, first_part, no_parts, turn, length_tried}
use Rattle.rpl_trace.proofs.Leading.{length_short, no_lengths}
use Rattle.rpl_trace.proofs.Bounds.{by_tasks, one_more, turn_more, length_more}
use Rattle.rpl_trace.proofs.States.{stands_due, stands_happened, stands_counted, refuses}
use Rattle.rpl_trace.proofs.Parts.{first_and_rest, only_item}
use Rattle.rpl_trace.proofs.Alone.{not_alone}
use Rattle.rpl_trace.proofs.Entering.{ways_in}

-- ---- an evaluation

-- it has begun, and goes on with what is inside it
pub evaluated : (R : List Core) (t : List ℕ) (a : Bor Peg) (q : Core) (k : D.Kind) (place : ℕ) (s mid : State) (e :
    End) (new : State)
    → AreAlike (core_of a.now) q → is_alone q ≡ false → kind_seen k ≡ kind_of q
    → mid ≡ happened (V.Begins k place) (counted s)
    → Enters R t q place mid e new → Steps R t (due (T.Evaluate a) s) (E.At place) new e
evaluated R t a q k place s mid e new al ne ks m h =
    let i = index t place in
    let P : State → Type 0 = λ x. Enters R t q place x e new in
    let x = subst P m h in
    record {
      comes = λ o f c.
          let onward = DoesAll R t o f s.tasks in
          let st = standing t s.events in
          let b = begins R t onward q i st s.spent ne (alike R t onward (core_of a.now) q i st s.spent al c) in
          let Q : Kind → Type 0 = λ y. LeadsInside R t onward q i (Inside st y i NoneLeft) (s.spent + 1) in
          x.comes o f (subst Q (sym ks) b);
      stands = x.stands;
      ends = x.ends;
      limit = x.limit;
    }

pub evaluation_due : (R : List Core) (t : List ℕ) (a : Bor Peg) (place : ℕ) (s : State) (o : Ending) (f : Evaluations)
    → Comes R t o f (due (T.Evaluate a) s) (E.At place) → s.spent < count f
evaluation_due R t a place s o f c =
    one_more R t (DoesAll R t o f s.tasks) (core_of a.now) (index t place) (standing t s.events) s.spent (count f)
    (by_tasks R t o f s.tasks) c

-- ---- parts in turn

pub part_next : (R : List Core) (t : List ℕ) (parts rest : Bor (List Peg)) (a : Bor Peg) (place : ℕ) (s : State) (o :
    Ending) (f : Evaluations)
    → parts.now ≡ a.now ∷ rest.now → Comes R t o f (due (T.Parts parts) s) (E.At place)
    → Comes R t o f (due (T.Evaluate a) (due (T.Parts rest) s)) (E.At place)
part_next R t parts rest a place s o f e c =
    let onward = DoesAll R t o f s.tasks in
    let P : List Peg → Type 0 = λ ps. LeadsAll R t onward (cores ps) (index t place) (standing t s.events) s.spent in
    first_part R t onward (core_of a.now) (cores rest.now) (index t place) (standing t s.events) s.spent (subst P e c)

pub parts_over : (R : List Core) (t : List ℕ) (parts : Bor (List Peg)) (place : ℕ) (s : State) (o : Ending) (f :
    Evaluations)
    → parts.now ≡ [] → Comes R t o f (due (T.Parts parts) s) (E.At place) → Comes R t o f s (E.At place)
parts_over R t parts place s o f e c =
    let onward = DoesAll R t o f s.tasks in
    let P : List Peg → Type 0 = λ ps. LeadsAll R t onward (cores ps) (index t place) (standing t s.events) s.spent in
    no_parts R t onward (index t place) (standing t s.events) s.spent (subst P e c)

-- ---- ways

-- one way alone is that way
pub way_last : (R : List Core) (t : List ℕ) (parts : Bor (List Peg)) (a : Bor Peg) (place : ℕ) (s : State) (o :
    Ending) (f : Evaluations)
    → parts.now ≡ a.now ∷ [] → Comes R t o f (due (T.Ways parts place) s) E.Fails
    → Comes R t o f (due (T.Evaluate a) s) (E.At place)
way_last R t parts a place s o f e c =
    let onward = DoesAll R t o f s.tasks in
    let P : List Peg → Type 0 = λ ps. LeadsFirst R t onward (cores ps) (index t place) (standing t s.events) s.spent in
    subst P e c

-- more of them are a choice of their own
pub ways_next : (R : List Core) (t : List ℕ) (parts : Bor (List Peg)) (place : ℕ) (s mid : State) (e : End) (new :
    State)
    → is_alone (C.Choice (cores parts.now)) ≡ false → mid ≡ happened (V.Begins K.Choice place) (counted s)
    → Enters R t (C.Choice (cores parts.now)) place mid e new → Steps R t (due (T.Ways parts place) s) E.Fails new e
ways_next R t parts place s mid e new ne m h =
    let i = index t place in
    let q = C.Choice (cores parts.now) in
    let P : State → Type 0 = λ x. Enters R t q place x e new in
    let x = subst P m h in
    record {
      comes = λ o f c. x.comes o f (begins R t (DoesAll R t o f s.tasks) q i (standing t s.events) s.spent ne c);
      stands = x.stands;
      ends = x.ends;
      limit = x.limit;
    }

pub ways_due : (R : List Core) (t : List ℕ) (parts : Bor (List Peg)) (place : ℕ) (s : State) (o : Ending) (f :
    Evaluations) → Comes R t o f (due (T.Ways parts place) s) E.Fails → s.spent < count f
ways_due R t parts place s o f c =
    one_more R t (DoesAll R t o f s.tasks) (C.Choice (cores parts.now)) (index t place) (standing t s.events) s.spent
    (count f) (by_tasks R t o f s.tasks) c

-- ---- turns

pub turn_ends : (R : List Core) (t : List ℕ) (a : Bor Peg) (place next : ℕ) (s new : State) (e : End)
    → s.spent < s.limit → IsPlace t next → Stands t s → e ≡ E.At next
    → new ≡ due (T.Evaluate a)
    (due (T.Turns a next) (happened (V.Begins K.Turn next) (happened (V.Ends (E.At next)) (counted s))))
    → Steps R t (due (T.Turns a place) s) (E.At next) new e
turn_ends R t a place next s new e lt pl st q n =
    let P : State → Type 0 = λ x. Steps R t (due (T.Turns a place) s) (E.At next) x (E.At next) in
    let Q : End → Type 0 = λ x. Steps R t (due (T.Turns a place) s) (E.At next) new x in
    let ended = happened (V.Ends (E.At next)) (counted s) in
    let begun = happened (V.Begins K.Turn next) ended in
    subst Q (sym q)
    (subst P (sym n)
    (record {
      comes = λ o f c. turn R t (DoesAll R t o f s.tasks) (core_of a.now) (index t next) (standing t ended.events)
          (s.spent + 1) c;
      stands =
          stands_due t (due (T.Turns a next) begun) (T.Evaluate a) tt
          (stands_due t begun (T.Turns a next) pl
          (stands_happened t ended (V.Begins K.Turn next) pl
          (stands_happened t (counted s) (V.Ends (E.At next)) pl (stands_counted t s lt st))));
      ends = pl;
      limit = refl;
    }))

pub turn_due : (R : List Core) (t : List ℕ) (a : Bor Peg) (place next : ℕ) (s : State) (o : Ending) (f : Evaluations)
    → Comes R t o f (due (T.Turns a place) s) (E.At next) → s.spent < count f
turn_due R t a place next s o f c =
    turn_more R t (DoesAll R t o f s.tasks) (core_of a.now) (index t next) _ s.spent (count f)
    (by_tasks R t o f s.tasks) c

pub turn_fails : (R : List Core) (t : List ℕ) (a : Bor Peg) (place : ℕ) (s new : State)
    → IsPlace t place → Stands t s → new ≡ happened V.Vanishes s
    → Steps R t (due (T.Turns a place) s) E.Fails new (E.At place)
turn_fails R t a place s new pl st n =
    let P : State → Type 0 = λ x. Steps R t (due (T.Turns a place) s) E.Fails x (E.At place) in
    subst P (sym n) (record {
      comes = λ o f c. c;
      stands = stands_happened t s V.Vanishes tt st;
      ends = pl;
      limit = refl;
    })

pub turn_halts : (R : List Core) (t : List ℕ) (a : Bor Peg) (place halt : ℕ) (s new : State)
    → IsPlace t halt → Stands t s → new ≡ happened V.Vanishes s
    → Steps R t (due (T.Turns a place) s) (E.Halts halt) new (E.Halts halt)
turn_halts R t a place halt s new pl st n =
    let P : State → Type 0 = λ x. Steps R t (due (T.Turns a place) s) (E.Halts halt) x (E.Halts halt) in
    subst P (sym n) (record {
      comes = λ o f c. c;
      stands = stands_happened t s V.Vanishes tt st;
      ends = pl;
      limit = refl;
    })

-- ---- lengths

-- those that are left after this one, where there are c
abbrev pub shorter : Lengths → ℕ → Lengths
shorter l c = record { body = l.body; length = l.length + 1; count = c; place = l.place }

-- the state once a length has begun
abbrev pub trying : Lengths → ℕ → State → State
trying l c s = due (T.Lengths (shorter l c)) (happened (V.Begins (K.Length l.length) l.place) (counted s))

stands_trying : (t : List ℕ) (l : Lengths) (c : ℕ) (s : State) → l.count ≡ suc c → TaskStands t (T.Lengths l)
    → s.spent < s.limit → Stands t s → Stands t (trying l c s)
stands_trying t l c s e h lt st =
    let n = h.1 in
    stands_due t (happened (V.Begins (K.Length l.length) l.place) (counted s)) (T.Lengths (shorter l c)) (
      h.0,
      omega arith,
    )
    (stands_happened t (counted s) (V.Begins (K.Length l.length) l.place) h.0 (stands_counted t s lt st))

-- enough characters stand before the place
pub length_back : (R : List Core) (t : List ℕ) (l : Lengths) (c start : ℕ) (s new : State) (e : End)
    → l.count ≡ suc c → TaskStands t (T.Lengths l) → s.spent < s.limit → Stands t s
    → nat_le l.length (index t l.place) ≡ true → index t start ≡ index t l.place - l.length → IsPlace t start
    → e ≡ E.At start → new ≡ due (T.Evaluate l.body) (due (T.Meets l.place) (due T.Close (trying l c s)))
    → Steps R t (due (T.Lengths l) s) E.Fails new e
length_back R t l c start s new e w h lt st le ie ps q n =
    let P : State → Type 0 = λ x. Steps R t (due (T.Lengths l) s) E.Fails x (E.At start) in
    let Q : End → Type 0 = λ x. Steps R t (due (T.Lengths l) s) E.Fails new x in
    let i = index t l.place in
    let p = core_of l.body.now in
    let begun = trying l c s in
    let closed = due T.Close begun in
    subst Q (sym q)
    (subst P (sym n)
    (record {
      comes = λ o f h.
          let onward = DoesAll R t o f s.tasks in
          let stood = Inside (standing t s.events) (Length l.length) i NoneLeft in
          let after : Onward = λ y. closing (Shorter R t onward p c (l.length + 1) i) (if_met y i) in
          let N : ℕ → Type 0 = λ x. LeadsLengths R t onward p x l.length i (standing t s.events) s.spent in
          let S : ℕ → Type 0 = λ x. LeadsCore R t after p x stood (s.spent + 1) in
          subst S (sym ie) (length_tried R t onward c l.length p i (standing t s.events) s.spent le (subst N w h));
      stands =
          stands_due t (due (T.Meets l.place) closed) (T.Evaluate l.body) tt
          (stands_due t closed (T.Meets l.place) h.0 (stands_due t begun T.Close tt (stands_trying t l c s w h lt st)));
      ends = ps;
      limit = refl;
    }))

-- too few do
pub length_fails : (R : List Core) (t : List ℕ) (l : Lengths) (c : ℕ) (s new : State) (e : End)
    → l.count ≡ suc c → TaskStands t (T.Lengths l) → s.spent < s.limit → Stands t s
    → nat_le l.length (index t l.place) ≡ false
    → e ≡ E.Fails → new ≡ happened (V.Ends E.Fails) (trying l c s) → Steps R t (due (T.Lengths l) s) E.Fails new e
length_fails R t l c s new e w h lt st le q n =
    let P : State → Type 0 = λ x. Steps R t (due (T.Lengths l) s) E.Fails x E.Fails in
    let Q : End → Type 0 = λ x. Steps R t (due (T.Lengths l) s) E.Fails new x in
    let i = index t l.place in
    let p = core_of l.body.now in
    subst Q (sym q)
    (subst P (sym n)
    (record {
      comes = λ o f h.
          let onward = DoesAll R t o f s.tasks in
          let N : ℕ → Type 0 = λ x. LeadsLengths R t onward p x l.length i (standing t s.events) s.spent in
          length_short R t onward c l.length p i (standing t s.events) s.spent le (subst N w h);
      stands = stands_happened t (trying l c s) (V.Ends E.Fails) tt (stands_trying t l c s w h lt st);
      ends = tt;
      limit = refl;
    }))

pub length_due : (R : List Core) (t : List ℕ) (l : Lengths) (c : ℕ) (s : State) (o : Ending) (f : Evaluations)
    → l.count ≡ suc c → Comes R t o f (due (T.Lengths l) s) E.Fails → s.spent < count f
length_due R t l c s o f w h =
    let onward = DoesAll R t o f s.tasks in
    let N : ℕ → Type 0 =
    λ x. LeadsLengths R t onward (core_of l.body.now) x l.length (index t l.place) (standing t s.events) s.spent in
    length_more R t onward (core_of l.body.now) c l.length (index t l.place) (standing t s.events) s.spent (count f)
    (by_tasks R t o f s.tasks) (subst N w h)

pub lengths_over : (R : List Core) (t : List ℕ) (l : Lengths) (s : State) (o : Ending) (f : Evaluations) → l.count ≡ 0
    → Comes R t o f (due (T.Lengths l) s) E.Fails → Comes R t o f s E.Fails
lengths_over R t l s o f w h =
    let onward = DoesAll R t o f s.tasks in
    let N : ℕ → Type 0 =
    λ x. LeadsLengths R t onward (core_of l.body.now) x l.length (index t l.place) (standing t s.events) s.spent in
    no_lengths R t onward l.length (core_of l.body.now) (index t l.place) (standing t s.events) s.spent (subst N w h)

-- ---- nothing to do

pub stays : (R : List Core) (t : List ℕ) (task : Task) (s : State) (e : End) → EndStands t e → Stands t s
    → ((o : Ending) (f : Evaluations) → Comes R t o f (due task s) e → Comes R t o f s e) → Steps R t (due task s) e s e
stays R t task s e a st k = record { comes = k; stands = st; ends = a; limit = refl }

pub closes : (R : List Core) (t : List ℕ) (s new : State) (e next : End) → EndStands t e → Stands t s → next ≡ e
    → new ≡ happened (V.Ends e) s → Steps R t (due T.Close s) e new next
closes R t s new e next a st q n =
    let P : State → Type 0 = λ x. Steps R t (due T.Close s) e x e in
    let Q : End → Type 0 = λ x. Steps R t (due T.Close s) e new x in
    subst Q (sym q) (subst P (sym n) (record {
      comes = λ o f c. c;
      stands = stands_happened t s (V.Ends e) a st;
      ends = a;
      limit = refl;
    }))

-- one step, and then another
pub then_steps : (R : List Core) (t : List ℕ) (a b c : State) (x y z : End)
    → ((o : Ending) (f : Evaluations) → Comes R t o f a x → Comes R t o f b y) → b.limit ≡ a.limit → Steps R t b y c z
    → Steps R t a x c z
then_steps R t a b c x y z k l h =
    record { comes = λ o f p. h.comes o f (k o f p); stands = h.stands; ends = h.ends; limit = h.limit ∙ l }

-- ---- answers

-- out of memory says nothing
pub memory_exit : (R : List Core) (t : List ℕ) (s : State) (e : End) (new : State) (r : Result End TraceFault)
    → IsErrAnd r (λ y. y ≡ NoMemory) → Goes R t s e new r
memory_exit R t s e new (Ok x) h = absurd h
memory_exit R t s e new (Err y) h = subst (Refused R t s e) (sym h) tt

-- no room is left for what comes next
pub full_exit : (R : List Core) (t : List ℕ) (s : State) (e : End) (new : State) (r : Result End TraceFault) (x :
    TraceFault) → IsErrAnd r (λ y. y ≡ x)
    → (x ≡ TraceTooLong → s.limit ≤ s.spent) → ((o : Ending) (f : Evaluations) → Comes R t o f s e → s.spent < count f)
    → Goes R t s e new r
full_exit R t s e new (Ok z) x h l k = absurd h
full_exit R t s e new (Err y) x h l k = subst (Refused R t s e) (sym h) (refuses R t s e x l k)

refused_as : (R : List Core) (t : List ℕ) (a b : State) (x y : End) (f : TraceFault)
    → ((o : Ending) (g : Evaluations) → Comes R t o g a x → Comes R t o g b y) → b.limit ≡ a.limit
    → Refused R t b y f → Refused R t a x f
refused_as R t a b x y NoMemory k l h = tt
refused_as R t a b x y TraceTooLong k l h = λ o g c. let m = h o g (k o g c) in omega arith

pub then_goes : (R : List Core) (t : List ℕ) (a b new : State) (x y : End) (r : Result End TraceFault)
    → ((o : Ending) (f : Evaluations) → Comes R t o f a x → Comes R t o f b y) → b.limit ≡ a.limit
    → Goes R t b y new r → Goes R t a x new r
then_goes R t a b new x y (Ok z) k l h = then_steps R t a b new x y z k l h
then_goes R t a b new x y (Err f) k l h = refused_as R t a b x y f k l h

pub evaluated_less : (R : List Core) (t : List ℕ) (q : Core) (k : D.Kind) (place : ℕ) (s mid : State) (e : End) (new :
    State)
    → mid ≡ happened (V.Begins k place) (counted s) → s.spent < s.limit → Enters R t q place mid e new
    → left new + 1 ≤ left s
evaluated_less R t q k place s mid e new m lt h =
    let P : State → Type 0 = λ x. Enters R t q place x e new in
    let x = subst P m h in
    let a = x.spent in
    let b = x.limit in
    let c = x.tasks in
    less_by s.limit s.spent (length s.tasks) new.limit new.spent (length new.tasks) lt a b c
  where
    less_by : (limit spent tasks limit' spent' tasks' : ℕ) → spent < limit → spent' ≡ spent + 1 → limit' ≡ limit
        → tasks' ≤ tasks + 3 → 5 * (limit' - spent') + tasks' + 1 ≤ 5 * (limit - spent) + tasks
    less_by limit spent tasks limit' spent' tasks' lt a b c = omega arith

pub part_goes : (R : List Core) (t : List ℕ) (parts rest : Bor (List Peg)) (a : Bor Peg) (place : ℕ) (s mid new :
    State) (r : Result End TraceFault)
    → mid ≡ due (T.Parts rest) s → Goes R t (due (T.Evaluate a) mid) (E.At place) new r
    → rest.now ≡ drop 1 parts.now → 1 ≤ length parts.now → a.now ≡ get_or parts.now 0 a.now
    → Goes R t (due (T.Parts parts) s) (E.At place) new r
part_goes R t parts rest a place s mid new r m h e le f =
    let P : State → Type 0 = λ x. Goes R t (due (T.Evaluate a) x) (E.At place) new r in
    then_goes R t (due (T.Parts parts) s) (due (T.Evaluate a) (due (T.Parts rest) s)) new (E.At place) (E.At place) r
    (λ o g c. part_next R t parts rest a place s o g (first_and_rest parts.now a.now rest.now le f e) c) refl
    (subst P m h)

pub part_less : (parts : Bor (List Peg)) (s mid new : State) (r : Result End TraceFault) → mid ≡ due (T.Parts parts) s
    → OnOk r (left new + 1 ≤ left mid) → OnOk r (left new ≤ left s)
part_less parts s mid new (Ok x) m h = let e : left mid ≡ left s + 1 = ap left m ∙ omega arith in omega arith
part_less parts s mid new (Err x) m h = tt

pub no_more : (a b : ℕ) (r : Result End TraceFault) → OnOk r (a + 1 ≤ b) → OnOk r (a ≤ b)
no_more a b (Ok x) h = omega arith
no_more a b (Err x) h = tt

pub way_goes : (R : List Core) (t : List ℕ) (parts : Bor (List Peg)) (a : Bor Peg) (place : ℕ) (s new : State) (r :
    Result End TraceFault)
    → Goes R t (due (T.Evaluate a) s) (E.At place) new r → length parts.now ≡ 1 → a.now ≡ get_or parts.now 0 a.now
    → Goes R t (due (T.Ways parts place) s) E.Fails new r
way_goes R t parts a place s new r h le f =
    then_goes R t (due (T.Ways parts place) s) (due (T.Evaluate a) s) new E.Fails (E.At place) r
    (λ o g c. way_last R t parts a place s o g (only_item parts.now a.now le f) c) refl h

-- a choice of what is left has begun
entered : (R : List Core) (t : List ℕ) (parts : Bor (List Peg)) (place : ℕ) (s mid : State) (e : End) (new : State)
    → length parts.now ≢ 1 → mid ≡ happened (V.Begins K.Choice place) (counted s) → s.spent < s.limit → IsPlace t place
    → Stands t s
    → Chooses parts.now place mid e new → Enters R t (C.Choice (cores parts.now)) place mid e new
entered R t parts place s mid e new ne m lt pl st h =
    let S : State → Type 0 = Stands t in
    ways_in R t parts.now place mid e new (not_alone parts.now ne) pl
    (subst S (sym m) (stands_happened t (counted s) (V.Begins K.Choice place) pl (stands_counted t s lt st))) h

pub ways_go : (R : List Core) (t : List ℕ) (parts : Bor (List Peg)) (place : ℕ) (s mid : State) (e : End) (new : State)
    → length parts.now ≢ 1 → mid ≡ happened (V.Begins K.Choice place) (counted s) → s.spent < s.limit → IsPlace t place
    → Stands t s
    → Chooses parts.now place mid e new → Steps R t (due (T.Ways parts place) s) E.Fails new e
ways_go R t parts place s mid e new ne m lt pl st h =
    ways_next R t parts place s mid e new (not_alone parts.now ne) m
    (entered R t parts place s mid e new ne m lt pl st h)

pub ways_less : (R : List Core) (t : List ℕ) (parts : Bor (List Peg)) (place : ℕ) (s mid : State) (e : End) (new :
    State)
    → length parts.now ≢ 1 → mid ≡ happened (V.Begins K.Choice place) (counted s) → s.spent < s.limit → IsPlace t place
    → Stands t s
    → Chooses parts.now place mid e new → left new ≤ left s
ways_less R t parts place s mid e new ne m lt pl st h =
    let x = evaluated_less R t (C.Choice (cores parts.now)) K.Choice place s mid e new m lt
    (entered R t parts place s mid e new ne m lt pl st h) in omega arith

pub turn_steps : (R : List Core) (t : List ℕ) (a : Bor Peg) (place next : ℕ) (s m1 m2 new : State) (end e : End)
    → end ≡ E.At next → m1 ≡ counted s → s.spent < s.limit → m2 ≡ happened (V.Ends (E.At next)) m1 → e ≡ E.At next
    → new ≡ due (T.Evaluate a) (due (T.Turns a next) (happened (V.Begins K.Turn next) m2)) → EndStands t end
    → Stands t s
    → Steps R t (due (T.Turns a place) s) end new e
turn_steps R t a place next s m1 m2 new end e q h1 lt h2 he hn pl st =
    let go = λ (m : State). due (T.Evaluate a) (due (T.Turns a next) (happened (V.Begins K.Turn next) m)) in
    let n : new ≡ go (happened (V.Ends (E.At next)) (counted s)) = hn
    ∙ ap go (h2 ∙ ap (happened (V.Ends (E.At next))) h1) in
    let P : End → Type 0 = λ x. Steps R t (due (T.Turns a place) s) x new e in
    let S : End → Type 0 = EndStands t in
    subst P (sym q) (turn_ends R t a place next s new e lt (subst S q pl) st he n)

pub turn_less : (a : Bor Peg) (next : ℕ) (s m1 m2 new : State) (end : End) → m1 ≡ counted s → s.spent < s.limit
    → m2 ≡ happened (V.Ends end) m1
    → new ≡ due (T.Evaluate a) (due (T.Turns a next) (happened (V.Begins K.Turn next) m2)) → left new ≤ left s
turn_less a next s m1 m2 new end h1 lt h2 hn =
    let go = λ (m : State). due (T.Evaluate a) (due (T.Turns a next) (happened (V.Begins K.Turn next) m)) in
    let n : left new ≡ left (go (happened (V.Ends end) (counted s))) =
    ap left (hn ∙ ap go (h2 ∙ ap (happened (V.Ends end)) h1)) in
    let m = less_by s.limit s.spent (length s.tasks) lt in
    omega arith
  where
    less_by : (limit spent tasks : ℕ) → spent < limit
        → 5 * (limit - (spent + 1)) + suc (suc tasks) ≤ 5 * (limit - spent) + tasks
    less_by limit spent tasks lt = omega arith

pub left_same : (event : Event) (s new : State) → new ≡ happened event s → left new ≤ left s
left_same event s new h = let e : left new ≡ left s = ap left h in omega arith

pub turn_failed : (R : List Core) (t : List ℕ) (a : Bor Peg) (place : ℕ) (s new : State) (end : End)
    → end ≡ E.Fails → IsPlace t place → Stands t s → new ≡ happened V.Vanishes s
    → Steps R t (due (T.Turns a place) s) end new (E.At place)
turn_failed R t a place s new end q pl st n =
    let P : End → Type 0 = λ x. Steps R t (due (T.Turns a place) s) x new (E.At place) in
    subst P (sym q) (turn_fails R t a place s new pl st n)

pub turn_halted : (R : List Core) (t : List ℕ) (a : Bor Peg) (place halt : ℕ) (s new : State) (end : End)
    → end ≡ E.Halts halt → EndStands t end → Stands t s → new ≡ happened V.Vanishes s
    → Steps R t (due (T.Turns a place) s) end new end
turn_halted R t a place halt s new end q pl st n =
    let P : End → Type 0 = λ x. Steps R t (due (T.Turns a place) s) x new x in
    let S : End → Type 0 = EndStands t in
    subst P (sym q) (turn_halts R t a place halt s new (subst S q pl) st n)

-- one length has begun, and the others are due
pub back_steps : (R : List Core) (t : List ℕ) (l : Lengths) (c start : ℕ) (s m1 m2 new : State) (e : End)
    → l.count ≡ suc c → TaskStands t (T.Lengths l) → Stands t s
    → m1 ≡ happened (V.Begins (K.Length l.length) l.place) (counted s) → s.spent < s.limit
    → m2 ≡ due (T.Lengths (shorter l c)) m1 → (nat_le l.length (index t l.place) ≡ true)
    × (index t start ≡ index t l.place - l.length) × IsPlace t start
    → e ≡ E.At start → new ≡ due (T.Evaluate l.body) (due (T.Meets l.place) (due T.Close m2))
    → Steps R t (due (T.Lengths l) s) E.Fails new e
back_steps R t l c start s m1 m2 new e w h st h1 lt h2 b q hn =
    let go = λ (m : State). due (T.Evaluate l.body) (due (T.Meets l.place) (due T.Close m)) in
    length_back R t l c start s new e w h lt st b.0 b.1 b.2 q (hn ∙ ap go (h2 ∙ ap (due (T.Lengths (shorter l c))) h1))

pub short_steps : (R : List Core) (t : List ℕ) (l : Lengths) (c : ℕ) (s m1 m2 new : State) (e : End)
    → l.count ≡ suc c → TaskStands t (T.Lengths l) → Stands t s
    → m1 ≡ happened (V.Begins (K.Length l.length) l.place) (counted s) → s.spent < s.limit
    → m2 ≡ due (T.Lengths (shorter l c)) m1 → nat_le l.length (index t l.place) ≡ false
    → e ≡ E.Fails → new ≡ happened (V.Ends E.Fails) m2 → Steps R t (due (T.Lengths l) s) E.Fails new e
short_steps R t l c s m1 m2 new e w h st h1 lt h2 b q hn =
    length_fails R t l c s new e w h lt st b q (hn
    ∙ ap (happened (V.Ends E.Fails)) (h2 ∙ ap (due (T.Lengths (shorter l c))) h1))

pub back_less : (l m : Lengths) (k : D.Kind) (place start : ℕ) (s m1 m2 new : State)
    → m1 ≡ happened (V.Begins k place) (counted s) → s.spent < s.limit
    → m2 ≡ due (T.Lengths m) m1 → new ≡ due (T.Evaluate l.body) (due (T.Meets start) (due T.Close m2))
    → left new ≤ left s
back_less l m k place start s m1 m2 new h1 lt h2 hn =
    let go = λ (x : State). due (T.Evaluate l.body) (due (T.Meets start) (due T.Close x)) in
    let n : left new ≡ left (go (due (T.Lengths m) (happened (V.Begins k place) (counted s)))) =
    ap left (hn ∙ ap go (h2 ∙ ap (due (T.Lengths m)) h1)) in
    let x = less_by s.limit s.spent (length s.tasks) lt in
    omega arith
  where
    less_by : (limit spent tasks : ℕ) → spent < limit
        → 5 * (limit - (spent + 1)) + suc (suc (suc (suc tasks))) ≤ 5 * (limit - spent) + tasks
    less_by limit spent tasks lt = omega arith

pub short_less : (m : Lengths) (k : D.Kind) (event : Event) (place : ℕ) (s m1 m2 new : State)
    → m1 ≡ happened (V.Begins k place) (counted s) → s.spent < s.limit
    → m2 ≡ due (T.Lengths m) m1 → new ≡ happened event m2 → left new ≤ left s
short_less m k event place s m1 m2 new h1 lt h2 hn =
    let n : left new ≡ left (happened event (due (T.Lengths m) (happened (V.Begins k place) (counted s)))) =
    ap left (hn ∙ ap (happened event) (h2 ∙ ap (due (T.Lengths m)) h1)) in
    let x = less_by s.limit s.spent (length s.tasks) lt in
    omega arith
  where
    less_by : (limit spent tasks : ℕ) → spent < limit
        → 5 * (limit - (spent + 1)) + suc tasks ≤ 5 * (limit - spent) + tasks
    less_by limit spent tasks lt = omega arith

-- ---- all tasks

pub rests : (R : List Core) (t : List ℕ) (s : State) (e : End) → EndStands t e → Stands t s → Steps R t s e s e
rests R t s e a st = record { comes = λ o f h. h; stands = st; ends = a; limit = refl }

pub and_then : (R : List Core) (t : List ℕ) (a b c d : State) (x y z : End) → Steps R t a x b y → b ≡ c
    → Steps R t c y d z → Steps R t a x d z
and_then R t a b c d x y z h e k =
    let P : State → Type 0 = λ s. Steps R t s y d z in
    then_steps R t a b d x y z h.comes h.limit (subst P (sym e) k)

pub and_refused : (R : List Core) (t : List ℕ) (a b c : State) (x y : End) (f : TraceFault) → Steps R t a x b y → b ≡ c
    → Refused R t c y f → Refused R t a x f
and_refused R t a b c x y f h e k =
    let P : State → Type 0 = λ s. Refused R t s y f in
    refused_as R t a b x y f h.comes h.limit (subst P (sym e) k)

pub all_done : (R : List Core) (t : List ℕ) (a b : State) (x y : End) (o : Ending) (f : Evaluations) → Steps R t a x b y
    → b.tasks ≡ [] → Comes R t o f a x → Done t o f b y
all_done R t a b x y o f h e c =
    let P : List Task → Type 0 = λ ts. DoesAll R t o f ts (end_seen t y) (standing t b.events) b.spent in
    let k = subst P e (h.comes o f c) in
    record { ending = k.0; made = k.1; spent = k.2 }

pub refused_exit : (R : List Core) (t : List ℕ) (s : State) (e : End) (r : Result End TraceFault) (x : TraceFault)
    → IsErrAnd r (λ y. y ≡ x) → Refused R t s e x → IfErr r (Refused R t s e)
refused_exit R t s e (Ok z) x h k = tt
refused_exit R t s e (Err y) x h k = subst (Refused R t s e) (sym h) k

-- a task that isn't for such an end is left out
pub skips : (R : List Core) (t : List ℕ) (task shape : Task) (s : State) (end mark : End) → task ≡ shape → end ≡ mark
    → EndStands t end → Stands t s
    → ((o : Ending) (f : Evaluations) → Comes R t o f (due shape s) mark → Comes R t o f s mark)
    → Steps R t (due task s) end s end
skips R t task shape s end mark p q a st k =
    let P : Task → Type 0 = λ y. Steps R t (due y s) end s end in
    let Q : End → Type 0 = λ y. Steps R t (due shape s) y s y in
    let S : End → Type 0 = EndStands t in
    subst P (sym p) (subst Q (sym q) (stays R t shape s mark (subst S q a) st k))

-- a task that makes another end of it
pub changes : (R : List Core) (t : List ℕ) (task shape : Task) (s : State) (end next : End) (e : Ending) → task ≡ shape
    → end_seen t next ≡ e
    → ((o : Ending) (f : Evaluations) → Comes R t o f (due shape s) end
    → DoesAll R t o f s.tasks e (standing t s.events) s.spent) → EndStands t next → Stands t s
    → Steps R t (due task s) end s next
changes R t task shape s end next e p q k a st =
    let P : Task → Type 0 = λ y. Steps R t (due y s) end s next in
    subst P (sym p)
    (record {
      comes = λ o f h. let E : Ending → Type 0 = λ y. DoesAll R t o f s.tasks y (standing t s.events) s.spent in
          subst E (sym q) (k o f h);
      stands = st;
      ends = a;
      limit = refl;
    })
