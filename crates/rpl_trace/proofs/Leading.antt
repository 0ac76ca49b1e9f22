-- What an evaluation leads to, its parts lead to one by one.
use Rattle.std.proofs.Common.{◌≡◌, ◌≢◌, ℕ, zero, suc, ◌+◌, ◌-◌, List, Option, Some, None, refl, sym, ap, subst, ◌∙◌}
use Rattle.std.proofs.Common.{arith}
use Rattle.std.specs.Prelude.{Bool, true, false, nat_eq, nat_le, if◌then◌else◌, slice_get}
use Rattle.rpl_core.specs.Core as C
use Rattle.rpl_core.specs.Core.{Core, Cores, NoMore}
use Rattle.rpl_core.specs.Forest.{Forest, NoTree}
use Rattle.rpl_core.specs.Meaning as M
use Rattle.rpl_core.specs.Meaning.{Outcome, Open, Fail, At, HaltAt, more, prefixed, then_do, or_else, turns}
use Rattle.rpl_core.specs.Meaning.{if_fails, if_matches, ends_here, lengths, called}
use Rattle.rpl_trace.specs.Evaluations.{Evaluations, NoneLeft, One, Ending, Fails, EndsAt, HaltsAt, Turn, Length}
use Rattle.rpl_trace.specs.Evaluations.{ending, joined, inside_of, where_ends, where_fails, turns_made, where_no_end}
use Rattle.rpl_trace.specs.Evaluations.{length_ending, lengths_made, called_made, count}
use Rattle.rpl_trace.specs.Kinds.{kind_of}
use Rattle.rpl_trace.specs.inside.Levels.{below, under, core_at, made_at, all_at, all_made, first_at, first_made}
use Rattle.rpl_trace.specs.inside.Levels.{AreAlike, is_alone}
use Rattle.rpl_trace.specs.inside.Standing.{Standing, Inside, add, ended}
use Rattle.rpl_trace.specs.inside.Tasks.{Onward, Leads, LeadsCore, LeadsAll, LeadsFirst, LeadsTurns, LeadsInside}
use Rattle.rpl_trace.specs.inside.Tasks.{LeadsLengths, OnMatch, OnFailure, Turned, if_failed, if_matched, if_met}
use Rattle.rpl_trace.proofs.Levels.{peg_is, evaluations_are}
use Rattle.rpl_trace.proofs.Standings.{joined_none, add_none, add_add, count_joined}

-- the evaluation under way then ends as well
abbrev pub closing : Onward → Onward
closing onward e s v = onward e (ended e s) v

pub moved : (onward : Onward) (e g : Ending) (s r : Standing) (v w : ℕ) → e ≡ g → s ≡ r → v ≡ w → onward e s v
    → onward g r w
moved onward e g s r v w p q z h =
    subst (λ x. onward x r w) p (subst (λ y. onward e y w) q (subst (λ u. onward e s u) z h))

-- the same evaluations, of an outcome that ends as g makes of its own
through : (onward : Onward) (g : Ending → Ending) (o u : Outcome) (f : Evaluations) (s : Standing) (v : ℕ)
    → (o ≢ Open → u ≢ Open) → ending o ≡ g (ending u) → Leads onward o f s v → Leads (λ e. onward (g e)) u f s v
through onward g o u f s v k e h = (k h.0, subst (λ x. onward x (add s f) (v + count f)) e h.1)

ending_more : (v : ℕ) (o : Outcome) → ending (more v o) ≡ ending o
ending_more v Open = refl
ending_more v (Fail w) = refl
ending_more v (At w j f) = refl
ending_more v (HaltAt w j f) = refl

ending_prefixed : (v : ℕ) (f : Forest) (o : Outcome) → ending (prefixed v f o) ≡ ending o
ending_prefixed v f Open = refl
ending_prefixed v f (Fail w) = refl
ending_prefixed v f (At w j g) = refl
ending_prefixed v f (HaltAt w j g) = refl

ending_under : (c : List ℕ) (i : ℕ) (o : Outcome) → ending (M.under c i o) ≡ ending o
ending_under c i Open = refl
ending_under c i (Fail w) = refl
ending_under c i (At w j f) = refl
ending_under c i (HaltAt w j f) = refl

ending_fails : (i : ℕ) (o : Outcome) → ending (if_fails o i) ≡ if_failed (ending o) i
ending_fails i Open = refl
ending_fails i (Fail w) = refl
ending_fails i (At w j f) = refl
ending_fails i (HaltAt w j f) = refl

ending_matches : (i : ℕ) (o : Outcome) → ending (if_matches o i) ≡ if_matched (ending o) i
ending_matches i Open = refl
ending_matches i (Fail w) = refl
ending_matches i (At w j f) = refl
ending_matches i (HaltAt w j f) = refl

-- where a part is open, so is the whole
shut : (F : Outcome → Outcome) → F Open ≡ Open → (o : Outcome) → F o ≢ Open → o ≢ Open
shut F e o h s = h (ap F s ∙ e)

-- ---- what is inside an evaluation

pub leaf : (onward : Onward) (o : Outcome) (e : Ending) (s : Standing) (v : ℕ) → e ≡ ending o
    → Leads (closing onward) o NoneLeft s v → onward e (ended e s) v
leaf onward o e s v q h =
    moved (closing onward) (ending o) e (add s NoneLeft) s (v + count NoneLeft) v (sym q) (add_none s) (omega arith) h.1

pub seq : (R : List Core) (t : List ℕ) (onward : Onward) (ps : Cores) (i : ℕ) (s : Standing) (v : ℕ)
    → LeadsInside R t onward (C.Seq ps) i s v → LeadsAll R t (closing onward) ps i s v
seq R t onward ps i s v (n, h) = (
  n,
  through (closing onward) (λ e. e) (more 1 (all_at n R t ps i)) (all_at n R t ps i) (all_made n R t ps i) s v
      (shut (more 1) refl (all_at n R t ps i)) (ending_more 1 (all_at n R t ps i)) h,
)

pub capture : (R : List Core) (t : List ℕ) (onward : Onward) (c : List ℕ) (p : Core) (i : ℕ) (s : Standing) (v : ℕ)
    → LeadsInside R t onward (C.Capture c p) i s v → LeadsCore R t (closing onward) p i s v
capture R t onward c p i s v (n, h) = (
  n,
  through (closing onward) (λ e. e) (M.under c i (core_at n R t p i)) (core_at n R t p i) (made_at n R t p i) s v
      (shut (M.under c i) refl (core_at n R t p i)) (ending_under c i (core_at n R t p i)) h,
)

pub negated : (R : List Core) (t : List ℕ) (onward : Onward) (p : Core) (i : ℕ) (s : Standing) (v : ℕ)
    → LeadsInside R t onward (C.Not p) i s v → LeadsCore R t (λ e. closing onward (if_failed e i)) p i s v
negated R t onward p i s v (n, h) = (
  n,
  through (closing onward) (λ e. if_failed e i) (if_fails (core_at n R t p i) i) (core_at n R t p i)
      (made_at n R t p i) s v (shut (λ o. if_fails o i) refl (core_at n R t p i)) (ending_fails i (core_at n R t p i))
      h,
)

pub affirmed : (R : List Core) (t : List ℕ) (onward : Onward) (p : Core) (i : ℕ) (s : Standing) (v : ℕ)
    → LeadsInside R t onward (C.And p) i s v → LeadsCore R t (λ e. closing onward (if_matched e i)) p i s v
affirmed R t onward p i s v (n, h) = (
  n,
  through (closing onward) (λ e. if_matched e i) (if_matches (core_at n R t p i) i) (core_at n R t p i)
      (made_at n R t p i) s v (shut (λ o. if_matches o i) refl (core_at n R t p i))
      (ending_matches i (core_at n R t p i)) h,
)

pub behind : (R : List Core) (t : List ℕ) (onward : Onward) (l m : ℕ) (p : Core) (i : ℕ) (s : Standing) (v : ℕ)
    → LeadsInside R t onward (C.Behind l m p) i s v → LeadsLengths R t (closing onward) p (m + 1 - l) l i s v
behind R t onward l m p i s v (n, h) =
    let o = lengths (m + 1 - l) l (core_at n R t p) i in (
      n,
      through (closing onward) (λ e. e) (more 1 o) o (lengths_made (m + 1 - l) l (core_at n R t p) (made_at n R t p)
          i) s v (shut (more 1) refl o) (ending_more 1 o) h,
    )

-- the core at the depth below
down : (R : List Core) (t : List ℕ) (onward : Onward) (n : ℕ) (p : Core) (i : ℕ) (s : Standing) (v : ℕ)
    → Leads onward (below n R t p i) (under n R t p i) s v → LeadsCore R t onward p i s v
down R t onward zero p i s v h = absurd (h.0 refl)
down R t onward (suc n) p i s v h =
    let P : Outcome → Type 0 = λ o. Leads onward o (made_at n R t p i) s v in
    let Q : Evaluations → Type 0 = λ f. Leads onward (below (suc n) R t p i) f s v in
    (n, subst P (peg_is n R t p i) (subst Q (evaluations_are n R t p i) h))

down_inside : (R : List Core) (t : List ℕ) (onward : Onward) (n : ℕ) (p : Core) (i : ℕ) (s : Standing) (v : ℕ)
    → Leads onward (below n R t (C.Many p) i) (inside_of (under n R t (C.Many p) i)) s v → LeadsTurns R t onward p i s v
down_inside R t onward zero p i s v h = absurd (h.0 refl)
down_inside R t onward (suc n) p i s v h =
    let P : Outcome → Type 0 = λ o. Leads onward o (inside_of (made_at n R t (C.Many p) i)) s v in
    let Q : Evaluations → Type 0 = λ f. Leads onward (below (suc n) R t (C.Many p) i) (inside_of f) s v in
    (n, subst P (peg_is n R t (C.Many p) i) (subst Q (evaluations_are n R t (C.Many p) i) h))

called_by : (R : List Core) (t : List ℕ) (onward : Onward) (n : ℕ) (o : Option Core) (q : Core) (i : ℕ) (s :
    Standing) (v : ℕ) → o ≡ Some q
    → Leads onward (called o (λ p. below n R t p i)) (called_made o (λ p. under n R t p i)) s v
    → LeadsCore R t onward q i s v
called_by R t onward n o q i s v e h =
    let P : Option Core → Type 0 =
    λ x. Leads onward (called x (λ p. below n R t p i)) (called_made x (λ p. under n R t p i)) s v in
    let b = below n R t q i in
    down R t onward n q i s v (through onward (λ x. x) (more 1 b) b (under n R t q i) s v (shut (more 1) refl b)
    (ending_more 1 b) (subst P e h))

pub call : (R : List Core) (t : List ℕ) (onward : Onward) (r : ℕ) (q : Core) (i : ℕ) (s : Standing) (v : ℕ)
    → slice_get R r ≡ Some q → LeadsInside R t onward (C.Call r) i s v → LeadsCore R t (closing onward) q i s v
call R t onward r q i s v e (n, h) = called_by R t (closing onward) n (slice_get R r) q i s v e h

not_called : (R : List Core) (t : List ℕ) (onward : Onward) (n : ℕ) (o : Option Core) (i : ℕ) (f : Evaluations) (s :
    Standing) (v : ℕ) → o ≡ None → Leads onward (called o (λ p. below n R t p i)) f s v → ⊥
not_called R t onward n o i f s v e h = h.0 (ap (λ x. called x (λ p. below n R t p i)) e)

pub no_call : (R : List Core) (t : List ℕ) (onward : Onward) (r i : ℕ) (s : Standing) (v : ℕ) → slice_get R r ≡ None
    → LeadsInside R t onward (C.Call r) i s v → ⊥
no_call R t onward r i s v e (n, h) =
    not_called R t (closing onward) n (slice_get R r) i (called_made (slice_get R r) (λ p. under n R t p i)) s v e h

-- a choice of one part is that part; any other core is one evaluation
one_of : (n : ℕ) (R : List Core) (t : List ℕ) (p : Core) (i : ℕ) → is_alone p ≡ false
    → made_at n R t p i ≡ One (kind_of p) i (ending (core_at n R t p i)) (inside_of (made_at n R t p i)) NoneLeft
one_of n R t (C.Set s) i h = refl
one_of n R t (C.Seq ps) i h = refl
one_of n R t (C.Choice NoMore) i h = refl
one_of n R t (C.Choice (C.Then p NoMore)) i h = absurd (cc)
one_of n R t (C.Choice (C.Then p (C.Then q ps))) i h = refl
one_of n R t (C.Many p) i h = refl
one_of n R t (C.Not p) i h = refl
one_of n R t (C.And p) i h = refl
one_of n R t (C.Behind l m p) i h = refl
one_of n R t (C.Call r) i h = refl
one_of n R t (C.Capture c p) i h = refl
one_of n R t (C.Note x) i h = refl
one_of n R t C.Start i h = refl
one_of n R t C.End i h = refl
one_of n R t C.Halt i h = refl

pub begins : (R : List Core) (t : List ℕ) (onward : Onward) (p : Core) (i : ℕ) (s : Standing) (v : ℕ)
    → is_alone p ≡ false → LeadsCore R t onward p i s v
    → LeadsInside R t onward p i (Inside s (kind_of p) i NoneLeft) (v + 1)
begins R t onward p i s v a (n, h) =
    let o = core_at n R t p i in
    let f = inside_of (made_at n R t p i) in
    let P : Evaluations → Type 0 = λ x. Leads onward o x s v in
    let k = subst P (one_of n R t p i a) h in
    (n, (k.0, subst (λ w. onward (ending o) (add s (One (kind_of p) i (ending o) f NoneLeft)) w) (omega arith) k.1))

pub alike : (R : List Core) (t : List ℕ) (onward : Onward) (p q : Core) (i : ℕ) (s : Standing) (v : ℕ) → AreAlike p q
    → LeadsCore R t onward p i s v → LeadsCore R t onward q i s v
alike R t onward p q i s v a (n, h) =
    let P : Outcome → Type 0 = λ o. Leads onward o (made_at n R t q i) s v in
    let Q : Evaluations → Type 0 = λ f. Leads onward (core_at n R t p i) f s v in
    (n, subst P (a.outcome n R t i) (subst Q (a.made n R t i) h))

-- ---- one part after the other

-- the evaluations f, and then those of the rest
joins : (onward : Onward) (o : Outcome) (f g : Evaluations) (s : Standing) (v : ℕ) → Leads onward o (joined f g) s v
    → Leads onward o g (add s f) (v + count f)
joins onward o f g s v h = (
  h.0,
  moved onward (ending o) (ending o) (add s (joined f g)) (add (add s f) g) (v + count (joined f g))
      (v + count f + count g) refl (sym (add_add s f g)) (let c = count_joined f g in omega arith) h.1,
)

-- nothing after them
stops : (onward : Onward) (e : Ending) (f : Evaluations) (s : Standing) (v : ℕ)
    → onward e (add s (joined f NoneLeft)) (v + count (joined f NoneLeft)) → onward e (add s f) (v + count f)
stops onward e f s v h = subst (λ x. onward e (add s x) (v + count x)) (joined_none f) h

then_parts : (R : List Core) (t : List ℕ) (onward : Onward) (n : ℕ) (o : Outcome) (f : Evaluations) (ps : Cores) (s :
    Standing) (v : ℕ)
    → Leads onward (then_do o (all_at n R t ps)) (joined f (where_ends o (all_made n R t ps))) s v
    → Leads (λ e x w. OnMatch e (λ j. LeadsAll R t onward ps j x w) (onward e x w)) o f s v
then_parts R t onward n Open f ps s v h = absurd (h.0 refl)
then_parts R t onward n (Fail w) f ps s v h = (λ e. absurd (cc), stops onward Fails f s v h.1)
then_parts R t onward n (At w j x) f ps s v h =
    let o = all_at n R t ps j in
    let g = all_made n R t ps j in (
      λ e. absurd (cc),
      (
        n,
        joins onward o f g s v (through onward (λ e. e) (prefixed w x o) o (joined f g) s v (shut (prefixed w x) refl o)
            (ending_prefixed w x o) h),
      ),
    )
then_parts R t onward n (HaltAt w j x) f ps s v h = (λ e. absurd (cc), stops onward (HaltsAt j) f s v h.1)

pub first_part : (R : List Core) (t : List ℕ) (onward : Onward) (p : Core) (ps : Cores) (i : ℕ) (s : Standing) (v : ℕ)
    → LeadsAll R t onward (C.Then p ps) i s v
    → LeadsCore R t (λ e x w. OnMatch e (λ j. LeadsAll R t onward ps j x w) (onward e x w)) p i s v
first_part R t onward p ps i s v (n, h) = (n, then_parts R t onward n (core_at n R t p i) (made_at n R t p i) ps s v h)

pub no_parts : (R : List Core) (t : List ℕ) (onward : Onward) (i : ℕ) (s : Standing) (v : ℕ)
    → LeadsAll R t onward NoMore i s v → onward (EndsAt i) s v
no_parts R t onward i s v (n, h) =
    moved onward (EndsAt i) (EndsAt i) (add s NoneLeft) s (v + count NoneLeft) v refl (add_none s) (omega arith) h.1

-- ---- a choice

else_ways : (R : List Core) (t : List ℕ) (onward : Onward) (n : ℕ) (o : Outcome) (f : Evaluations) (ps : Cores) (i :
    ℕ) (s : Standing) (v : ℕ)
    → Leads onward (or_else o i (first_at n R t ps)) (joined f (where_fails o (first_made n R t ps i))) s v
    → Leads (λ e x w. OnFailure e (LeadsFirst R t onward ps i x w) (onward e x w)) o f s v
else_ways R t onward n Open f ps i s v h = absurd (h.0 refl)
else_ways R t onward n (Fail w) f ps i s v h =
    let o = first_at n R t ps i in
    let g = first_made n R t ps i in (
      λ e. absurd (cc),
      (
        n,
        joins onward o f g s v (through onward (λ e. e) (more (1 + w) o) o (joined f g) s v (shut (more (1 + w)) refl o)
            (ending_more (1 + w) o) h),
      ),
    )
else_ways R t onward n (At w j x) f ps i s v h = (λ e. absurd (cc), stops onward (EndsAt j) f s v h.1)
else_ways R t onward n (HaltAt w j x) f ps i s v h = (λ e. absurd (cc), stops onward (HaltsAt j) f s v h.1)

pub first_way : (R : List Core) (t : List ℕ) (onward : Onward) (p q : Core) (ps : Cores) (i : ℕ) (s : Standing) (v : ℕ)
    → LeadsInside R t onward (C.Choice (C.Then p (C.Then q ps))) i s v
    → LeadsCore R t (λ e x w. OnFailure e (LeadsFirst R t (closing onward) (C.Then q ps) i x w) (closing onward e x w))
    p i s v
first_way R t onward p q ps i s v (n, h) =
    (n, else_ways R t (closing onward) n (core_at n R t p i) (made_at n R t p i) (C.Then q ps) i s v h)

-- ---- turns

turn_by : (R : List Core) (t : List ℕ) (onward : Onward) (n : ℕ) (o : Outcome) (f : Evaluations) (p : Core) (i : ℕ) (s :
    Standing) (v : ℕ)
    → Leads onward (turns o i (below n R t (C.Many p))) (turns_made o i f (under n R t (C.Many p))) s v
    → Leads (Turned R t p i onward) o f (Inside s Turn i NoneLeft) v
turn_by R t onward n Open f p i s v h = absurd (h.0 refl)
turn_by R t onward n (Fail w) f p i s v h = (λ e. absurd (cc), h.1)
turn_by R t onward n (At w j x) f p i s v h =
    let o = below n R t (C.Many p) j in
    let g = inside_of (under n R t (C.Many p) j) in
    let k = through onward (λ e. e) (prefixed (1 + w) x o) o (One Turn i (EndsAt j) f g) s v
    (shut (prefixed (1 + w) x) refl o) (ending_prefixed (1 + w) x o) h in
    let m = joins onward o (One Turn i (EndsAt j) f NoneLeft) g s v k in
    let P : ℕ → Type 0 = λ w. Leads onward o g (add s (One Turn i (EndsAt j) f NoneLeft)) w in (
      λ e. absurd (cc),
      down_inside R t onward n p j (add s (One Turn i (EndsAt j) f NoneLeft)) (v + count f + 1)
          (subst P (omega arith) m),
    )
turn_by R t onward n (HaltAt w j x) f p i s v h = (λ e. absurd (cc), h.1)

pub turn : (R : List Core) (t : List ℕ) (onward : Onward) (p : Core) (i : ℕ) (s : Standing) (v : ℕ)
    → LeadsTurns R t onward p i s v → LeadsCore R t (Turned R t p i onward) p i (Inside s Turn i NoneLeft) v
turn R t onward p i s v (n, h) = (n, turn_by R t onward n (core_at n R t p i) (made_at n R t p i) p i s v h)

-- ---- lengths

-- after a length at i: the other lengths, where it failed
abbrev pub Shorter : List Core → List ℕ → Onward → Core → ℕ → ℕ → ℕ → Onward
Shorter R t onward p count k i e s v = OnFailure e (LeadsLengths R t onward p count k i s v) (onward e s v)

-- a length that failed, and then the others
next_length : (R : List Core) (t : List ℕ) (onward : Onward) (n c k : ℕ) (p : Core) (i w : ℕ) (f : Evaluations) (s :
    Standing) (v : ℕ)
    → Leads onward (more w (lengths c (k + 1) (core_at n R t p) i))
    (One (Length k) i Fails f (lengths_made c (k + 1) (core_at n R t p) (made_at n R t p) i)) s v
    → LeadsLengths R t onward p c (k + 1) i (add s (One (Length k) i Fails f NoneLeft)) (v + 1 + count f)
next_length R t onward n c k p i w f s v h =
    let o = lengths c (k + 1) (core_at n R t p) i in
    let g = lengths_made c (k + 1) (core_at n R t p) (made_at n R t p) i in
    let one = One (Length k) i Fails f NoneLeft in
    let m = joins onward o one g s v (through onward (λ e. e) (more w o) o (joined one g) s v (shut (more w) refl o)
    (ending_more w o) h) in
    let P : ℕ → Type 0 = λ x. Leads onward o g (add s one) x in
    (n, subst P (omega arith) m)

length_if : (R : List Core) (t : List ℕ) (onward : Onward) (n c k : ℕ) (p : Core) (i w : ℕ) (b : Bool) (f :
    Evaluations) (s : Standing) (v : ℕ)
    → Leads onward (if b then At (1 + w) i NoTree else more (1 + w) (lengths c (k + 1) (core_at n R t p) i))
    (One (Length k) i (if b then EndsAt i else Fails) f (if b then NoneLeft
    else lengths_made c (k + 1) (core_at n R t p) (made_at n R t p) i)) s v
    → closing (Shorter R t onward p c (k + 1) i) (if b then EndsAt i else Fails) (Inside s (Length k) i f)
    (v + 1 + count f)
length_if R t onward n c k p i w true f s v h =
    subst (λ x. onward (EndsAt i) (add s (One (Length k) i (EndsAt i) f NoneLeft)) x) (omega arith) h.1
length_if R t onward n c k p i w false f s v h = next_length R t onward n c k p i (1 + w) f s v h

length_by : (R : List Core) (t : List ℕ) (onward : Onward) (n c k : ℕ) (p : Core) (i : ℕ) (o : Outcome) (f :
    Evaluations) (s : Standing) (v : ℕ)
    → Leads onward (ends_here o i (lengths c (k + 1) (core_at n R t p) i))
    (One (Length k) i (length_ending o i) f
    (where_no_end o i (lengths_made c (k + 1) (core_at n R t p) (made_at n R t p) i))) s v
    → Leads (λ e. closing (Shorter R t onward p c (k + 1) i) (if_met e i)) o f (Inside s (Length k) i NoneLeft) (v + 1)
length_by R t onward n c k p i Open f s v h = absurd (h.0 refl)
length_by R t onward n c k p i (Fail w) f s v h = (λ e. absurd (cc), next_length R t onward n c k p i (1 + w) f s v h)
length_by R t onward n c k p i (At w j x) f s v h =
    (λ e. absurd (cc), length_if R t onward n c k p i w (nat_eq j i) f s v h)
length_by R t onward n c k p i (HaltAt w j x) f s v h =
    (λ e. absurd (cc), next_length R t onward n c k p i (1 + w) f s v h)

-- what a length leads to, where enough characters stand before the place and where too few do
abbrev AtLength : (R : List Core) (t : List ℕ) (onward : Onward) (n c k : ℕ) (p : Core) (i : ℕ) (s : Standing) (v : ℕ)
    → Bool → Type 0
AtLength R t onward n c k p i s v enough =
    let others = lengths c (k + 1) (core_at n R t p) i in
    let g = lengths_made c (k + 1) (core_at n R t p) (made_at n R t p) i in
    let o = core_at n R t p (i - k) in
    let f = made_at n R t p (i - k) in
    Leads onward (if enough then ends_here o i others else more 1 others)
    (if enough then One (Length k) i (length_ending o i) f (where_no_end o i g) else One (Length k) i Fails NoneLeft g)
    s v

pub length_tried : (R : List Core) (t : List ℕ) (onward : Onward) (c k : ℕ) (p : Core) (i : ℕ) (s : Standing) (v : ℕ)
    → nat_le k i ≡ true → LeadsLengths R t onward p (suc c) k i s v
    → LeadsCore R t (λ e. closing (Shorter R t onward p c (k + 1) i) (if_met e i)) p (i - k)
    (Inside s (Length k) i NoneLeft) (v + 1)
length_tried R t onward c k p i s v e (n, h) = (
  n,
  length_by R t onward n c k p i (core_at n R t p (i - k)) (made_at n R t p (i - k)) s v
      (subst (AtLength R t onward n c k p i s v) e h),
)

pub length_short : (R : List Core) (t : List ℕ) (onward : Onward) (c k : ℕ) (p : Core) (i : ℕ) (s : Standing) (v : ℕ)
    → nat_le k i ≡ false → LeadsLengths R t onward p (suc c) k i s v
    → LeadsLengths R t onward p c (k + 1) i (add s (One (Length k) i Fails NoneLeft NoneLeft)) (v + 1)
length_short R t onward c k p i s v e (n, h) =
    let Q : ℕ → Type 0 = λ x. LeadsLengths R t onward p c (k + 1) i (add s (One (Length k) i Fails NoneLeft NoneLeft)) x
    in
    subst Q (omega arith)
    (next_length R t onward n c k p i 1 NoneLeft s v (subst (AtLength R t onward n c k p i s v) e h))

pub no_lengths : (R : List Core) (t : List ℕ) (onward : Onward) (k : ℕ) (p : Core) (i : ℕ) (s : Standing) (v : ℕ)
    → LeadsLengths R t onward p 0 k i s v → onward Fails s v
no_lengths R t onward k p i s v (n, h) =
    moved onward Fails Fails (add s NoneLeft) s (v + count NoneLeft) v refl (add_none s) (omega arith) h.1
