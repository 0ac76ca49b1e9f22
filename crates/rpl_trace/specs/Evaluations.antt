-- The evaluations that an outcome makes (Ford 2004, section 3.3), as trees: under each evaluation those that it makes
-- for its own, in the order in which they begin. What a part leads to is the meaning's own word: nothing is evaluated
-- here.
use Rattle.std.specs.Prelude.{ℕ, zero, suc, ◌+◌, ◌-◌, nat_eq, nat_le, if◌then◌else◌}
use Rattle.std.specs.Prelude.{List, Option, slice_get}
use Rattle.std.specs.Option.{option_map_or}
use Rattle.regex_class.specs.Ranges.{Range}
use Rattle.rpl_core.specs.Core.{Core, Cores, NoMore, Then}
use Rattle.rpl_core.specs.Core as C
use Rattle.rpl_core.specs.Meaning.{Outcome, Open, Fail, At, HaltAt, level, level_first, no_depth, peg}
use Rattle.rpl_core.specs.Outcome.{depth}

-- what is evaluated: a core, a turn of a `Many` that succeeds, or a length that a `Behind` tries
pub data Kind : Type 0 where
  Set : (s : List Range) → Kind
  Seq : Kind
  Choice : Kind
  Many : Kind
  Turn : Kind
  Not : Kind
  And : Kind
  Behind : (least most : ℕ) → Kind
  Length : (k : ℕ) → Kind
  Call : (rule : ℕ) → Kind
  Capture : (label : List ℕ) → Kind
  Note : (text : List ℕ) → Kind
  Start : Kind
  End : Kind
  Halt : Kind

-- how an evaluation ends; of one that is open nothing is said
pub data Ending : Type 0 where
  Unsaid : Ending
  Fails : Ending
  EndsAt : (place : ℕ) → Ending
  HaltsAt : (place : ℕ) → Ending

abbrev pub ending : Outcome → Ending
ending Open = Unsaid
ending (Fail w) = Fails
ending (At w j f) = EndsAt j
ending (HaltAt w j f) = HaltsAt j

-- evaluations side by side: one, with what is evaluated, where it starts and how it ends, those inside it, and those
-- after it
pub data Evaluations : Type 0 where
  NoneLeft : Evaluations
  One : (kind : Kind) (start : ℕ) (ending : Ending) (inside behind : Evaluations) → Evaluations

-- the first, then the second
abbrev pub joined : Evaluations → Evaluations → Evaluations
joined NoneLeft g = g
joined (One k i e f r) g = One k i e f (joined r g)

-- those inside the first
abbrev pub inside_of : Evaluations → Evaluations
inside_of NoneLeft = NoneLeft
inside_of (One k i e f r) = f

-- one evaluation alone, whose outcome is o
abbrev pub one : Kind → ℕ → Outcome → Evaluations → Evaluations
one k i o f = One k i (ending o) f NoneLeft

-- what follows where a part succeeds, and where it fails
abbrev pub where_ends : Outcome → (ℕ → Evaluations) → Evaluations
where_ends (At w j f) rest = rest j
where_ends _ rest = NoneLeft

abbrev pub where_fails : Outcome → Evaluations → Evaluations
where_fails (Fail w) rest = rest
where_fails _ rest = NoneLeft

-- The turns of a repetition from the place i on, of which `body` is the first. A body that ends is a turn, and after it
-- come the turns from where it ends, which stand inside the repetition that begins there. A body that fails, or halts,
-- stands alone, and is the last.
abbrev pub turns_made : Outcome → ℕ → (body : Evaluations) → (again : ℕ → Evaluations) → Evaluations
turns_made (At w j f) i body again = One Turn i (EndsAt j) body (inside_of (again j))
turns_made _ i body again = body

-- a length ends at i where its body does; else the other lengths follow
abbrev pub length_ending : Outcome → ℕ → Ending
length_ending Open i = Unsaid
length_ending (At w j f) i = if nat_eq j i then EndsAt i else Fails
length_ending _ i = Fails

abbrev pub where_no_end : Outcome → ℕ → Evaluations → Evaluations
where_no_end Open i rest = NoneLeft
where_no_end (At w j f) i rest = if nat_eq j i then NoneLeft else rest
where_no_end _ i rest = rest

-- n lengths from k on, of a body that gives `at` and makes `body`
abbrev pub lengths_made : ℕ → ℕ → (ℕ → Outcome) → (ℕ → Evaluations) → ℕ → Evaluations
lengths_made zero k at body i = NoneLeft
lengths_made (suc n) k at body i =
    if nat_le k i
    then One (Length k) i (length_ending (at (i - k)) i) (body (i - k))
    (where_no_end (at (i - k)) i (lengths_made n (k + 1) at body i))
    else One (Length k) i Fails NoneLeft (lengths_made n (k + 1) at body i)

-- the body of a rule
abbrev pub called_made : Option Core → (Core → Evaluations) → Evaluations
called_made p go = option_map_or go p NoneLeft

-- The evaluations at one depth, from the outcomes and the evaluations at the depth below it, where the body of a called
-- rule and the further turns of a repetition are.
abbrev mutual
  pub made : (Core → ℕ → Outcome) → (Core → ℕ → Evaluations) → List Core → List ℕ → Core → ℕ → Evaluations
  made below under R t (C.Set s) i = one (Set s) i (level below R t (C.Set s) i) NoneLeft
  made below under R t (C.Seq ps) i = one Seq i (level below R t (C.Seq ps) i) (made_all below under R t ps i)
  made below under R t (C.Choice ps) i = made_first below under R t ps i
  made below under R t (C.Many p) i =
      one Many i (level below R t (C.Many p) i)
      (turns_made (level below R t p i) i (made below under R t p i) (under (C.Many p)))
  made below under R t (C.Not p) i = one Not i (level below R t (C.Not p) i) (made below under R t p i)
  made below under R t (C.And p) i = one And i (level below R t (C.And p) i) (made below under R t p i)
  made below under R t (C.Behind l m p) i =
      one (Behind l m) i (level below R t (C.Behind l m p) i)
      (lengths_made (m + 1 - l) l (level below R t p) (made below under R t p) i)
  made below under R t (C.Call r) i =
      one (Call r) i (level below R t (C.Call r) i) (called_made (slice_get R r) (λ p. under p i))
  made below under R t (C.Capture c p) i =
      one (Capture c) i (level below R t (C.Capture c p) i) (made below under R t p i)
  made below under R t (C.Note x) i = one (Note x) i (level below R t (C.Note x) i) NoneLeft
  made below under R t C.Start i = one Start i (level below R t C.Start i) NoneLeft
  made below under R t C.End i = one End i (level below R t C.End i) NoneLeft
  made below under R t C.Halt i = one Halt i (level below R t C.Halt i) NoneLeft

  -- parts in turn, up to and with the first that doesn't end
  pub made_all : (Core → ℕ → Outcome) → (Core → ℕ → Evaluations) → List Core → List ℕ → Cores → ℕ → Evaluations
  made_all below under R t NoMore i = NoneLeft
  made_all below under R t (Then p ps) i =
      joined (made below under R t p i) (where_ends (level below R t p i) (made_all below under R t ps))

  -- a choice of these parts; a last part alone is that part
  pub made_first : (Core → ℕ → Outcome) → (Core → ℕ → Evaluations) → List Core → List ℕ → Cores → ℕ → Evaluations
  made_first below under R t NoMore i = one Choice i (level_first below R t NoMore i) NoneLeft
  made_first below under R t (Then p NoMore) i = made below under R t p i
  made_first below under R t (Then p (Then q ps)) i =
      one Choice i (level_first below R t (Then p (Then q ps)) i)
      (joined (made below under R t p i) (where_fails (level below R t p i) (made_first below under R t (Then q ps) i)))

abbrev pub none_made : Core → ℕ → Evaluations
none_made e i = NoneLeft

-- the evaluations that the meaning at the depth n makes
abbrev pub evaluations : ℕ → List Core → List ℕ → Core → ℕ → Evaluations
evaluations zero R t = made no_depth none_made R t
evaluations (suc n) R t = made (peg n R t) (evaluations n R t) R t

-- those that the outcome of the goal g on the text t makes
abbrev pub trace : List Core → Core → List ℕ → Evaluations
trace R g t = evaluations (depth t R) R t g 0

-- how many there are
abbrev pub count : Evaluations → ℕ
count NoneLeft = 0
count (One k i e f r) = 1 + count f + count r
