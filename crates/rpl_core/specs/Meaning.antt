-- What a core does at a place of a text, and how much work that is (Ford 2004, section 3.3).
use Rattle.std.specs.Prelude.{ℕ, zero, suc, ◌+◌, ◌-◌, Bool, nat_eq, nat_le, if◌then◌else◌, List, length, Option}
use Rattle.std.specs.Prelude.{Some, None, slice_get}
use Rattle.regex_class.specs.Ranges.{Range}
use Rattle.rpl_core.specs.Core.{Core, Set, Seq, Choice, Many, Not, And, Behind, Call, Capture, Note, Start, End, Halt}
use Rattle.rpl_core.specs.Core.{Cores, NoMore, Then, fits}
use Rattle.rpl_core.specs.Forest.{Forest, NoTree, Tree, Noted, joined}

-- An outcome, with the work w that it took. `At` and `HaltAt` have the place after the match and its trees;
-- `Open` says that the depth didn't suffice. One unit of work is a core evaluated, a turn of a `Many` that
-- succeeds, or a length that a `Behind` tries.
pub data Outcome : Type 0 where
  Open : Outcome
  Fail : (w : ℕ) → Outcome
  At : (w place : ℕ) (f : Forest) → Outcome
  HaltAt : (w place : ℕ) (f : Forest) → Outcome

-- the outcome for v more work
abbrev pub more : ℕ → Outcome → Outcome
more v Open = Open
more v (Fail w) = Fail (v + w)
more v (At w j f) = At (v + w) j f
more v (HaltAt w j f) = HaltAt (v + w) j f

-- the outcome with the trees f before its own, for v more work
abbrev pub prefixed : ℕ → Forest → Outcome → Outcome
prefixed v f Open = Open
prefixed v f (Fail w) = Fail (v + w)
prefixed v f (At w k g) = At (v + w) k (joined f g)
prefixed v f (HaltAt w k g) = HaltAt (v + w) k (joined f g)

-- what a part gives, and then the rest from the place where it ends
abbrev pub then_do : Outcome → (ℕ → Outcome) → Outcome
then_do (At w j f) rest = prefixed w f (rest j)
then_do o rest = o

-- what a part gives at i, or where it fails the rest at i
abbrev pub or_else : Outcome → ℕ → (ℕ → Outcome) → Outcome
or_else Open i rest = Open
or_else (Fail w) i rest = more (1 + w) (rest i)
or_else (At w j f) i rest = At (1 + w) j f
or_else (HaltAt w j f) i rest = HaltAt (1 + w) j f

-- a turn at i, and then the other turns; a turn that fails ends them and takes nothing
abbrev pub turns : Outcome → ℕ → (ℕ → Outcome) → Outcome
turns Open i again = Open
turns (Fail w) i again = At (1 + w) i NoTree
turns (At w j f) i again = prefixed (1 + w) f (again j)
turns (HaltAt w j f) i again = HaltAt (1 + w) j f

-- success at i where the body fails
abbrev pub if_fails : Outcome → ℕ → Outcome
if_fails Open i = Open
if_fails (Fail w) i = At (1 + w) i NoTree
if_fails (At w j f) i = Fail (1 + w)
if_fails (HaltAt w j f) i = Fail (1 + w)

-- success at i where the body succeeds
abbrev pub if_matches : Outcome → ℕ → Outcome
if_matches Open i = Open
if_matches (Fail w) i = Fail (1 + w)
if_matches (At w j f) i = At (1 + w) i NoTree
if_matches (HaltAt w j f) i = Fail (1 + w)

-- the body's trees under one tree that starts at i
abbrev pub under : List ℕ → ℕ → Outcome → Outcome
under c i Open = Open
under c i (Fail w) = Fail (1 + w)
under c i (At w j f) = At (1 + w) j (Tree c i j f NoTree)
under c i (HaltAt w j f) = HaltAt (1 + w) j (Tree c i j f NoTree)

-- success at i where the body ends just there, and else the other lengths
abbrev pub ends_here : Outcome → ℕ → Outcome → Outcome
ends_here Open i others = Open
ends_here (Fail w) i others = more (1 + w) others
ends_here (At w j f) i others = if nat_eq j i then At (1 + w) i NoTree else more (1 + w) others
ends_here (HaltAt w j f) i others = more (1 + w) others

-- the body from k characters before i, and then from one more, n lengths in all
abbrev pub lengths : ℕ → ℕ → (ℕ → Outcome) → ℕ → Outcome
lengths zero k body i = Fail 0
lengths (suc n) k body i =
    if nat_le k i then ends_here (body (i - k)) i (lengths n (k + 1) body i) else more 1 (lengths n (k + 1) body i)

-- one character, if it is in the set
abbrev pub one_char : Option ℕ → List Range → ℕ → Outcome
one_char o s i = if fits o s then At 1 (i + 1) NoTree else Fail 1

-- success at i if the test holds
abbrev pub only_if : Bool → ℕ → Outcome
only_if b i = if b then At 1 i NoTree else Fail 1

-- what the body of a rule gives; where there is no such rule, nothing is said
abbrev pub called : Option Core → (Core → Outcome) → Outcome
called None go = Open
called (Some p) go = more 1 (go p)

-- The meaning at one depth, from that at the depth below it: only a further turn and a call go one deeper.
-- R is the table of rules and t the text.
abbrev mutual
  pub level : (Core → ℕ → Outcome) → List Core → List ℕ → Core → ℕ → Outcome
  level below R t (Set s) i = one_char (slice_get t i) s i
  level below R t (Seq ps) i = more 1 (level_all below R t ps i)
  level below R t (Choice ps) i = level_first below R t ps i
  level below R t (Many p) i = turns (level below R t p i) i (below (Many p))
  level below R t (Not p) i = if_fails (level below R t p i) i
  level below R t (And p) i = if_matches (level below R t p i) i
  level below R t (Behind least most p) i = more 1 (lengths (most + 1 - least) least (level below R t p) i)
  level below R t (Call r) i = called (slice_get R r) (λ p. below p i)
  level below R t (Capture c p) i = under c i (level below R t p i)
  level below R t (Note x) i = At 1 i (Noted x i NoTree)
  level below R t Start i = only_if (nat_eq i 0) i
  level below R t End i = only_if (nat_eq i (length t)) i
  level below R t Halt i = HaltAt 1 i NoTree

  -- all parts in turn, as one evaluation
  pub level_all : (Core → ℕ → Outcome) → List Core → List ℕ → Cores → ℕ → Outcome
  level_all below R t NoMore i = At 0 i NoTree
  level_all below R t (Then p ps) i = then_do (level below R t p i) (level_all below R t ps)

  -- The first part that succeeds. A last part alone is that part; a longer rest is an evaluation of its own.
  -- Every choice has two parts or more; one of none would fail.
  pub level_first : (Core → ℕ → Outcome) → List Core → List ℕ → Cores → ℕ → Outcome
  level_first below R t NoMore i = Fail 1
  level_first below R t (Then p NoMore) i = level below R t p i
  level_first below R t (Then p (Then q ps)) i = or_else (level below R t p i) i (level_first below R t (Then q ps))

-- no meaning at all
abbrev pub no_depth : Core → ℕ → Outcome
no_depth e i = Open

-- the meaning at the depth n
abbrev pub peg : ℕ → List Core → List ℕ → Core → ℕ → Outcome
peg zero R t = level no_depth R t
peg (suc n) R t = level (peg n R t) R t
