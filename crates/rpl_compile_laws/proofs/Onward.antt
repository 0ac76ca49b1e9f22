-- A match never moves back, and moves on where it may not be empty.
use Rattle.std.proofs.Common.{◌≡◌, ℕ, zero, suc, ◌+◌, ◌-◌, ◌≤◌, List, length, Option, Some, None, refl, arith}
use Rattle.std.proofs.lemmas.Option.{slice_get_within}
use Rattle.std.specs.Prelude.{Bool, true, false, ◌||◌, ◌&&◌, nat_eq, nat_le, if◌then◌else◌, slice_get}
use Rattle.regex_class.specs.Ranges.{Range, in_ranges}
use Rattle.rpl_core.specs.Core.{Core, Set, Seq, Choice, Many, Not, And, Behind, Call, Capture, Note, Start, End, Halt}
use Rattle.rpl_core.specs.Core.{Cores, NoMore, Then}
use Rattle.rpl_core.specs.Forest.{Forest, NoTree}
use Rattle.rpl_core.specs.Meaning.{Outcome, Open, Fail, At, HaltAt, more, prefixed, then_do, or_else, turns, if_fails}
use Rattle.rpl_core.specs.Meaning.{if_matches, under, ends_here, lengths, one_char, called, level, level_all}
use Rattle.rpl_core.specs.Meaning.{level_first, no_depth, peg}
use Rattle.rpl_compile_laws.specs.Static.{may_be_empty, all_may_be_empty, any_may_be_empty}

-- the fewest characters of what may be empty or not
abbrev pub fewest : Bool → ℕ
fewest true = 0
fewest false = 1

-- where it is At, at least v characters on and within the text
abbrev pub Onward : ℕ → ℕ → ℕ → Outcome → Type 0
Onward v i l Open = Unit {0}
Onward v i l (Fail w) = Unit {0}
Onward v i l (At w j f) = (v + i ≤ j) × (j ≤ l)
Onward v i l (HaltAt w j f) = Unit {0}

-- what goes on by more goes on by less
on_less : (u v i l : ℕ) (o : Outcome) → u ≤ v → Onward v i l o → Onward u i l o
on_less u v i l Open le h = tt
on_less u v i l (Fail w) le h = tt
on_less u v i l (At w j f) le h = (omega (arith, h.0), h.1)
on_less u v i l (HaltAt w j f) le h = tt

-- whatever the work
on_more : (v i l x : ℕ) (o : Outcome) → Onward v i l o → Onward v i l (more x o)
on_more v i l x Open h = tt
on_more v i l x (Fail w) h = tt
on_more v i l x (At w j f) h = h
on_more v i l x (HaltAt w j f) h = tt

-- and from an earlier place
on_prefixed : (u v i j l x : ℕ) (f : Forest) (o : Outcome) → u + i ≤ v + j → Onward v j l o
    → Onward u i l (prefixed x f o)
on_prefixed u v i j l x f Open le h = tt
on_prefixed u v i j l x f (Fail w) le h = tt
on_prefixed u v i j l x f (At w k g) le h = (omega (arith, h.0), h.1)
on_prefixed u v i j l x f (HaltAt w k g) le h = tt

-- a sequence goes on by the sum
on_then : (u v i l : ℕ) (o : Outcome) (r : ℕ → Outcome) → Onward u i l o → ((j : ℕ) → j ≤ l → Onward v j l (r j))
    → Onward (u + v) i l (then_do o r)
on_then u v i l Open r h k = tt
on_then u v i l (Fail w) r h k = tt
on_then u v i l (At w j f) r h k = on_prefixed (u + v) v i j l w f (r j) (omega (arith, h.0)) (k j h.1)
on_then u v i l (HaltAt w j f) r h k = tt

-- a choice by what both parts do
on_or : (v i l : ℕ) (o : Outcome) (r : ℕ → Outcome) → Onward v i l o → Onward v i l (r i) → Onward v i l (or_else o i r)
on_or v i l Open r h k = tt
on_or v i l (Fail w) r h k = on_more v i l (1 + w) (r i) k
on_or v i l (At w j f) r h k = h
on_or v i l (HaltAt w j f) r h k = tt

-- turns stay or go on
on_turns : (v i l : ℕ) (o : Outcome) (r : ℕ → Outcome) → i ≤ l → Onward v i l o → ((j : ℕ) → j ≤ l → Onward 0 j l (r j))
    → Onward 0 i l (turns o i r)
on_turns v i l Open r le h k = tt
on_turns v i l (Fail w) r le h k = (omega arith, le)
on_turns v i l (At w j f) r le h k = on_prefixed 0 0 i j l (1 + w) f (r j) (omega (arith, h.0)) (k j h.1)
on_turns v i l (HaltAt w j f) r le h k = tt

-- a refusal stays
on_not : (i l : ℕ) (o : Outcome) → i ≤ l → Onward 0 i l (if_fails o i)
on_not i l Open le = tt
on_not i l (Fail w) le = (omega arith, le)
on_not i l (At w j f) le = tt
on_not i l (HaltAt w j f) le = tt

-- a look-ahead stays
on_and : (i l : ℕ) (o : Outcome) → i ≤ l → Onward 0 i l (if_matches o i)
on_and i l Open le = tt
on_and i l (Fail w) le = tt
on_and i l (At w j f) le = (omega arith, le)
on_and i l (HaltAt w j f) le = tt

-- a capture goes on as its body does
on_under : (v i l : ℕ) (c : List ℕ) (o : Outcome) → Onward v i l o → Onward v i l (under c i o)
on_under v i l c Open h = tt
on_under v i l c (Fail w) h = tt
on_under v i l c (At w j f) h = h
on_under v i l c (HaltAt w j f) h = tt

-- one of two goes on as both do
on_if : (q : Bool) (v i l : ℕ) (a b : Outcome) → Onward v i l a → Onward v i l b → Onward v i l (if q then a else b)
on_if true v i l a b h k = h
on_if false v i l a b h k = k

-- a length of a look-behind stays
on_ends : (i l : ℕ) (o p : Outcome) → i ≤ l → Onward 0 i l p → Onward 0 i l (ends_here o i p)
on_ends i l Open p le h = tt
on_ends i l (Fail w) p le h = on_more 0 i l (1 + w) p h
on_ends i l (At w j f) p le h =
    on_if (nat_eq j i) 0 i l (At (1 + w) i NoTree) (more (1 + w) p) (omega arith, le) (on_more 0 i l (1 + w) p h)
on_ends i l (HaltAt w j f) p le h = on_more 0 i l (1 + w) p h

-- and so do all its lengths
on_lengths : (n k : ℕ) (body : ℕ → Outcome) (i l : ℕ) → i ≤ l → Onward 0 i l (lengths n k body i)
on_lengths zero k body i l le = tt
on_lengths (suc n) k body i l le =
    let rest = lengths n (k + 1) body i in
    let h = on_lengths n (k + 1) body i l le in
    on_if (nat_le k i) 0 i l (ends_here (body (i - k)) i rest) (more 1 rest) (on_ends i l (body (i - k)) rest le h)
    (on_more 0 i l 1 rest h)

-- a character is one place on, within the text
within_text : (t : List ℕ) (i : ℕ) (s : List Range) (o : Option ℕ) → slice_get t i ≡ o
    → Onward 1 i (length t) (one_char o s i)
within_text t i s None e = tt
within_text t i s (Some c) e =
    let lt = slice_get_within t i c e in
    on_if (in_ranges s c) 1 i (length t) (At 1 (i + 1) NoTree) (Fail 1) (omega arith, omega arith) tt

-- a choice is no longer than its first part
or_left : (a b : Bool) → fewest (a || b) ≤ fewest a
or_left true b = omega arith
or_left false true = omega arith
or_left false false = omega arith

-- nor than its rest
or_right : (a b : Bool) → fewest (a || b) ≤ fewest b
or_right true true = omega arith
or_right true false = omega arith
or_right false b = omega arith

-- a sequence is as long as both
and_sum : (a b : Bool) → fewest (a && b) ≤ fewest a + fewest b
and_sum true b = omega arith
and_sum false b = omega arith

-- where the one may be empty only if the other may
fewest_le : (a b : Bool) → (b ≡ false → a ≡ false) → fewest b ≤ fewest a
fewest_le a true h = omega arith
fewest_le a false h = let e : a ≡ false = h refl in rw e (omega arith)

module _ (m : ℕ → Bool) (R : List Core) (t : List ℕ) (empties : (r : ℕ) (p : Core) → slice_get R r ≡ Some p
    → m r ≡ false → may_be_empty m p ≡ false) where
  -- a call goes on as the body of its rule does
  on_called : (f : Core → Outcome) (r i : ℕ) → ((p : Core) → Onward (fewest (may_be_empty m p)) i (length t) (f p))
      → (o : Option Core) → slice_get R r ≡ o → Onward (fewest (m r)) i (length t) (called o f)
  on_called f r i k None e = tt
  on_called f r i k (Some p) e =
      on_more _ i (length t) 1 (f p) (on_less (fewest (m r)) (fewest (may_be_empty m p)) i (length t) (f p)
      (fewest_le (may_be_empty m p) (m r) (empties r p e)) (k p))

  module _ (below : Core → ℕ → Outcome) (ih : (e : Core) (i : ℕ) → i ≤ length t
      → Onward (fewest (may_be_empty m e)) i (length t) (below e i)) where
    mutual
      level_onward : (e : Core) (i : ℕ) → i ≤ length t
          → Onward (fewest (may_be_empty m e)) i (length t) (level below R t e i)
      level_onward (Set s) i le = within_text t i s (slice_get t i) refl
      level_onward (Seq ps) i le = on_more _ i (length t) 1 (level_all below R t ps i) (level_all_onward ps i le)
      level_onward (Choice ps) i le = first_onward ps i le
      level_onward (Many p) i le =
          on_turns (fewest (may_be_empty m p)) i (length t) (level below R t p i) (below (Many p)) le
          (level_onward p i le) (ih (Many p))
      level_onward (Not p) i le = on_not i (length t) (level below R t p i) le
      level_onward (And p) i le = on_and i (length t) (level below R t p i) le
      level_onward (Behind k n p) i le =
          on_more 0 i (length t) 1 _ (on_lengths (n + 1 - k) k (level below R t p) i (length t) le)
      level_onward (Call r) i le = on_called (λ p. below p i) r i (λ p. ih p i le) (slice_get R r) refl
      level_onward (Capture c p) i le = on_under _ i (length t) c (level below R t p i) (level_onward p i le)
      level_onward (Note x) i le = (omega arith, le)
      level_onward Start i le = on_if (nat_eq i 0) 0 i (length t) (At 1 i NoTree) (Fail 1) (omega arith, le) tt
      level_onward End i le = on_if (nat_eq i (length t)) 0 i (length t) (At 1 i NoTree) (Fail 1) (omega arith, le) tt
      level_onward Halt i le = tt

      level_all_onward : (ps : Cores) (i : ℕ) → i ≤ length t
          → Onward (fewest (all_may_be_empty m ps)) i (length t) (level_all below R t ps i)
      level_all_onward NoMore i le = (omega arith, le)
      level_all_onward (Then p ps) i le =
          on_less _ (fewest (may_be_empty m p) + fewest (all_may_be_empty m ps)) i (length t)
          (then_do (level below R t p i) (level_all below R t ps))
          (and_sum (may_be_empty m p) (all_may_be_empty m ps))
          (on_then (fewest (may_be_empty m p)) (fewest (all_may_be_empty m ps)) i (length t) (level below R t p i)
          (level_all below R t ps) (level_onward p i le) (λ j le1. level_all_onward ps j le1))

      first_onward : (ps : Cores) (i : ℕ) → i ≤ length t
          → Onward (fewest (any_may_be_empty m ps)) i (length t) (level_first below R t ps i)
      first_onward NoMore i le = tt
      first_onward (Then p NoMore) i le =
          on_less _ (fewest (may_be_empty m p)) i (length t) (level below R t p i) (or_left (may_be_empty m p) false)
          (level_onward p i le)
      first_onward (Then p (Then q ps)) i le =
          let rest = any_may_be_empty m (Then q ps) in
          on_or _ i (length t) (level below R t p i) (level_first below R t (Then q ps))
          (on_less _ (fewest (may_be_empty m p)) i (length t) (level below R t p i) (or_left (may_be_empty m p) rest)
          (level_onward p i le))
          (on_less _ (fewest rest) i (length t) (level_first below R t (Then q ps) i) (or_right (may_be_empty m p) rest)
          (first_onward (Then q ps) i le))

  -- so it is at every depth
  pub peg_onward : (n : ℕ) (e : Core) (i : ℕ) → i ≤ length t
      → Onward (fewest (may_be_empty m e)) i (length t) (peg n R t e i)
  peg_onward zero e i le = level_onward no_depth (λ x j k. tt) e i le
  peg_onward (suc n) e i le = level_onward (peg n R t) (peg_onward n) e i le
