-- What is not open, from parts that are not.
use Rattle.std.proofs.Common.{ℕ, zero, suc, ◌+◌, ◌-◌, ◌≤◌, List, length}
use Rattle.std.specs.Prelude.{Bool, true, false, nat_eq, nat_le, if◌then◌else◌, slice_get}
use Rattle.rpl_core.specs.Core.{fits, Core, Set, Seq, Choice, Many, Not, And, Behind, Call, Capture, Note, Start, End}
use Rattle.rpl_core.specs.Core.{Halt, Cores, NoMore, Then}
use Rattle.rpl_core.specs.Forest.{Forest, NoTree}
use Rattle.rpl_core.specs.Meaning.{Outcome, Open, Fail, At, HaltAt, more, prefixed, then_do, or_else, turns, if_fails}
use Rattle.rpl_core.specs.Meaning.{if_matches, under, ends_here, lengths, level, level_all, level_first}
use Rattle.rpl_compile_laws.proofs.Plain.{Plain, ArePlain}
use Rattle.rpl_compile_laws.proofs.Onward.{Onward}

-- an outcome that is not open
abbrev pub Shut : Outcome → Type 0
Shut Open = ⊥
Shut (Fail w) = Unit {0}
Shut (At w j f) = Unit {0}
Shut (HaltAt w j f) = Unit {0}

-- more work opens nothing
pub shut_more : (v : ℕ) (o : Outcome) → Shut o → Shut (more v o)
shut_more v Open h = h
shut_more v (Fail w) h = tt
shut_more v (At w j f) h = tt
shut_more v (HaltAt w j f) h = tt

-- nor do trees before it
pub shut_prefixed : (v : ℕ) (f : Forest) (o : Outcome) → Shut o → Shut (prefixed v f o)
shut_prefixed v f Open h = h
shut_prefixed v f (Fail w) h = tt
shut_prefixed v f (At w j g) h = tt
shut_prefixed v f (HaltAt w j g) h = tt

-- the rest is asked for where the part goes on
pub shut_then : (u i l : ℕ) (o : Outcome) (r : ℕ → Outcome) → Shut o → Onward u i l o
    → ((j : ℕ) → u + i ≤ j → j ≤ l → Shut (r j)) → Shut (then_do o r)
shut_then u i l Open r h n k = h
shut_then u i l (Fail w) r h n k = tt
shut_then u i l (At w j f) r h n k = shut_prefixed w f (r j) (k j n.0 n.1)
shut_then u i l (HaltAt w j f) r h n k = tt

-- so it is with turns
pub shut_turns : (u i l : ℕ) (o : Outcome) (r : ℕ → Outcome) → Shut o → Onward u i l o
    → ((j : ℕ) → u + i ≤ j → j ≤ l → Shut (r j)) → Shut (turns o i r)
shut_turns u i l Open r h n k = h
shut_turns u i l (Fail w) r h n k = tt
shut_turns u i l (At w j f) r h n k = shut_prefixed (1 + w) f (r j) (k j n.0 n.1)
shut_turns u i l (HaltAt w j f) r h n k = tt

-- a choice of two
pub shut_or : (o : Outcome) (i : ℕ) (r : ℕ → Outcome) → Shut o → Shut (r i) → Shut (or_else o i r)
shut_or Open i r h k = h
shut_or (Fail w) i r h k = shut_more (1 + w) (r i) k
shut_or (At w j f) i r h k = tt
shut_or (HaltAt w j f) i r h k = tt

-- a refusal
pub shut_not : (o : Outcome) (i : ℕ) → Shut o → Shut (if_fails o i)
shut_not Open i h = h
shut_not (Fail w) i h = tt
shut_not (At w j f) i h = tt
shut_not (HaltAt w j f) i h = tt

-- a look-ahead
pub shut_and : (o : Outcome) (i : ℕ) → Shut o → Shut (if_matches o i)
shut_and Open i h = h
shut_and (Fail w) i h = tt
shut_and (At w j f) i h = tt
shut_and (HaltAt w j f) i h = tt

-- a capture
pub shut_under : (c : List ℕ) (i : ℕ) (o : Outcome) → Shut o → Shut (under c i o)
shut_under c i Open h = h
shut_under c i (Fail w) h = tt
shut_under c i (At w j f) h = tt
shut_under c i (HaltAt w j f) h = tt

-- one of two
pub shut_if : (q : Bool) (a b : Outcome) → Shut a → Shut b → Shut (if q then a else b)
shut_if true a b h k = h
shut_if false a b h k = k

-- a length of a look-behind
pub shut_ends : (o : Outcome) (i : ℕ) (p : Outcome) → Shut o → Shut p → Shut (ends_here o i p)
shut_ends Open i p h k = h
shut_ends (Fail w) i p h k = shut_more (1 + w) p k
shut_ends (At w j f) i p h k = shut_if (nat_eq j i) (At (1 + w) i NoTree) (more (1 + w) p) tt (shut_more (1 + w) p k)
shut_ends (HaltAt w j f) i p h k = shut_more (1 + w) p k

-- and all its lengths
pub shut_lengths : (n k : ℕ) (body : ℕ → Outcome) (i : ℕ) → ((j : ℕ) → Shut (body j)) → Shut (lengths n k body i)
shut_lengths zero k body i h = tt
shut_lengths (suc n) k body i h =
    let rest = lengths n (k + 1) body i in
    let g = shut_lengths n (k + 1) body i h in
    shut_if (nat_le k i) (ends_here (body (i - k)) i rest) (more 1 rest) (shut_ends (body (i - k)) i rest (h (i - k)) g)
    (shut_more 1 rest g)

-- a plain core needs no depth
mutual
  pub plain_shut : (below : Core → ℕ → Outcome) (R : List Core) (t : List ℕ) (e : Core) → Plain e → (i : ℕ)
      → Shut (level below R t e i)
  plain_shut below R t (Set s) h i = shut_if (fits (slice_get t i) s) (At 1 (i + 1) NoTree) (Fail 1) tt tt
  plain_shut below R t (Seq ps) h i = shut_more 1 (level_all below R t ps i) (plain_all_shut below R t ps h i)
  plain_shut below R t (Choice ps) h i = plain_first_shut below R t ps h i
  plain_shut below R t (Many p) h i = absurd h
  plain_shut below R t (Not p) h i = shut_not (level below R t p i) i (plain_shut below R t p h i)
  plain_shut below R t (And p) h i = shut_and (level below R t p i) i (plain_shut below R t p h i)
  plain_shut below R t (Behind l n p) h i =
      shut_more 1 _ (shut_lengths (n + 1 - l) l (level below R t p) i (plain_shut below R t p h))
  plain_shut below R t (Call r) h i = absurd h
  plain_shut below R t (Capture c p) h i = shut_under c i (level below R t p i) (plain_shut below R t p h i)
  plain_shut below R t (Note x) h i = tt
  plain_shut below R t Start h i = shut_if (nat_eq i 0) (At 1 i NoTree) (Fail 1) tt tt
  plain_shut below R t End h i = shut_if (nat_eq i (length t)) (At 1 i NoTree) (Fail 1) tt tt
  plain_shut below R t Halt h i = tt

  plain_all_shut : (below : Core → ℕ → Outcome) (R : List Core) (t : List ℕ) (ps : Cores) → ArePlain ps → (i : ℕ)
      → Shut (level_all below R t ps i)
  plain_all_shut below R t NoMore h i = tt
  plain_all_shut below R t (Then p ps) h i =
      plain_then (level below R t p i) (level_all below R t ps) (plain_shut below R t p h.0 i)
      (plain_all_shut below R t ps h.1)
    where
      plain_then : (o : Outcome) (r : ℕ → Outcome) → Shut o → ((j : ℕ) → Shut (r j)) → Shut (then_do o r)
      plain_then Open r h1 k = h1
      plain_then (Fail w) r h1 k = tt
      plain_then (At w j f) r h1 k = shut_prefixed w f (r j) (k j)
      plain_then (HaltAt w j f) r h1 k = tt

  plain_first_shut : (below : Core → ℕ → Outcome) (R : List Core) (t : List ℕ) (ps : Cores) → ArePlain ps → (i : ℕ)
      → Shut (level_first below R t ps i)
  plain_first_shut below R t NoMore h i = tt
  plain_first_shut below R t (Then p NoMore) h i = plain_shut below R t p h.0 i
  plain_first_shut below R t (Then p (Then q ps)) h i =
      shut_or (level below R t p i) i (level_first below R t (Then q ps)) (plain_shut below R t p h.0 i)
      (plain_first_shut below R t (Then q ps) h.1 i)
