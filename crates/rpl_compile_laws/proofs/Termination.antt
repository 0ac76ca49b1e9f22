-- No outcome is open at the depth of the text and the table.
use Rattle.std.proofs.Common.{◌≡◌, ◌≢◌, ℕ, zero, suc, ◌+◌, ◌-◌, ◌*◌, ◌<◌, ◌≤◌, List, length, Option, Some, None, refl}
use Rattle.std.proofs.Common.{sym, subst, ⊎_elim, arith}
use Rattle.std.proofs.lemmas.Bool.{cases_lt}
use Rattle.std.proofs.lemmas.Option.{slice_get-get_or}
use Rattle.std.specs.Prelude.{Bool, true, false, nat_eq, slice_get}
use Rattle.rpl_core.specs.Core.{fits, Core, Set, Seq, Choice, Many, Not, And, Behind, Call, Capture, Note, Start, End}
use Rattle.rpl_core.specs.Core.{Halt, Cores, NoMore, Then}
use Rattle.rpl_core.specs.Forest.{NoTree}
use Rattle.rpl_core.specs.Meaning.{Outcome, Open, Fail, At, HaltAt, turns, called, level, level_all, level_first}
use Rattle.rpl_core.specs.Meaning.{no_depth, peg}
use Rattle.rpl_core.specs.Outcome.{depth, as_match}
use Rattle.rpl_compile_laws.specs.Static.{may_be_empty}
use Rattle.rpl_compile_laws.specs.Termination.{IfEmpty, CallsBelow, AllCallBelow, EachCallsBelow, IsTidy, AreTidy}
use Rattle.rpl_compile_laws.proofs.Plain.{Plain, ArePlain, plain_of}
use Rattle.rpl_compile_laws.specs.Laws.{TerminationLaw}
use Rattle.rpl_compile_laws.proofs.Onward.{fewest, Onward, peg_onward}
use Rattle.rpl_compile_laws.proofs.Shut.{Shut, shut_more, shut_then, shut_turns, shut_or, shut_not, shut_and}
use Rattle.rpl_compile_laws.proofs.Shut.{shut_under, shut_if, shut_lengths, plain_shut}

-- what d further places need, each of them x and one more
abbrev height : ℕ → ℕ → ℕ
height x zero = 0
height x (suc d) = height x d + (x + 1)

-- fewer places need less
height_more : (x c d : ℕ) → c < d → height x c + (x + 1) ≤ height x d
height_more x c zero lt = absurd (omega arith)
height_more x c (suc d) lt =
    ⊎_elim (λ (h : c < d). let k = height_more x c d h in let le : height x c + (x + 1) ≤ height x (suc d) =
    omega arith in le) (λ (h : d ≤ c). let z : d ≡ c = omega arith in
    subst (λ y. height x y + (x + 1) ≤ height x (suc d)) z (omega arith)) (cases_lt c d)

-- what they need in one product
height_times : (x d : ℕ) → height x d ≡ d * (x + 1)
height_times x zero = omega arith
height_times x (suc d) = let h = height_times x d in omega arith

module _ (m : ℕ → Bool) (rank : ℕ → ℕ) (R : List Core) (t : List ℕ)
    (empties : (r : ℕ) (p : Core) → slice_get R r ≡ Some p → m r ≡ false → may_be_empty m p ≡ false)
    (low : (r : ℕ) → r < length R → rank r < length R)
    (falls : (r : ℕ) (p : Core) → slice_get R r ≡ Some p → CallsBelow m rank (rank r) p)
    (rules : (r : ℕ) (p : Core) → slice_get R r ≡ Some p → IsTidy m (length R) p) where
  -- what holds holds where it is asked
  if_any : (b : Bool) (P : Type 0) → P → IfEmpty b P
  if_any true P h = h
  if_any false P h = tt

  -- a plain core calls no rule
  mutual
    plain_ranks : (k : ℕ) (e : Core) → Plain e → CallsBelow m rank k e
    plain_ranks k (Set s) h = tt
    plain_ranks k (Seq ps) h = plain_all_ranks k ps h
    plain_ranks k (Choice ps) h = plain_each_ranks k ps h
    plain_ranks k (Many p) h = absurd h
    plain_ranks k (Not p) h = plain_ranks k p h
    plain_ranks k (And p) h = plain_ranks k p h
    plain_ranks k (Behind l n p) h = plain_ranks k p h
    plain_ranks k (Call r) h = absurd h
    plain_ranks k (Capture c p) h = plain_ranks k p h
    plain_ranks k (Note x) h = tt
    plain_ranks k Start h = tt
    plain_ranks k End h = tt
    plain_ranks k Halt h = tt

    plain_all_ranks : (k : ℕ) (ps : Cores) → ArePlain ps → AllCallBelow m rank k ps
    plain_all_ranks k NoMore h = tt
    plain_all_ranks k (Then p ps) h =
        (plain_ranks k p h.0, if_any (may_be_empty m p) (AllCallBelow m rank k ps) (plain_all_ranks k ps h.1))

    plain_each_ranks : (k : ℕ) (ps : Cores) → ArePlain ps → EachCallsBelow m rank k ps
    plain_each_ranks k NoMore h = tt
    plain_each_ranks k (Then p ps) h = (plain_ranks k p h.0, plain_each_ranks k ps h.1)

  -- every rank is below the number of rules
  mutual
    any_ranks : (e : Core) → IsTidy m (length R) e → CallsBelow m rank (length R) e
    any_ranks (Set s) h = tt
    any_ranks (Seq ps) h = any_all_ranks ps h
    any_ranks (Choice ps) h = any_each_ranks ps h
    any_ranks (Many p) h = any_ranks p h.1
    any_ranks (Not p) h = any_ranks p h
    any_ranks (And p) h = any_ranks p h
    any_ranks (Behind l n p) h = plain_ranks (length R) p (plain_of p h.0 h.1)
    any_ranks (Call r) h = low r h
    any_ranks (Capture c p) h = any_ranks p h
    any_ranks (Note x) h = tt
    any_ranks Start h = tt
    any_ranks End h = tt
    any_ranks Halt h = tt

    any_all_ranks : (ps : Cores) → AreTidy m (length R) ps → AllCallBelow m rank (length R) ps
    any_all_ranks NoMore h = tt
    any_all_ranks (Then p ps) h =
        (any_ranks p h.0, if_any (may_be_empty m p) (AllCallBelow m rank (length R) ps) (any_all_ranks ps h.1))

    any_each_ranks : (ps : Cores) → AreTidy m (length R) ps → EachCallsBelow m rank (length R) ps
    any_each_ranks NoMore h = tt
    any_each_ranks (Then p ps) h = (any_ranks p h.0, any_each_ranks ps h.1)

  -- the depth n serves for a core at the place i whose own calls have ranks below k
  abbrev Serves : ℕ → ℕ → ℕ → Type 0
  Serves n k i = height (length R) (length t - i) + k ≤ n

  -- further on it serves for every rank
  serves_on : (n k i j : ℕ) → i < j → j ≤ length t → Serves n k i
      → height (length R) (length t - j) + (length R + 1) ≤ n
  serves_on n k i j lt le h =
      let far : length t - j < length t - i = omega arith in
      let x = height_more (length R) (length t - j) (length t - i) far in
      omega arith

  module _ (n : ℕ) (below : Core → ℕ → Outcome)
      (onward : (e : Core) (i : ℕ) → i ≤ length t
      → Onward (fewest (may_be_empty m e)) i (length t) (level below R t e i))
      (ih : (n1 : ℕ) → n ≡ suc n1 → (e : Core) (k i : ℕ) → IsTidy m (length R) e → CallsBelow m rank k e → i ≤ length t
      → Serves n1 k i → Shut (below e i)) where
    -- a call ends where the rank of its rule is below
    shut_called : (r k i : ℕ) → rank r < k → r < length R → i ≤ length t → Serves n k i → (o : Option Core)
        → slice_get R r ≡ o → Shut (called o (λ p. below p i))
    shut_called r k i lt in_table le s None e =
        let here = slice_get-get_or R r Halt in_table in absurd (cc)
    shut_called r k i lt in_table le s (Some p) e = shut_more 1 (below p i) (go n refl)
      where
        go : (n0 : ℕ) → n ≡ n0 → Shut (below p i)
        go zero z = absurd (omega arith)
        go (suc n1) z = ih n1 z p (rank r) i (rules r p e) (falls r p e) le (omega arith)

    -- turns end, as each takes a character
    shut_many : (p : Core) (k i : ℕ) → IsTidy m (length R) (Many p) → i ≤ length t → Serves n k i
        → Shut (level below R t p i) → Shut (turns (level below R t p i) i (below (Many p)))
    shut_many p k i tidy le s h = shut_turns 1 i (length t) (level below R t p i) (below (Many p)) h on next
      where
        on : Onward 1 i (length t) (level below R t p i)
        on = subst (λ b. Onward (fewest b) i (length t) (level below R t p i)) tidy.0 (onward p i le)

        next : (j : ℕ) → 1 + i ≤ j → j ≤ length t → Shut (below (Many p) j)
        next j lt le1 = go n refl
          where
            x : height (length R) (length t - j) + (length R + 1) ≤ n
            x = serves_on n k i j (omega arith) le1 s

            go : (n0 : ℕ) → n ≡ n0 → Shut (below (Many p) j)
            go zero z = absurd (omega (arith, x))
            go (suc n1) z = ih n1 z (Many p) (length R) j tidy (any_ranks p tidy.1) le1 (omega (arith, x))

    mutual
      -- one level is not open where the depth serves
      level_shut : (e : Core) (k i : ℕ) → IsTidy m (length R) e → CallsBelow m rank k e → i ≤ length t → Serves n k i
          → Shut (level below R t e i)
      level_shut (Set s) k i d h le s1 = shut_if (fits (slice_get t i) s) (At 1 (i + 1) NoTree) (Fail 1) tt tt
      level_shut (Seq ps) k i d h le s1 = shut_more 1 (level_all below R t ps i) (level_all_shut ps k i d h le s1)
      level_shut (Choice ps) k i d h le s1 = first_shut ps k i d h le s1
      level_shut (Many p) k i d h le s1 = shut_many p k i d le s1 (level_shut p k i d.1 h le s1)
      level_shut (Not p) k i d h le s1 = shut_not (level below R t p i) i (level_shut p k i d h le s1)
      level_shut (And p) k i d h le s1 = shut_and (level below R t p i) i (level_shut p k i d h le s1)
      level_shut (Behind l x p) k i d h le s1 =
          shut_more 1 _ (shut_lengths (x + 1 - l) l (level below R t p) i (plain_shut below R t p (plain_of p d.0 d.1)))
      level_shut (Call r) k i d h le s1 = shut_called r k i h d le s1 (slice_get R r) refl
      level_shut (Capture c p) k i d h le s1 = shut_under c i (level below R t p i) (level_shut p k i d h le s1)
      level_shut (Note x) k i d h le s1 = tt
      level_shut Start k i d h le s1 = shut_if (nat_eq i 0) (At 1 i NoTree) (Fail 1) tt tt
      level_shut End k i d h le s1 = shut_if (nat_eq i (length t)) (At 1 i NoTree) (Fail 1) tt tt
      level_shut Halt k i d h le s1 = tt

      level_all_shut : (ps : Cores) (k i : ℕ) → AreTidy m (length R) ps → AllCallBelow m rank k ps → i ≤ length t
          → Serves n k i → Shut (level_all below R t ps i)
      level_all_shut NoMore k i d h le s1 = tt
      level_all_shut (Then p ps) k i d h le s1 =
          shut_then (fewest (may_be_empty m p)) i (length t) (level below R t p i) (level_all below R t ps)
          (level_shut p k i d.0 h.0 le s1) (onward p i le)
          (λ j on le1. next_shut (may_be_empty m p) k i j h.1 on le1 s1 (any_all_ranks ps d.1)
          (λ k1 h1 s2. level_all_shut ps k1 j d.1 h1 le1 s2))
        where
          next_shut : (b : Bool) (k1 i1 j : ℕ) → IfEmpty b (AllCallBelow m rank k1 ps) → fewest b + i1 ≤ j
              → j ≤ length t → Serves n k1 i1 → AllCallBelow m rank (length R) ps
              → ((k2 : ℕ) → AllCallBelow m rank k2 ps → Serves n k2 j → Shut (level_all below R t ps j))
              → Shut (level_all below R t ps j)
          next_shut true k1 i1 j h1 on le1 s2 any go =
              ⊎_elim (λ (lt : i1 < j). let x = serves_on n k1 i1 j lt le1 s2 in
              go (length R) any (omega arith)) (λ (ge : j ≤ i1). let z : i1 ≡ j = omega arith in
              go k1 h1 (subst (λ y. Serves n k1 y) z s2)) (cases_lt i1 j)
          next_shut false k1 i1 j h1 on le1 s2 any go =
              let x = serves_on n k1 i1 j (omega arith) le1 s2 in go (length R) any (omega arith)

      first_shut : (ps : Cores) (k i : ℕ) → AreTidy m (length R) ps → EachCallsBelow m rank k ps → i ≤ length t
          → Serves n k i → Shut (level_first below R t ps i)
      first_shut NoMore k i d h le s1 = tt
      first_shut (Then p NoMore) k i d h le s1 = level_shut p k i d.0 h.0 le s1
      first_shut (Then p (Then q ps)) k i d h le s1 =
          shut_or (level below R t p i) i (level_first below R t (Then q ps)) (level_shut p k i d.0 h.0 le s1)
          (first_shut (Then q ps) k i d.1 h.1 le s1)

  -- nor is any depth that serves
  peg_shut : (n : ℕ) (e : Core) (k i : ℕ) → IsTidy m (length R) e → CallsBelow m rank k e → i ≤ length t → Serves n k i
      → Shut (peg n R t e i)
  peg_shut zero = level_shut zero no_depth (peg_onward m R t empties zero) (λ n1 z. absurd (cc))
  peg_shut (suc n) =
      level_shut (suc n) (peg n R t) (peg_onward m R t empties (suc n))
      (λ n1 z e k i d h le s. let y : n ≡ n1 = omega arith in
      peg_shut n e k i d h le (subst (λ v. Serves v k i) (sym y) s))

-- the meaning is whole
pub ends_holds : TerminationLaw
ends_holds m rank R g t c = never (peg (depth t R) R t g 0) shut
  where
    enough : height (length R) (length t - 0) + length R ≤ depth t R
    enough =
        let h = height_times (length R) (length t) in
        let z : length t - 0 ≡ length t = omega arith in
        rw z (omega arith)

    shut : Shut (peg (depth t R) R t g 0)
    shut =
        peg_shut m rank R t c.empties c.low c.falls c.rules (depth t R) g (length R) 0 c.goal
        (any_ranks m rank R t c.empties c.low c.falls c.rules g c.goal) (omega arith) enough

    never : (o : Outcome) → Shut o → as_match o ≢ Open
    never Open h = absurd h
    never (Fail w) h = λ e. absurd (cc)
    never (At w j f) h = λ e. absurd (cc)
    never (HaltAt w j f) h = λ e. absurd (cc)
