-- The rules that a goal reaches can be marked, so each goal has a code.
use Rattle.std.proofs.Common.{ℕ, zero, suc, ◌≡◌, ◌+◌, ◌<◌, ◌≤◌, List, [], ◌∷◌, length, refl, ap, ⊎_elim, inl, inr}
use Rattle.std.proofs.Common.{arith}
use Rattle.std.specs.Prelude.{Bool, true, false, ◌&&◌, not, ◌⊎◌, ◌↔◌, Some, slice_get}
use Rattle.std.proofs.lemmas.Option.{slice_get_within}
use Rattle.rpl_facts.proofs.Tests.{passing, pass_at}
use Rattle.rpl_facts.specs.Facts.{passes}
use Rattle.rpl_core.proofs.Bools.{both, either, eq_of, not_on, on_of, paired}
use Rattle.rpl_core.proofs.Growth.{Belong, Missing, closed_exists, pair_below, some_below}
use Rattle.rpl_core.specs.Core.{Core, Cores, NoMore, Then}
use Rattle.rpl_core.specs.Core as C
use Rattle.rpl_core.specs.Instr.{Instr}
use Rattle.rpl_core.specs.Programs.{calls, calls_any, program, by_goal, by_rule, IsCode, Reaches}

-- a number above those of the rules that a core calls
abbrev mutual
  pub above : Core → ℕ
  above (C.Set s) = 0
  above (C.Seq ps) = above_all ps
  above (C.Choice ps) = above_all ps
  above (C.Many p) = above p
  above (C.Not p) = above p
  above (C.And p) = above p
  above (C.Behind l m p) = above p
  above (C.Call r) = r + 1
  above (C.Capture c p) = above p
  above (C.Note x) = 0
  above C.Start = 0
  above C.End = 0
  above C.Halt = 0

  pub above_all : Cores → ℕ
  above_all NoMore = 0
  above_all (Then p ps) = above p + above_all ps

mutual
  called_below : (e : Core) (r : ℕ) → calls e r ≡ true → r < above e
  called_below (C.Set s) r e = absurd (cc)
  called_below (C.Seq ps) r e = any_below ps r e
  called_below (C.Choice ps) r e = any_below ps r e
  called_below (C.Many p) r e = called_below p r e
  called_below (C.Not p) r e = called_below p r e
  called_below (C.And p) r e = called_below p r e
  called_below (C.Behind l m p) r e = called_below p r e
  called_below (C.Call q) r e = let same = eq_of q r e in omega arith
  called_below (C.Capture c p) r e = called_below p r e
  called_below (C.Note x) r e = absurd (cc)
  called_below C.Start r e = absurd (cc)
  called_below C.End r e = absurd (cc)
  called_below C.Halt r e = absurd (cc)

  any_below : (ps : Cores) (r : ℕ) → calls_any ps r ≡ true → r < above_all ps
  any_below NoMore r e = absurd (cc)
  any_below (Then p ps) r e =
      either (calls p r) (calls_any ps r) (λ h. let x = called_below p r h in omega arith)
      (λ h. let x = any_below ps r h in omega arith) e

abbrev above_rows : List Core → ℕ
above_rows [] = 0
above_rows (p ∷ ps) = above p + above_rows ps

row_below : (R : List Core) (q : ℕ) (p : Core) → slice_get R q ≡ Some p → above p ≤ above_rows R
row_below [] q p e = absurd (cc)
row_below (x ∷ R) zero p e = let same : x ≡ p = cc in let k = ap above same in omega arith
row_below (x ∷ R) (suc q) p e = let h = row_below R q p e in omega arith

-- the marks of a goal and its table
module _ (R : List Core) (g : Core) where
  record IsClosed (m : ℕ → Bool) : Type 0 where
    goal : (r : ℕ) → calls g r ≡ true → m r ≡ true
    rules : (q r : ℕ) (p : Core) → m q ≡ true → slice_get R q ≡ Some p → calls p r ≡ true → m r ≡ true

  abbrev most : ℕ
  most = above g + above_rows R

  abbrev goal_open : (ℕ → Bool) → ℕ → Bool
  goal_open m r = calls g r && not (m r)

  abbrev calls_at : ℕ → ℕ → Bool
  calls_at q r = passes (λ p. calls p r) (slice_get R q)

  abbrev rule_open : (ℕ → Bool) → ℕ → ℕ → Bool
  rule_open m q r = (m q && calls_at q r) && not (m r)

  find : (m : ℕ → Bool) → Belong (Reaches R g) m → IsClosed m ⊎ Missing (Reaches R g) most m
  find m reached =
      ⊎_elim (λ h. inr (by_the_goal h))
      (λ none. ⊎_elim (λ h. inr (by_a_rule h)) (λ rest. inl (closed none rest))
      (pair_below (rule_open m) most (length R)))
      (some_below (goal_open m) most)
    where
      by_the_goal : ((r : ℕ) × (r < most) × (goal_open m r ≡ true)) → Missing (Reaches R g) most m
      by_the_goal h = let x = both (calls g h.0) (not (m h.0)) h.2 in (h.0, h.1, not_on (m h.0) x.1, by_goal h.0 x.0)

      by_a_rule : ((q : ℕ) × (r : ℕ) × (r < most) × (rule_open m q r ≡ true)) → Missing (Reaches R g) most m
      by_a_rule h =
          let x = both (m h.0 && calls_at h.0 h.1) (not (m h.1)) h.3 in
          let y = both (m h.0) (calls_at h.0 h.1) x.0 in
          let z = passing (λ p. calls p h.1) R h.0 y.1 in
          (h.1, h.2, not_on (m h.1) x.1, by_rule h.0 h.1 z.0 (reached h.0 y.0) z.1 z.2)

      closed : ((r : ℕ) → r < most → goal_open m r ≡ false)
          → ((q : ℕ) → q < length R → (r : ℕ) → r < most → rule_open m q r ≡ false) → IsClosed m
      closed none rest = record {
        goal = λ r e. let h = called_below g r e in on_of (calls g r) (m r) (none r (omega arith)) e;
        rules = λ q r p on at e.
            let h = called_below p r e in
            let k = row_below R q p at in
            let here = pass_at (λ x. calls x r) R q p at e in
            on_of (m q && calls_at q r) (m r) (rest q (slice_get_within R q p at) r (omega arith))
            (paired (m q) (calls_at q r) on here);
      }

  pub some_marks : (marks : ℕ → Bool) × ((r : ℕ) → (marks r ≡ true) ↔ Reaches R g r)
  some_marks =
      let s = closed_exists IsClosed (Reaches R g) most find in (s.0, λ r. (s.2 r, back s.0 s.1 r))
    where
      back : (m : ℕ → Bool) → IsClosed m → (r : ℕ) → Reaches R g r → m r ≡ true
      back m c r (by_goal s e) = c.goal r e
      back m c r (by_rule q s p h at e) = c.rules q r p (back m c q h) at e

  pub some_code : (code : List Instr) × IsCode R g code
  some_code =
      let s = some_marks in (program s.0 R g, record { marks = s.0; exact = s.1; same = refl })
