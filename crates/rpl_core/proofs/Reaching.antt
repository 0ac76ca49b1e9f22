-- Which rules a goal reaches can be told, so each goal has its code.
use Rattle.std.proofs.Common.{◌≡◌, ℕ, zero, suc, ◌<◌, ◌≤◌, List, [], ◌∷◌, length, refl, ap, ◌∙◌, ⊎_elim, inl, inr}
use Rattle.std.proofs.Common.{arith}
use Rattle.std.proofs.lemmas.Option.{slice_get_within}
use Rattle.std.specs.Prelude.{Bool, true, false, ◌&&◌, not, max, Option, Some, None, ◌⊎◌, slice_get}
use Rattle.rpl_core.specs.Core.{Core, Set, Seq, Choice, Many, Not, And, Behind, Call, Capture, Note, Start, End, Halt}
use Rattle.rpl_core.specs.Core.{Cores, NoMore, Then}
use Rattle.rpl_core.specs.Laws.{HasCodeLaw}
use Rattle.rpl_core.specs.Programs.{calls, calls_any, Reaches, by_goal, by_rule, IsCode, program}
use Rattle.rpl_core.proofs.Bools.{either, both, paired, not_on, eq_of, on_of}
use Rattle.rpl_core.proofs.Growth.{some_below, pair_below, Belong, Missing, closed_exists}

-- above the numbers of all rules that a core calls
abbrev mutual
  bound : Core → ℕ
  bound (Set s) = 0
  bound (Seq ps) = bounds ps
  bound (Choice ps) = bounds ps
  bound (Many p) = bound p
  bound (Not p) = bound p
  bound (And p) = bound p
  bound (Behind l m p) = bound p
  bound (Call r) = suc r
  bound (Capture c p) = bound p
  bound (Note x) = 0
  bound Start = 0
  bound End = 0
  bound Halt = 0

  bounds : Cores → ℕ
  bounds NoMore = 0
  bounds (Then p ps) = max (bound p) (bounds ps)

mutual
  below : (p : Core) (r : ℕ) → calls p r ≡ true → r < bound p
  below (Set s) r e = absurd (cc)
  below (Seq ps) r e = below_all ps r e
  below (Choice ps) r e = below_all ps r e
  below (Many p) r e = below p r e
  below (Not p) r e = below p r e
  below (And p) r e = below p r e
  below (Behind l m p) r e = below p r e
  below (Call q) r e = let z = eq_of q r e in omega arith
  below (Capture c p) r e = below p r e
  below (Note x) r e = absurd (cc)
  below Start r e = absurd (cc)
  below End r e = absurd (cc)
  below Halt r e = absurd (cc)

  below_all : (ps : Cores) (r : ℕ) → calls_any ps r ≡ true → r < bounds ps
  below_all NoMore r e = absurd (cc)
  below_all (Then p ps) r e = either (calls p r) (calls_any ps r) (λ x. let l = below p r x in
      omega arith) (λ x. let l = below_all ps r x in omega arith) e

-- those that all cores of a table call
abbrev all_bounds : List Core → ℕ
all_bounds [] = 0
all_bounds (p ∷ ps) = max (bound p) (all_bounds ps)

within_bounds : (R : List Core) (q : ℕ) (p : Core) → slice_get R q ≡ Some p → bound p ≤ all_bounds R
within_bounds [] q p is = absurd (cc)
within_bounds (x ∷ xs) zero p is = let z : x ≡ p = cc in let e = ap bound z in omega arith
within_bounds (x ∷ xs) (suc q) p is = let l = within_bounds xs q p is in omega arith

-- the body of a rule calls t, if there is the rule
abbrev body_calls : Option Core → ℕ → Bool
body_calls None t = false
body_calls (Some p) t = calls p t

module _ (R : List Core) (g : Core) where
  n : ℕ
  n = max (bound g) (max (all_bounds R) (length R))

  abbrev at : ℕ → ℕ → Bool
  at q t = body_calls (slice_get R q) t

  body_at : (q t : ℕ) → at q t ≡ true → (p : Core) × (slice_get R q ≡ Some p) × (calls p t ≡ true)
  body_at q t = go (slice_get R q) refl
    where
      go : (o : Option Core) → slice_get R q ≡ o → body_calls o t ≡ true → (p : Core) × (slice_get R q ≡ Some p)
          × (calls p t ≡ true)
      go None e h = absurd (cc)
      go (Some p) e h = (p, e, h)

  record Closed (s : ℕ → Bool) : Type 0 where
    goal : (t : ℕ) → calls g t ≡ true → s t ≡ true
    rules : (q t : ℕ) → s q ≡ true → at q t ≡ true → s t ≡ true

  abbrev first_open : (ℕ → Bool) → ℕ → Bool
  first_open s t = calls g t && not (s t)

  abbrev further_open : (ℕ → Bool) → ℕ → ℕ → Bool
  further_open s q t = (s q && at q t) && not (s t)

  in_goal : (t : ℕ) → calls g t ≡ true → t < n
  unfolding n
  in_goal t e = let l = below g t e in omega arith

  in_rules : (q t : ℕ) → at q t ≡ true → (q < n) × (t < n)
  unfolding n
  in_rules q t e =
      let x = body_at q t e in
      let l = below x.0 t x.2 in
      let w = within_bounds R q x.0 x.1 in
      let i = slice_get_within R q x.0 x.1 in
      (omega arith, omega arith)

  find : (s : ℕ → Bool) → Belong (Reaches R g) s → Closed s ⊎ Missing (Reaches R g) n s
  find s known = ⊎_elim (λ h. inr (early h)) (λ none. ⊎_elim (λ h. inr (late h)) (λ rest. inl (closed none rest))
      (pair_below (further_open s) n n)) (some_below (first_open s) n)
    where
      early : ((t : ℕ) × (t < n) × (first_open s t ≡ true)) → Missing (Reaches R g) n s
      early h = let x = both (calls g h.0) (not (s h.0)) h.2 in (h.0, h.1, not_on (s h.0) x.1, by_goal h.0 x.0)

      late : ((q : ℕ) × (t : ℕ) × (t < n) × (further_open s q t ≡ true)) → Missing (Reaches R g) n s
      late h =
          let x = both (s h.0 && at h.0 h.1) (not (s h.1)) h.3 in
          let y = both (s h.0) (at h.0 h.1) x.0 in
          let b = body_at h.0 h.1 y.1 in
          (h.1, h.2, not_on (s h.1) x.1, by_rule h.0 h.1 b.0 (known h.0 y.0) b.1 b.2)

      closed : ((t : ℕ) → t < n → first_open s t ≡ false)
          → ((q : ℕ) → q < n → (t : ℕ) → t < n → further_open s q t ≡ false) → Closed s
      closed none rest = record {
        goal = λ t e. on_of (calls g t) (s t) (none t (in_goal t e)) e;
        rules = λ q t x e. let i = in_rules q t e in
            on_of (s q && at q t) (s t) (rest q i.0 t i.1) (paired (s q) (at q t) x e);
      }

  marked_of : (s : ℕ → Bool) → Closed s → (r : ℕ) → Reaches R g r → s r ≡ true
  marked_of s c _ (by_goal r e) = c.goal r e
  marked_of s c _ (by_rule q r p before is e) = c.rules q r (marked_of s c q before) (ap (λ o. body_calls o r) is ∙ e)

  code_of : (code : _) × IsCode R g code
  code_of =
      let x = closed_exists Closed (Reaches R g) n find in
      (program x.0 R g, record { marks = x.0; exact = λ r. (x.2 r, marked_of x.0 x.1 r); same = refl })

-- a goal has a code over a table
pub has_code : HasCodeLaw
has_code R g = code_of R g
