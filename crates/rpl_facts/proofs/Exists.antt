-- Each table has its static facts, and one set of them.
use Rattle.std.proofs.Common.{◌≡◌, ℕ, ◌<◌, List, length, subst, ⊎_elim, inl, inr}
use mathlib.Core.Path.{fun_ext}
use Rattle.std.proofs.lemmas.Option.{slice_get_within}
use Rattle.std.specs.Prelude.{Bool, true, false, ◌&&◌, not, ◌⊎◌, slice_get}
use Rattle.rpl_core.specs.Core.{Core}
use Rattle.rpl_core.specs.Programs.{calls}
use Rattle.rpl_compile_laws.specs.Static.{may_be_empty}
use Rattle.rpl_compile_laws.specs.Static.{may_halt}
use Rattle.rpl_facts.specs.Facts.{IsLeast, Solves, Follows, Facts, passes, calls_here}
use Rattle.rpl_facts.specs.Laws.{CallsStay, AreSame}
use Rattle.rpl_facts.proofs.Least.{least_unique, empty_grows, halt_grows, here_called}
use Rattle.rpl_core.proofs.Bools.{both, paired, not_on, on_of}
use Rattle.rpl_core.proofs.Growth.{some_below, pair_below, closed_exists}
use Rattle.rpl_facts.proofs.Tests.{passing, pass_at}

-- what is missing of a closed set: a number that each closed set above has
abbrev pub Missing : ((ℕ → Bool) → Type 0) → ℕ → (ℕ → Bool) → Type 0
Missing closed n m = (q : ℕ) × (q < n) × (m q ≡ false)
    × ((k : ℕ → Bool) → closed k → ((r : ℕ) → m r ≡ true → k r ≡ true) → k q ≡ true)

pub least_exists : (closed : (ℕ → Bool) → Type 0) (n : ℕ) → ((m : ℕ → Bool) → closed m ⊎ Missing closed n m)
    → (s : ℕ → Bool) × IsLeast closed s
least_exists closed n find =
    let x = closed_exists closed (λ r. (k : ℕ → Bool) → closed k
    → k r ≡ true) n (λ m under. ⊎_elim inl (λ h. inr (h.0, h.1, h.2, λ k c. h.3 k c (λ r e. under r e k c))) (find m))
    in
    (x.0, record { solution = x.1; least = λ k c r e. x.2 r e k c })

module _ (test : (ℕ → Bool) → Core → Bool)
    (grows : (m k : ℕ → Bool) (e : Core) → ((r : ℕ) → calls e r ≡ true → m r ≡ true → k r ≡ true) → test m e ≡ true
    → test k e ≡ true)
    (R : List Core) where
  abbrev open_rule : (ℕ → Bool) → ℕ → Bool
  open_rule m r = passes (test m) (slice_get R r) && not (m r)

  solve_find : (m : ℕ → Bool) → Solves test R m ⊎ Missing (Solves test R) (length R) m
  solve_find m = ⊎_elim (λ h. inr (missing h)) (λ none. inl (closed none)) (some_below (open_rule m) (length R))
    where
      missing : ((r : ℕ) × (r < length R) × (open_rule m r ≡ true)) → Missing (Solves test R) (length R) m
      missing h =
          let s = both (passes (test m) (slice_get R h.0)) (not (m h.0)) h.2 in
          let x = passing (test m) R h.0 s.0 in (
            h.0,
            h.1,
            not_on (m h.0) s.1,
            λ k c up. c h.0 (pass_at (test k) R h.0 x.0 x.1 (grows m k x.0 (λ r d e. up r e) x.2)),
          )

      closed : ((r : ℕ) → r < length R → open_rule m r ≡ false) → Solves test R m
      closed none r e = let x = passing (test m) R r e in
          on_of (passes (test m) (slice_get R r)) (m r) (none r (slice_get_within R r x.0 x.1)) e

module _ (R : List Core) (stay : CallsStay R) (m : ℕ → Bool) (r : ℕ) where
  abbrev at : ℕ → ℕ → Bool
  at q t = passes (λ p. calls_here m p t) (slice_get R q)

  called_in : (q t : ℕ) → at q t ≡ true → t < length R
  called_in q t e = let x = passing (λ p. calls_here m p t) R q e in stay q t x.0 x.1 (here_called m t x.0 x.2)

  caller_in : (q t : ℕ) → at q t ≡ true → q < length R
  caller_in q t e = let x = passing (λ p. calls_here m p t) R q e in slice_get_within R q x.0 x.1

  abbrev first_open : (ℕ → Bool) → ℕ → Bool
  first_open s t = at r t && not (s t)

  abbrev further_open : (ℕ → Bool) → ℕ → ℕ → Bool
  further_open s q t = (s q && at q t) && not (s t)

  pub reach_find : (s : ℕ → Bool) → Follows R m r s ⊎ Missing (Follows R m r) (length R) s
  reach_find s = ⊎_elim (λ h. inr (early h)) (λ none. ⊎_elim (λ h. inr (late h)) (λ rest. inl (closed none rest))
      (pair_below (further_open s) (length R) (length R))) (some_below (first_open s) (length R))
    where
      early : ((t : ℕ) × (t < length R) × (first_open s t ≡ true)) → Missing (Follows R m r) (length R) s
      early h = let x = both (at r h.0) (not (s h.0)) h.2 in (h.0, h.1, not_on (s h.0) x.1, λ k c up. c.first h.0 x.0)

      late : ((q : ℕ) × (t : ℕ) × (t < length R) × (further_open s q t ≡ true)) → Missing (Follows R m r) (length R) s
      late h =
          let x = both (s h.0 && at h.0 h.1) (not (s h.1)) h.3 in
          let y = both (s h.0) (at h.0 h.1) x.0 in
          (h.1, h.2, not_on (s h.1) x.1, λ k c up. c.further h.0 h.1 (up h.0 y.0) y.1)

      closed : ((t : ℕ) → t < length R → first_open s t ≡ false)
          → ((q : ℕ) → q < length R → (t : ℕ) → t < length R → further_open s q t ≡ false) → Follows R m r s
      closed none rest = record {
        first = λ t e. on_of (at r t) (s t) (none t (called_in r t e)) e;
        further = λ q t x e. on_of (s q && at q t) (s t) (rest q (caller_in q t e) t (called_in q t e))
            (paired (s q) (at q t) x e);
      }

-- the facts of a table, where those of its rules that may be empty and those that may halt are known
abbrev pub facts_with : (R : List Core) → CallsStay R → (m h : ℕ → Bool) → IsLeast (Solves may_be_empty R) m
    → IsLeast (Solves may_halt R) h → Facts R
facts_with R stay m h empty halt = record {
  empties = m;
  halting = h;
  reach = λ r. (least_exists (Follows R m r) (length R) (reach_find R stay m r)).0;
  empties_least = empty;
  halting_least = halt;
  reach_least = λ r. (least_exists (Follows R m r) (length R) (reach_find R stay m r)).1;
}

-- each table whose calls stay in it has its facts
pub facts_of : (R : List Core) → CallsStay R → Facts R
facts_of R stay =
    let m = least_exists (Solves may_be_empty R) (length R)
    (solve_find may_be_empty (λ m k e up. empty_grows m k e up) R) in
    let h = least_exists (Solves may_halt R) (length R) (solve_find may_halt (λ m k e up. halt_grows m k e up) R) in
    facts_with R stay m.0 h.0 m.1 h.1

-- and no others
pub facts_same : (R : List Core) (d e : Facts R) → AreSame R d e
facts_same R d e =
    let m = least_unique (Solves may_be_empty R) d.empties e.empties d.empties_least e.empties_least in
    record {
      empties = m;
      halting = least_unique (Solves may_halt R) d.halting e.halting d.halting_least e.halting_least;
      reach = fun_ext (λ r. least_unique (Follows R e.empties r) (d.reach r) (e.reach r)
          (subst (λ x. IsLeast (Follows R x r) (d.reach r)) m (d.reach_least r)) (e.reach_least r));
    }
