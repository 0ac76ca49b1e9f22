-- The rules of a module as statements lay them: a binding alone, or the rules of a block side by side.
use Rattle.std.proofs.Common.{arith, ◌≡◌, ◌≤◌, ◌<◌, ◌⊎◌, inl, inr, ℕ, ◌+◌, List, [], ◌∷◌, ◌++◌, length}
use Rattle.std.proofs.Common.{Some, ap}
use Rattle.std.specs.Prelude.{slice_get}
use native.Mathlib.Decide.{dec_lt}
use Rattle.rpl_scope.specs.Packages.{Rule}
use Rattle.rpl_names.proofs.Numbering.{nth_within}
use Rattle.rpl_names.specs.Tables.{boundary_name}
use Rattle.rpl_expand.proofs.Lists.{nth_end}

-- The k-th rule of a module: its statement starts no later; it stands alone, or in a block; and all rules from its
-- statement's start up to it are of its statement. A boundary stands alone.
pub record IsRule (rs : List Rule) (k : ℕ) (r : Rule) : Type 0 where
  pub behind : r.start ≤ k
  pub kind : (r.since ≡ r.start) ⊎ ((r.since ≡ r.start + 1) × (r.start ≡ k))
  pub near : (j : ℕ) (q : Rule) → slice_get rs j ≡ Some q → r.start ≤ j → j ≤ k → (q.start ≡ r.start)
      × (q.since ≡ r.since)
  pub mark : r.name ≡ boundary_name → r.since ≡ r.start + 1

pub record AreLaid (rs : List Rule) : Type 0 where
  pub each : (k : ℕ) (r : Rule) → slice_get rs k ≡ Some r → IsRule rs k r

-- the rule may stand after these
pub record MayFollow (rs : List Rule) (r : Rule) : Type 0 where
  pub behind : r.start ≤ length rs
  pub kind : (r.since ≡ r.start) ⊎ ((r.since ≡ r.start + 1) × (r.start ≡ length rs))
  pub near : (j : ℕ) (q : Rule) → slice_get rs j ≡ Some q → r.start ≤ j → (q.start ≡ r.start) × (q.since ≡ r.since)
  pub mark : r.name ≡ boundary_name → r.since ≡ r.start + 1

module _ (rs : List Rule) (r : Rule) (laid : AreLaid rs) (may : MayFollow rs r) where
  near_old : (k : ℕ) (q : Rule) → slice_get rs k ≡ Some q → (j : ℕ) (p : Rule) → (slice_get rs j ≡ Some p)
      ⊎ ((j ≡ length rs) × (p ≡ r))
      → q.start ≤ j → j ≤ k → (p.start ≡ q.start) × (p.since ≡ q.since)
  near_old k q h j p (inl g) le up = (laid.each k q h).near j p g le up
  near_old k q h j p (inr g) le up = let w = nth_within rs k q h in let e = g.0 in absurd (omega (arith, w, e, up))

  near_new : (j : ℕ) (p : Rule) → (slice_get rs j ≡ Some p) ⊎ ((j ≡ length rs) × (p ≡ r)) → r.start ≤ j
      → (p.start ≡ r.start) × (p.since ≡ r.since)
  near_new j p (inl g) le = may.near j p g le
  near_new j p (inr g) le = (ap (λ x. x.start) g.1, ap (λ x. x.since) g.1)

  new_is : IsRule (rs ++ r ∷ []) (length rs) r
  new_is = record {
    behind = may.behind;
    kind = may.kind;
    near = λ j p h le up. near_new j p (nth_end rs r j p h) le;
    mark = may.mark;
  }

  by : (k : ℕ) (q : Rule) → (slice_get rs k ≡ Some q) ⊎ ((k ≡ length rs) × (q ≡ r)) → IsRule (rs ++ r ∷ []) k q
  by k q (inl g) =
      let o = laid.each k q g in
      record {
        behind = o.behind;
        kind = o.kind;
        near = λ j p h le up. near_old k q g j p (nth_end rs r j p h) le up;
        mark = o.mark;
      }
  by k q (inr g) = rw (g.0, g.1) new_is

  -- one more
  pub laid_more : AreLaid (rs ++ r ∷ [])
  laid_more = record { each = λ k q h. by k q (nth_end rs r k q h) }

pub laid_none : AreLaid []
laid_none = record { each = λ k r h. absurd (cc) }

-- ---- which rules a statement's names may mean

-- both stand in one block
pub record InOneBlock (a r : Rule) : Type 0 where
  pub start : r.start ≡ a.start
  pub own : a.since ≡ a.start
  pub its : r.since ≡ r.start

module _ (rs : List Rule) (k t : ℕ) (a r : Rule) (laid : AreLaid rs) (first : slice_get rs k ≡ Some a)
    (later : slice_get rs t ≡ Some r) (since : a.since ≤ r.start) where
  begun : a.start ≤ r.start
  begun = from (laid.each k a first).kind
    where
      from : (a.since ≡ a.start) ⊎ ((a.since ≡ a.start + 1) × (a.start ≡ k)) → a.start ≤ r.start
      from (inl e) = omega (arith, e, since)
      from (inr e) = let f = e.0 in omega (arith, f, since)

  -- a rule that stands no earlier, and whose name counts
  up_to : t ≤ k → (a.since ≡ a.start) ⊎ ((a.since ≡ a.start + 1) × (a.start ≡ k)) → InOneBlock a r
  up_to le (inl e) =
      let b = (laid.each t r later).behind in
      let n = (laid.each k a first).near t r later (omega (arith, begun, b)) le in
      let s = n.0 in let v = n.1 in
      record { start = s; own = e; its = omega (arith, s, v, e) }
  up_to le (inr e) =
      let b = (laid.each t r later).behind in
      let n = (laid.each k a first).near t r later (omega (arith, begun, b)) le in
      let s = n.0 in let f = e.0 in absurd (omega (arith, s, f, since))

  by_order : Dec (k < t) → (k < t) ⊎ ((t ≤ k) × InOneBlock a r)
  by_order (yes lt) = inl lt
  by_order (no h) = let le : t ≤ k = omega (arith, h) in inr (le, up_to le (laid.each k a first).kind)

  -- a rule whose name counts in a statement stands before it, or in its block
  pub counts : (k < t) ⊎ ((t ≤ k) × InOneBlock a r)
  counts = by_order (dec_lt k t)

-- and a boundary stands before it
pub marks : (rs : List Rule) (k t : ℕ) (a r : Rule) → AreLaid rs → slice_get rs k ≡ Some a → slice_get rs t ≡ Some r
    → a.since ≤ r.start
    → a.name ≡ boundary_name → k < t
marks rs k t a r laid first later since name = by (counts rs k t a r laid first later since)
  where
    by : (k < t) ⊎ ((t ≤ k) × InOneBlock a r) → k < t
    by (inl lt) = lt
    by (inr g) = let o = g.1.own in let m = (laid.each k a first).mark name in absurd (omega (arith, o, m))
