-- Rows that aren't too large are those of rules of the code.
use Rattle.std.proofs.Common.{ℕ, ◌≡◌, ◌+◌, ◌≤◌, Bool, true, false, ◌||◌, cond, List, [], ◌∷◌, length, refl, ◌∙◌, ap}
use Rattle.std.proofs.Common.{arith, Box, Global, Vec}
use Rattle.std.specs.Prelude.{Option, Some, None, nat_lt}
use Rattle.std.specs.Option.{option_or}
use mathlib.Core.Former.{this, list_count, none_left}
use denote.RawPtr.{null_ptr}
use Rattle.rpl_core.specs.Core as C
use Rattle.rpl_core.specs.Core.{Core, Cores}
use Rattle.rpl_core.specs.View.{core_of, cores_of}
use Rattle.rpl_core.specs.declared.peg.Peg.{Peg, Set, Seq', Choice', Many', Not', And', Behind', Call, Capture'}
use Rattle.rpl_core.specs.declared.peg.Peg.{Note, Start, End, Halt, Row_of-Peg, end_of-Peg, more_of-Peg}
use Rattle.rpl_core.specs.declared.rules.Rule.{Rule}
use Rattle.rpl_expand.specs.Faults.{Fault, size_fault, table_fault}
use Rattle.rpl_forms.specs.Rows.{Row, row_at, rows_of}
use Rattle.rpl_forms.specs.Sizes.{nodes, all_nodes}

-- ---- where the parts of a pattern lie is of no matter

abbrev heap : Global
heap = record { memory = record { seal = tt } }

abbrev box : Box (Unit {0}) Global
box = record { ptr = null_ptr; alloc = heap; value = tt }

abbrev units : Cores → List (Unit {0})
units C.NoMore = []
units (C.Then p ps) = tt ∷ units ps

some_nodes : (p : Core) → 1 ≤ nodes p
some_nodes (C.Set s) = omega arith
some_nodes _ = omega arith

few_units : (ps : Cores) → length (units ps) ≤ all_nodes ps
few_units C.NoMore = omega arith
few_units (C.Then p ps) = let h = some_nodes p in let k = few_units ps in omega arith

abbrev vec : (ps : Cores) → all_nodes ps ≤ 65536 → Vec (Unit {0}) Global
vec ps few = record {
  ptr = null_ptr;
  len = length (units ps);
  cap = length (units ps);
  alloc = heap;
  items = units ps;
  ok = (refl, omega arith);
  small = let h = few_units ps in omega arith;
}

-- ---- a core is that of a pattern

mutual
  peg_for : (c : Core) → nodes c ≤ 65536 → (q : Peg) × (core_of q ≡ c)
  peg_for (C.Set s) few = (Set s, refl)
  peg_for (C.Seq ps) few =
      let less : all_nodes ps ≤ 65536 = omega arith in
      let r = row_for ps less in (Seq' (vec ps less) r.0, ap C.Seq r.1)
  peg_for (C.Choice ps) few =
      let less : all_nodes ps ≤ 65536 = omega arith in
      let r = row_for ps less in (Choice' (vec ps less) r.0, ap C.Choice r.1)
  peg_for (C.Many p) few = let q = peg_for p (omega arith) in (Many' box q.0, ap C.Many q.1)
  peg_for (C.Not p) few = let q = peg_for p (omega arith) in (Not' box q.0, ap C.Not q.1)
  peg_for (C.And p) few = let q = peg_for p (omega arith) in (And' box q.0, ap C.And q.1)
  peg_for (C.Behind l m p) few = let q = peg_for p (omega arith) in (Behind' l m box q.0, ap (C.Behind l m) q.1)
  peg_for (C.Call r) few = (Call r, refl)
  peg_for (C.Capture c p) few = let q = peg_for p (omega arith) in (Capture' c box q.0, ap (C.Capture c) q.1)
  peg_for (C.Note x) few = (Note x, refl)
  peg_for C.Start few = (Start, refl)
  peg_for C.End few = (End, refl)
  peg_for C.Halt few = (Halt, refl)

  row_for : (ps : Cores) → all_nodes ps ≤ 65536
      → (r : Row_of-Peg (list_count this (units ps) none_left)) × (cores_of r ≡ ps)
  row_for C.NoMore few = (end_of-Peg, refl)
  row_for (C.Then p ps) few =
      let q = peg_for p (omega arith) in
      let r = row_for ps (omega arith) in
      (more_of-Peg q.0 r.0, ap (λ x. C.Then x (cores_of r.0)) q.1 ∙ ap (C.Then p) r.1)

-- ---- rows of rules

neither : {A : Type 0} (a b : Option A) → option_or a b ≡ None → (a ≡ None) × (b ≡ None)
neither (Some a) b e = absurd (cc)
neither None b e = (refl, e)

small_by : (a b : Bool) (f : Fault) → cond (a || b) (Some f) None ≡ None → a ≡ false
small_by true b f e = absurd (cc)
small_by false b f e = refl

small_of : (rule : Option ℕ) (p : Core) → size_fault rule p ≡ None → nodes p ≤ 65536
small_of rule p e = let t = small_by (nat_lt 65536 (nodes p)) _ _ e in grind (arith, t)

pub rules_for : (ws : List Row) (k : ℕ) → table_fault k ws ≡ None → (rs : List Rule) × (rows_of rs ≡ ws)
rules_for [] k e = ([], refl)
rules_for (w ∷ ws) k e =
    let parts = neither (size_fault (Some k) w.body) (table_fault (k + 1) ws) e in
    let q = peg_for w.body (small_of (Some k) w.body parts.0) in
    let r : Rule = record { name = w.name; block = w.block; body = q.0 } in
    let rs = rules_for ws (k + 1) parts.1 in
    let one : row_at r ≡ w = ap (λ (c : Core). record { name = w.name; block = w.block; body = c }) q.1 in
    (r ∷ rs.0, ap (λ (x : Row). x ∷ rows_of rs.0) one ∙ ap (λ (xs : List Row). w ∷ xs) rs.1)
