-- The statements of sound modules are bound in order.
use Rattle.std.proofs.Common.{arith, ◌≡◌, ◌≤◌, ◌<◌, ◌⊎◌, inl, inr, ℕ, zero, suc, ◌+◌, length}
use Rattle.std.proofs.Common.{◌-◌, Option, Some, None, refl, sym, ap, ap₂, subst, ◌∙◌}
use Rattle.std.specs.Prelude.{Result, slice_get, option_map, unwrap_or}
use Rattle.std.proofs.lemmas.Option.{slice_get_within, slice_get-map}
use Rattle.rpl_text.specs.Options.{◌>>=◌}
use Rattle.rpl_core.specs.Order.{AreTogether, block_at}
use Rattle.rpl_expand.specs.Table.{Statement}
use Rattle.rpl_expand.specs.Bound.{IsBound, AreBound, table_blocks}
use Rattle.rpl_syntax.specs.declared.name.QName.{QName}
use Rattle.rpl_scope.specs.Packages.{Rule, bound, first_rule}
use Rattle.rpl_names.proofs.Numbering.{nth_within}
use Rattle.rpl_names.specs.Roots.{Packages}
use Rattle.rpl_names.specs.Tables.{rows}
use Rattle.rpl_names.specs.Targets as T
use Rattle.rpl_names.specs.Targets.{Site, body, boundary, boundary_mark, head, head_of, resolved}
use Rattle.rpl_names.specs.Targets.{resolved_at, resolved_in, rule_in, site, target}
use Rattle.rpl_names.specs.declared.table.Row.{Row}
use Rattle.rpl_names.specs.declared.targets.NameFault.{NameFault}
use Rattle.rpl_names.specs.declared.targets.Target.{Target}
use Rattle.rpl_expand.proofs.Aiming.{Aims, aims, mark_aims}
use Rattle.rpl_expand.proofs.Blocks.{AllLaid, side, together}
use Rattle.rpl_expand.proofs.Laying.{InOneBlock}
use Rattle.rpl_expand.proofs.Lists.{nth_found}
use Rattle.rpl_expand.proofs.Modules.{AreSound}
use Rattle.rpl_expand.proofs.Rows.{Located, located, first_least}
use Rattle.rpl_expand.proofs.Seeing.{sees}
use Rattle.rpl_expand.specs.Sets.{rule_of, statement_at, statement_by, statements, statements_from}
use Rattle.rpl_expand.specs.Sets.{with_one}

-- ---- the statement of a row

abbrev pub Spot : Packages → ℕ → Row → Type 0
Spot p n w = Located 0 0 p.stock.modules n w

from_owner : (p : Packages) (n : ℕ) (w : Row) (l : Spot p n w) → w.from ≡ l.owner
from_owner p n w l = let c = l.counts in let e = ap (λ x. x.from) l.row in omega (arith, c, e)

from_place : (p : Packages) (n : ℕ) (w : Row) (l : Spot p n w) → w.place ≡ l.place
from_place p n w l = ap (λ x. x.place) l.row

-- its rule
pub ruled : (p : Packages) (n : ℕ) (w : Row) (l : Spot p n w) → rule_in p.stock.modules w.from w.place ≡ Some l.rule
ruled p n w l =
    ap₂ (rule_in p.stock.modules) (from_owner p n w l) (from_place p n w l)
    ∙ ap (λ o. o >>= (λ m. slice_get m.rules l.place)) l.at ∙ l.has

abbrev site_in : (i start : ℕ) → Site
site_in i start = record { owner = i; start = start }

module _ (p : Packages) (n : ℕ) (w : Row) (at : slice_get (rows p.stock.modules) n ≡ Some w) (l : Spot p n w) where
  head_is : head p (suc (suc n)) ≡ Some (head_of p w l.rule)
  head_is = ap (λ o. T.head_by p o) at ∙ ap (λ o. o >>= (λ r. Some (head_of p w r))) (ruled p n w l)

  pub body_is : body p (suc (suc n)) ≡ Some l.rule.body
  body_is =
      ap (λ o. (o >>= (λ r. rule_in p.stock.modules r.from r.place)) >>= (λ r. Some r.body)) at
      ∙ ap (λ o. o >>= (λ r. Some r.body)) (ruled p n w l)

  pub stated : statement_at p (suc (suc n)) ≡ Some (statement_by p (suc (suc n)) (head_of p w l.rule) l.rule.body)
  stated =
      ap (λ o. o >>= (λ h. (body p (suc (suc n))) >>= (λ e. Some (statement_by p (suc (suc n)) h e)))) head_is
      ∙ ap (λ o. o >>= (λ e. Some (statement_by p (suc (suc n)) (head_of p w l.rule) e))) body_is

  pub site_is : site p (Some (suc (suc n))) ≡ Some (record { owner = l.owner; start = l.rule.start })
  site_is =
      ap (λ o. T.rule_site p o) at
      ∙ ap (λ o. o >>= (λ r. Some (site_in w.from r.start))) (ruled p n w l)
      ∙ ap (λ i. Some (site_in i l.rule.start)) (from_owner p n w l)

  resolved_on : (q : QName) → resolved_at p q
      (Some (record { owner = l.owner; start = l.rule.start })) ≡ target p.stock.modules l.owner
      (bound p.stock.modules l.home l.rule.start q)
  resolved_on q = ap (resolved_in p.stock.modules l.owner l.rule.start q) l.at

  pub resolved_is : (q : QName) → resolved p (Some (suc (suc n))) q ≡ target p.stock.modules l.owner
      (bound p.stock.modules l.home l.rule.start q)
  resolved_is q = ap (resolved_at p q) site_is ∙ resolved_on q

  pub boundary_is : unwrap_or (boundary p (Some (suc (suc n)))) 0 ≡ rule_of
      (target p.stock.modules l.owner (bound p.stock.modules l.home l.rule.start boundary_mark))
  boundary_is =
      ap (λ o. unwrap_or (o >>= (λ s. Some (rule_of (resolved_at p boundary_mark (Some s))))) 0) site_is
      ∙ ap rule_of (resolved_on boundary_mark)

-- ---- all statements

short : (p : Packages) (k n : ℕ) → length (statements_from p k n) ≤ n
short p k zero = omega arith
short p k (suc n) = by (statement_at p k) (short p (k + 1) n)
  where
    by : (o : Option Statement) → length (statements_from p (k + 1) n) ≤ n
        → length (with_one o (statements_from p (k + 1) n)) ≤ suc n
    by None h = omega (arith, h)
    by (Some s) h = omega (arith, h)

-- where each number has its statement, they stand by number
listed : (p : Packages) (k n : ℕ) → ((i : ℕ) → i < n → (s : Statement) × (statement_at p (k + i) ≡ Some s)) → (i : ℕ)
    → i < n
    → slice_get (statements_from p k n) i ≡ statement_at p (k + i)
listed p k zero f i lt = absurd (omega (arith, lt))
listed p k (suc n) f zero lt =
    let z : k + 0 ≡ k = omega arith in
    let g = f 0 lt in
    let here : statement_at p k ≡ Some g.0 = sym (ap (statement_at p) z) ∙ g.1 in
    ap (λ o. slice_get (with_one o (statements_from p (k + 1) n)) 0) here ∙ sym g.1
listed p k (suc n) f (suc i) lt =
    let z : k + 0 ≡ k = omega arith in
    let g = f 0 (omega (arith, lt)) in
    let here : statement_at p k ≡ Some g.0 = sym (ap (statement_at p) z) ∙ g.1 in
    let on : (j : ℕ) → (k + 1) + j ≡ k + suc j = λ j. omega arith in
    let rest = listed p (k + 1) n (λ j l. let h = f (suc j)
    (omega (arith, l)) in (h.0, ap (statement_at p) (on j) ∙ h.1)) i (omega (arith, lt)) in
    ap (λ o. slice_get (with_one o (statements_from p (k + 1) n)) (suc i)) here ∙ rest ∙ ap (statement_at p) (on i)

pub each_stated : (p : Packages) (i : ℕ) → i < length (rows p.stock.modules) → (s : Statement)
    × (statement_at p (2 + i) ≡ Some s)
each_stated p i lt =
    let f = nth_found (rows p.stock.modules) i lt in
    let l = located 0 0 p.stock.modules i f.0 f.1 in
    let z : 2 + i ≡ suc (suc i) = omega arith in
    (statement_by p (suc (suc i)) (head_of p f.0 l.rule) l.rule.body, ap (statement_at p) z ∙ stated p i f.0 f.1 l)

-- the n-th statement
pub nth_statement : (p : Packages) (n : ℕ) (w : Row) (at : slice_get (rows p.stock.modules) n ≡ Some w) (l : Spot p n w)
    → slice_get (statements p) n ≡ Some (statement_by p (suc (suc n)) (head_of p w l.rule) l.rule.body)
nth_statement p n w at l =
    let lt = nth_within (rows p.stock.modules) n w at in
    let z : 2 + n ≡ suc (suc n) = omega arith in
    listed p 2 (length (rows p.stock.modules)) (each_stated p) n lt ∙ ap (statement_at p) z ∙ stated p n w at l

-- each statement has its row
pub row_there : (p : Packages) (n : ℕ) (s : Statement) → slice_get (statements p) n ≡ Some s → (w : Row)
    × (slice_get (rows p.stock.modules) n ≡ Some w)
row_there p n s h =
    let a = slice_get_within (statements p) n s h in
    let b = short p 2 (length (rows p.stock.modules)) in
    nth_found (rows p.stock.modules) n (omega (arith, a, b))

-- ---- blocks

pub block_is : (p : Packages) (n : ℕ) (w : Row) → slice_get (rows p.stock.modules) n ≡ Some w
    → block_at (slice_get (table_blocks (statements p)) (suc (suc n))) ≡ w.block
block_is p n w at =
    ap block_at (slice_get-map (λ s. s.block) (statements p) n
    ∙ ap (option_map (λ s. s.block)) (nth_statement p n w at (located 0 0 p.stock.modules n w at)))

-- a rule in a block has a row
pub record InBlock (p : Packages) (n b : ℕ) : Type 0 where
  pub number : ℕ
  pub row : Row
  pub is : n ≡ suc (suc number)
  pub at : slice_get (rows p.stock.modules) number ≡ Some row
  pub block : row.block ≡ Some b

block_by : (p : Packages) (n b : ℕ) (o : Option Statement) → slice_get (statements p) n ≡ o
    → block_at (option_map (λ s. s.block) o) ≡ Some b → InBlock p (suc (suc n)) b
block_by p n b None e h = absurd (cc)
block_by p n b (Some s) e h =
    let r = row_there p n s e in
    record {
      number = n;
      row = r.0;
      is = refl;
      at = r.1;
      block = sym (block_is p n r.0 r.1) ∙ ap block_at
          (slice_get-map (λ t. t.block) (statements p) n ∙ ap (option_map (λ t. t.block)) e) ∙ h;
    }

in_block : (p : Packages) (n b : ℕ) → block_at (slice_get (table_blocks (statements p)) n) ≡ Some b → InBlock p n b
in_block p zero b h = absurd (cc)
in_block p (suc zero) b h = absurd (cc)
in_block p (suc (suc n)) b h = block_by p n b (slice_get (statements p) n) refl
    (sym (ap block_at (slice_get-map (λ t. t.block) (statements p) n)) ∙ h)

-- ---- the law

module _ (p : Packages) (sound : AreSound p.stock.modules) where
  laid : AllLaid p.stock.modules
  laid = record { each = λ i m at. (sound.each i m at).formed.laid }

  sides : (r s q b : ℕ) → r ≤ s → s ≤ q → block_at (slice_get (table_blocks (statements p)) r) ≡ Some b
      → block_at (slice_get (table_blocks (statements p)) q) ≡ Some b
      → block_at (slice_get (table_blocks (statements p)) s) ≡ Some b
  sides r s q b le up first last = between s le up (in_block p r b first) (in_block p q b last)
    where
      between : (s : ℕ) → r ≤ s → s ≤ q → InBlock p r b → InBlock p q b
          → block_at (slice_get (table_blocks (statements p)) s) ≡ Some b
      between zero le up f h = let e = f.is in absurd (omega (arith, e, le))
      between (suc zero) le up f h = let e = f.is in absurd (omega (arith, e, le))
      between (suc (suc n)) le up f h =
          let e = f.is in let d = h.is in
          let long = nth_within (rows p.stock.modules) h.number h.row h.at in
          let g = nth_found (rows p.stock.modules) n (omega (arith, d, up, long)) in
          let at = located 0 0 p.stock.modules in
          block_is p n g.0 g.1
          ∙ side p.stock.modules laid f.number n h.number b f.row g.0 h.row (omega (arith, e, le))
          (omega (arith, d, up))
          (at f.number f.row f.at) (at n g.0 g.1) (at h.number h.row h.at) f.block h.block

  module _ (n : ℕ) (w : Row) (at : slice_get (rows p.stock.modules) n ≡ Some w) (l : Spot p n w) where
    -- an earlier rule, or one of the block
    abbrev May : ℕ → Type 0
    May x = (x < suc (suc n)) ⊎ AreTogether (table_blocks (statements p)) (suc (suc n)) x

    together_with : (k : ℕ) (a : Rule) (x : ℕ) → slice_get l.home.rules k ≡ Some a → l.place ≤ k → InOneBlock a l.rule
        → x ≡ first_rule p.stock.modules l.owner + k
        → AreTogether (table_blocks (statements p)) (suc (suc n)) x
    together_with k a x h le one e =
        let least = first_least p.stock.modules l.owner in
        let j = (first_rule p.stock.modules l.owner + k) - 2 in
        let at_j : j + 2 ≡ first_rule p.stock.modules l.owner + k = omega (arith, least) in
        let is : suc (suc j) ≡ x = omega (arith, at_j, e) in
        let t = together p.stock.modules l.owner l.place k n j l.home a l.rule l.at
        (laid.each l.owner l.home l.at) h l.has le one l.number at_j in (
          t.0,
          block_is p n t.1 t.3 ∙ t.4,
          subst (λ y. block_at (slice_get (table_blocks (statements p)) y) ≡ Some t.0) is (block_is p j t.2 t.5 ∙ t.6),
        )

    may_be : (x : Result Target NameFault) → Aims p.stock.modules l.owner l.home l.place l.rule x → May (rule_of x)
    may_be x (inl lt) = let e = l.number in inl (omega (arith, e, lt))
    may_be x (inr g) = inr (together_with g.0 g.1 (rule_of x) g.2 g.3 g.4 g.5)

    name_is : (q : QName) → May (rule_of (resolved p (Some (suc (suc n))) q))
    name_is q =
        let found = bound p.stock.modules l.home l.rule.start q in
        let here = aims p.stock.modules l.owner l.home l.place l.rule l.at (laid.each l.owner l.home l.at) l.has
        q.name found
        (sees p.stock.modules sound l.owner l.home l.at l.rule.start q) in
        subst May (sym (ap rule_of (resolved_is p n w at l q))) (may_be (target p.stock.modules l.owner found) here)

    mark_is : unwrap_or (boundary p (Some (suc (suc n)))) 0 < suc (suc n)
    mark_is =
        let found = bound p.stock.modules l.home l.rule.start boundary_mark in
        let here = mark_aims p.stock.modules l.owner l.home l.place l.rule l.at (laid.each l.owner l.home l.at)
        l.has found
        (sees p.stock.modules sound l.owner l.home l.at l.rule.start boundary_mark) in
        let e = l.number in
        let same = boundary_is p n w at l in
        omega (arith, here, e, same)

    row_bound : IsBound (table_blocks (statements p)) (suc (suc n))
        (statement_by p (suc (suc n)) (head_of p w l.rule) l.rule.body)
    row_bound = record { names = name_is; boundary = mark_is }

  statement_bound : (k : ℕ) (s : Statement) → slice_get (statements p) k ≡ Some s
      → IsBound (table_blocks (statements p)) (2 + k) s
  statement_bound k s h =
      let r = row_there p k s h in
      let l = located 0 0 p.stock.modules k r.0 r.1 in
      let z : suc (suc k) ≡ 2 + k = omega arith in
      let is : statement_by p (suc (suc k)) (head_of p r.0 l.rule) l.rule.body ≡ s =
      (let e = nth_statement p k r.0 r.1 l in cc) in
      subst (λ i. IsBound (table_blocks (statements p)) i s) z
      (subst (IsBound (table_blocks (statements p)) (suc (suc k))) is (row_bound k r.0 r.1 l))

  pub all_bound : AreBound (statements p)
  all_bound = record { bound = statement_bound; side_by_side = sides }
