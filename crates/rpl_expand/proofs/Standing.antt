-- Each rule of a set but the two built-in ones has its statement.
use Rattle.std.proofs.Common.{◌≡◌, ℕ, zero, suc, ◌+◌, ◌-◌, ◌<◌, ◌≤◌, List, [], ◌∷◌, ◌++◌, length, refl, sym, ap}
use Rattle.std.proofs.Common.{◌∙◌, inl, inr, arith, length-append}
use Rattle.std.specs.Prelude.{Some, slice_get}
use Rattle.std.proofs.lemmas.Bool.{cases_order}
use Rattle.rpl_text.specs.Options.{◌>>=◌}
use Rattle.rpl_scope.specs.Packages.{Module, Rule}
use Rattle.rpl_names.specs.Roots.{Packages}
use Rattle.rpl_names.specs.Tables as P
use Rattle.rpl_names.specs.Targets.{head, body, head_of, rule_in}
use Rattle.rpl_names.specs.declared.table.Row.{Row}
use Rattle.rpl_names.proofs.Rows.{length_rows_of}
use Rattle.rpl_expand.specs.Table.{Statement}
use Rattle.rpl_expand.specs.Sets.{statement_at, statement_by, statements, statements_from, with_one}

-- ---- what stands at a number of a list of two parts

nth_left : {A : Type 0} (xs ys : List A) (k : ℕ) (x : A) → slice_get xs k ≡ Some x → slice_get (xs ++ ys) k ≡ Some x
nth_left [] ys k x h = absurd cc
nth_left (y ∷ xs) ys zero x h = h
nth_left (y ∷ xs) ys (suc k) x h = nth_left xs ys k x h

nth_right : {A : Type 0} (xs ys : List A) (k n : ℕ) → n ≡ length xs + k → slice_get (xs ++ ys) n ≡ slice_get ys k
nth_right [] ys k n e = let m : n ≡ k = omega (arith, e) in ap (slice_get ys) m
nth_right (y ∷ xs) ys k zero e = absurd (omega (arith, e))
nth_right (y ∷ xs) ys k (suc n) e = nth_right xs ys k n (omega (arith, e))

-- ---- rows

-- the row of the j-th rule of a module
own_row : (label : List ℕ) (i k b : ℕ) (rs : List Rule) (j : ℕ) → j < length rs
    → (r : Rule) × (c : ℕ) × (slice_get rs j ≡ Some r)
    × (slice_get (P.rows_of label i k b rs) j ≡ Some (P.row_of label i (k + j) c r))
own_row label i k b [] j lt = absurd (omega (arith, lt))
own_row label i k b (r ∷ rs) zero lt =
    let place : k ≡ k + 0 = omega arith in
    (r, P.begun_at b k r, refl, ap (λ n. Some (P.row_of label i n (P.begun_at b k r) r)) place)
own_row label i k b (r ∷ rs) (suc j) lt =
    let h = own_row label i (k + 1) (P.begun_at b k r) rs j (omega (arith, lt)) in
    let place : (k + 1) + j ≡ k + suc j = omega arith in
    (h.0, h.1, h.2, h.3 ∙ ap (λ n. Some (P.row_of label i n h.1 h.0)) place)

-- each row is that of a rule of its module
some_row : (all : List Module) (i b : ℕ) (ms : List Module) → ((j : ℕ) → slice_get ms j ≡ slice_get all (i + j))
    → (n : ℕ)
    → n < length (P.rows_from i b ms)
    → (w : Row) × (r : Rule) × (slice_get (P.rows_from i b ms) n ≡ Some w) × (rule_in all w.from w.place ≡ Some r)
some_row all i b [] same n lt = absurd (omega (arith, lt))
some_row all i b (m ∷ ms) same n lt =
    let own = P.rows_of m.label i 0 b m.rules in
    let more = P.rows_from (i + 1) (P.begun_in b 0 m.rules) ms in
    let long = length_rows_of m.label i 0 b m.rules in
    let whole = length-append own more in
    let in_it : n < length m.rules → (w : Row) × (r : Rule) × (slice_get (own ++ more) n ≡ Some w)
    × (rule_in all w.from w.place ≡ Some r) = λ here.
    let h = own_row m.label i 0 b m.rules n here in
    let zero_on : 0 + n ≡ n = omega arith in
    let first : i + 0 ≡ i = omega arith in
    let there : slice_get all i ≡ Some m = ap (slice_get all) (sym first) ∙ sym (same 0) in
    let found : rule_in all i (0 + n) ≡ Some h.0 =
    ap (λ o. o >>= (λ x. slice_get x.rules (0 + n))) there ∙ ap (slice_get m.rules) zero_on ∙ h.2 in
    (P.row_of m.label i (0 + n) h.1 h.0, h.0, nth_left own more n _ h.3, found) in
    let behind : length m.rules ≤ n → (w : Row) × (r : Rule) × (slice_get (own ++ more) n ≡ Some w)
    × (rule_in all w.from w.place ≡ Some r) = λ le.
    let d = n - length m.rules in
    let place : n ≡ length own + d = omega (arith, le, long) in
    let next : (j : ℕ) → slice_get ms j ≡ slice_get all ((i + 1) + j) = λ j.
    let on : i + suc j ≡ (i + 1) + j = omega arith in
    same (suc j) ∙ ap (slice_get all) on in
    let h = some_row all (i + 1) (P.begun_in b 0 m.rules) ms next d (omega (arith, lt, whole, place)) in
    (h.0, h.1, nth_right own more d n place ∙ h.2, h.3) in
    elim (cases_order n (length m.rules)) [
      | inl is ↦ behind (omega (arith, is))
      | inr (inl less) ↦ in_it less
      | inr (inr more) ↦ behind (omega (arith, more))
    ]

-- ---- statements

made_by : (p : Packages) (k : ℕ) (w : Row) (r : Rule) → slice_get (P.rows p.stock.modules) k ≡ Some w
    → rule_in p.stock.modules w.from w.place ≡ Some r
    → statement_at p (suc (suc k)) ≡ Some (statement_by p (suc (suc k)) (head_of p w r) r.body)
made_by p k w r e f =
    let n = suc (suc k) in
    let h : head p n ≡ Some (head_of p w r) =
    ap (λ o. o >>= (λ v. rule_in p.stock.modules v.from v.place >>= (λ s. Some (head_of p v s)))) e
    ∙ ap (λ o. o >>= (λ s. Some (head_of p w s))) f in
    let b : body p n ≡ Some r.body =
    ap (λ o. (o >>= (λ v. rule_in p.stock.modules v.from v.place)) >>= (λ s. Some s.body)) e
    ∙ ap (λ o. o >>= (λ s. Some s.body)) f in
    ap (λ o. o >>= (λ y. body p n >>= (λ x. Some (statement_by p n y x)))) h
    ∙ ap (λ o. o >>= (λ x. Some (statement_by p n (head_of p w r) x))) b

-- a rule after the built-in ones has a statement
pub has_statement : (p : Packages) (n : ℕ) → 2 ≤ n → n < 2 + length (P.rows p.stock.modules) → (s : Statement)
    × (statement_at p n ≡ Some s)
has_statement p zero two lt = absurd (omega (arith, two))
has_statement p (suc zero) two lt = absurd (omega (arith, two))
has_statement p (suc (suc k)) two lt =
    let same : (j : ℕ) → slice_get p.stock.modules j ≡ slice_get p.stock.modules (0 + j) =
    λ j. let e : j ≡ 0 + j = omega arith in ap (slice_get p.stock.modules) e in
    let h = some_row p.stock.modules 0 0 p.stock.modules same k (omega (arith, lt)) in
    (_, made_by p k h.0 h.1 h.2 h.3)

-- the statements from the rule n on
abbrev pub from : Packages → ℕ → List Statement
from p n = statements_from p n ((2 + length (P.rows p.stock.modules)) - n)

pub from_here : (p : Packages) (n : ℕ) (s : Statement) → n < 2 + length (P.rows p.stock.modules)
    → statement_at p n ≡ Some s → from p n ≡ s ∷ from p (n + 1)
from_here p n s lt e =
    let left : (2 + length (P.rows p.stock.modules)) - n ≡ suc ((2 + length (P.rows p.stock.modules)) - (n + 1)) =
    omega (arith, lt) in
    ap (statements_from p n) left ∙ ap (λ o. with_one o (from p (n + 1))) e

pub from_first : (p : Packages) → from p 2 ≡ statements p
from_first p =
    let left : (2 + length (P.rows p.stock.modules)) - 2
    ≡ length (P.rows p.stock.modules) = omega arith in ap (statements_from p 2) left

pub from_end : (p : Packages) (n : ℕ) → 2 + length (P.rows p.stock.modules) ≤ n → from p n ≡ []
from_end p n le =
    let left : (2 + length (P.rows p.stock.modules)) - n ≡ 0 = omega (arith, le) in ap (statements_from p n) left
