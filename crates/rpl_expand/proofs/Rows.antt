-- Which rule of which module stands in which row, and how many blocks have begun up to it.
use Rattle.std.proofs.Common.{arith, ◌≡◌, ◌≤◌, ◌<◌, ◌⊎◌, inl, inr, ℕ, zero, suc, ◌+◌, ◌-◌, List, [], ◌∷◌}
use Rattle.std.proofs.Common.{length, Some, refl, sym, ap, subst, ◌∙◌}
use Rattle.std.specs.Prelude.{Bool, true, false, if◌then◌else◌, slice_get}
use Rattle.rpl_scope.specs.Packages.{Rule, Module, first_rule}
use Rattle.rpl_names.proofs.Numbering.{nth_within}
use Rattle.rpl_names.proofs.Rows.{length_rows_of}
use Rattle.rpl_names.specs.Tables.{opens, begun_at, begun_in, row_of, rows_of, rows_from}
use Rattle.rpl_names.specs.declared.table.Row.{Row}
use Rattle.rpl_expand.proofs.Lists.{nth_more, nth_in, nth_behind, nth_found}

-- ---- how many blocks have begun

-- up to the t-th of some rules and with it, where b have begun before them and the first stands at k
abbrev pub upto : (b k : ℕ) → List Rule → ℕ → ℕ
upto b k [] t = b
upto b k (r ∷ rs) zero = begun_at b k r
upto b k (r ∷ rs) (suc t) = upto (begun_at b k r) (k + 1) rs t

up_by : (t : Bool) (b : ℕ) → b ≤ (if t then b + 1 else b)
up_by true b = omega arith
up_by false b = omega arith

begun_up : (b k : ℕ) (r : Rule) → b ≤ begun_at b k r
begun_up b k r = up_by (opens k r) b

in_from : (b k : ℕ) (rs : List Rule) → b ≤ begun_in b k rs
in_from b k [] = omega arith
in_from b k (r ∷ rs) = let h = in_from (begun_at b k r) (k + 1) rs in let g = begun_up b k r in omega (arith, h, g)

pub upto_from : (b k : ℕ) (rs : List Rule) (t : ℕ) → b ≤ upto b k rs t
upto_from b k [] t = omega arith
upto_from b k (r ∷ rs) zero = begun_up b k r
upto_from b k (r ∷ rs) (suc t) =
    let h = upto_from (begun_at b k r) (k + 1) rs t in
    let g = begun_up b k r in
    omega (arith, h, g)

pub upto_whole : (b k : ℕ) (rs : List Rule) (t : ℕ) → upto b k rs t ≤ begun_in b k rs
upto_whole b k [] t = omega arith
upto_whole b k (r ∷ rs) zero = in_from (begun_at b k r) (k + 1) rs
upto_whole b k (r ∷ rs) (suc t) = upto_whole (begun_at b k r) (k + 1) rs t

pub upto_up : (b k : ℕ) (rs : List Rule) (t u : ℕ) → t ≤ u → upto b k rs t ≤ upto b k rs u
upto_up b k [] t u h = omega arith
upto_up b k (r ∷ rs) zero zero h = omega arith
upto_up b k (r ∷ rs) zero (suc u) h = upto_from (begun_at b k r) (k + 1) rs u
upto_up b k (r ∷ rs) (suc t) zero h = absurd (omega (arith, h))
upto_up b k (r ∷ rs) (suc t) (suc u) h = upto_up (begun_at b k r) (k + 1) rs t u (omega (arith, h))

-- a rule that opens a block counts
pub opens_from : (b k : ℕ) (rs : List Rule) (u p : ℕ) (r : Rule) → slice_get rs u ≡ Some r → p ≡ k + u
    → opens p r ≡ true
    → b + 1 ≤ upto b k rs u
opens_from b k [] u p r h e o = absurd (cc)
opens_from b k (x ∷ rs) zero p r h e o =
    let at : p ≡ k = omega (arith, e) in
    let same : x ≡ r = cc in
    let opened : opens k x ≡ true = subst (λ y. opens k y ≡ true) (sym same) (subst (λ q. opens q r ≡ true) at o) in
    let c : begun_at b k x ≡ b + 1 = ap (λ t. if t then b + 1 else b) opened in
    omega (arith, c)
opens_from b k (x ∷ rs) (suc u) p r h e o =
    let f = opens_from (begun_at b k x) (k + 1) rs u p r h (omega (arith, e)) o in
    let g = begun_up b k x in
    omega (arith, f, g)

pub upto_opens : (b k : ℕ) (rs : List Rule) (t u p : ℕ) (r : Rule) → slice_get rs u ≡ Some r → p ≡ k + u
    → opens p r ≡ true
    → t < u → upto b k rs t + 1 ≤ upto b k rs u
upto_opens b k [] t u p r h e o lt = absurd (cc)
upto_opens b k (x ∷ rs) t zero p r h e o lt = absurd (omega (arith, lt))
upto_opens b k (x ∷ rs) zero (suc u) p r h e o lt =
    opens_from (begun_at b k x) (k + 1) rs u p r h (omega (arith, e)) o
upto_opens b k (x ∷ rs) (suc t) (suc u) p r h e o lt =
    upto_opens (begun_at b k x) (k + 1) rs t u p r h (omega (arith, e)) o (omega (arith, lt))

-- where no rule opens one, none begins
abbrev pub NoneOpens : (k : ℕ) → List Rule → (low high : ℕ) → Type 0
NoneOpens k rs low high =
    (v p : ℕ) (r : Rule) → slice_get rs v ≡ Some r → p ≡ k + v → low ≤ v → v ≤ high → opens p r ≡ false

still_at : (b k : ℕ) (x : Rule) → opens k x ≡ false → b ≡ begun_at b k x
still_at b k x o = sym (ap (λ t. if t then b + 1 else b) o)

still_from : (b k : ℕ) (rs : List Rule) (u : ℕ) → NoneOpens k rs 0 u → b ≡ upto b k rs u
still_from b k [] u none = refl
still_from b k (x ∷ rs) zero none = still_at b k x (none 0 k x refl (omega arith) (omega arith) (omega arith))
still_from b k (x ∷ rs) (suc u) none =
    let here = still_at b k x (none 0 k x refl (omega arith) (omega arith) (omega arith)) in
    here ∙ still_from (begun_at b k x) (k + 1) rs u
    (λ v p r h e low high. none (suc v) p r h (omega (arith, e)) (omega arith) (omega (arith, high)))

pub upto_still : (b k : ℕ) (rs : List Rule) (t u : ℕ) → t ≤ u → NoneOpens k rs (t + 1) u
    → upto b k rs t ≡ upto b k rs u
upto_still b k [] t u le none = refl
upto_still b k (x ∷ rs) zero zero le none = refl
upto_still b k (x ∷ rs) zero (suc u) le none =
    still_from (begun_at b k x) (k + 1) rs u (λ v p r h e low high.
    none (suc v) p r h (omega (arith, e)) (omega arith) (omega (arith, high)))
upto_still b k (x ∷ rs) (suc t) zero le none = absurd (omega (arith, le))
upto_still b k (x ∷ rs) (suc t) (suc u) le none =
    upto_still (begun_at b k x) (k + 1) rs t u (omega (arith, le))
    (λ v p r h e low high. none (suc v) p r h (omega (arith, e)) (omega (arith, low)) (omega (arith, high)))

-- up to the module j, where b have begun before the first module
abbrev pub before : (b : ℕ) → List Module → ℕ → ℕ
before b [] j = b
before b (m ∷ ms) zero = b
before b (m ∷ ms) (suc j) = before (begun_in b 0 m.rules) ms j

before_from : (b : ℕ) (ms : List Module) (j : ℕ) → b ≤ before b ms j
before_from b [] j = omega arith
before_from b (m ∷ ms) zero = omega arith
before_from b (m ∷ ms) (suc j) =
    let h = before_from (begun_in b 0 m.rules) ms j in
    let g = in_from b 0 m.rules in
    omega (arith, h, g)

pub before_later : (b : ℕ) (ms : List Module) (i j t : ℕ) (m : Module) → slice_get ms i ≡ Some m → i < j
    → upto (before b ms i) 0 m.rules t ≤ before b ms j
before_later b [] i j t m h lt = absurd (cc)
before_later b (x ∷ ms) i zero t m h lt = absurd (omega (arith, lt))
before_later b (x ∷ ms) zero (suc j) t m h lt =
    let s : x ≡ m = cc in
    let own = subst (λ y. upto b 0 y.rules t ≤ begun_in b 0 x.rules) s (upto_whole b 0 x.rules t) in
    let rest = before_from (begun_in b 0 x.rules) ms j in
    omega (arith, own, rest)
before_later b (x ∷ ms) (suc i) (suc j) t m h lt =
    before_later (begun_in b 0 x.rules) ms i j t m h (omega (arith, lt))

-- ---- rows

pub rows_of_at : (label : List ℕ) (i k b : ℕ) (rs : List Rule) (t : ℕ) (r : Rule) (p : ℕ) → slice_get rs t ≡ Some r
    → p ≡ k + t
    → slice_get (rows_of label i k b rs) t ≡ Some (row_of label i p (upto b k rs t) r)
rows_of_at label i k b [] t r p h e = absurd (cc)
rows_of_at label i k b (x ∷ rs) zero r p h e =
    let at : k ≡ p = omega (arith, e) in
    let same : x ≡ r = cc in
    ap (λ q. Some (row_of label i q (begun_at b k x) x)) at
    ∙ ap (λ y. Some (row_of label i p (begun_at b k x) y)) same
rows_of_at label i k b (x ∷ rs) (suc t) r p h e =
    rows_of_at label i (k + 1) (begun_at b k x) rs t r p h (omega (arith, e))

pub first_least : (ms : List Module) (j : ℕ) → 2 ≤ first_rule ms j
first_least [] j = omega arith
first_least (m ∷ ms) zero = omega arith
first_least (m ∷ ms) (suc j) = let h = first_least ms j in omega (arith, h)

-- the rules of a module stand before those of a later one
pub first_later : (ms : List Module) (i j : ℕ) (m : Module) → slice_get ms i ≡ Some m → i < j
    → first_rule ms i + length m.rules ≤ first_rule ms j
first_later [] i j m h lt = absurd (cc)
first_later (x ∷ ms) i zero m h lt = absurd (omega (arith, lt))
first_later (x ∷ ms) zero (suc j) m h lt =
    let s : length x.rules ≡ length m.rules = (let e : x ≡ m = cc in ap (λ y. length y.rules) e) in
    let f = first_least ms j in
    omega (arith, s, f)
first_later (x ∷ ms) (suc i) (suc j) m h lt = let f = first_later ms i j m h (omega (arith, lt)) in omega (arith, f)

-- where the row n comes from, of modules from the i-th on
pub record Located (i b : ℕ) (ms : List Module) (n : ℕ) (w : Row) : Type 0 where
  pub owner : ℕ
  pub place : ℕ
  pub home : Module
  pub rule : Rule
  pub at : slice_get ms owner ≡ Some home
  pub has : slice_get home.rules place ≡ Some rule
  pub number : n + 2 ≡ first_rule ms owner + place
  pub from : ℕ
  pub counts : from ≡ i + owner
  pub row : w ≡ row_of home.label from place (upto (before b ms owner) 0 home.rules place) rule

module _ (i b : ℕ) (x : Module) (ms : List Module) (n : ℕ) (w : Row) where
  here : slice_get (rows_of x.label i 0 b x.rules) n ≡ Some w → Located i b (x ∷ ms) n w
  here h =
      let lt : n < length x.rules =
      (let k = nth_within (rows_of x.label i 0 b x.rules) n w h in omega
      (arith, k, length_rows_of x.label i 0 b x.rules)) in
      let f = nth_found x.rules n lt in
      let is : w ≡ row_of x.label i n (upto b 0 x.rules n) f.0 =
      (let g = rows_of_at x.label i 0 b x.rules n f.0 n f.1 (omega arith) in cc) in
      record {
        owner = 0;
        place = n;
        home = x;
        rule = f.0;
        at = refl;
        has = f.1;
        number = omega arith;
        from = i;
        counts = omega arith;
        row = is;
      }

  there : (k : ℕ) → n ≡ length (rows_of x.label i 0 b x.rules) + k → Located (i + 1) (begun_in b 0 x.rules) ms k w
      → Located i b (x ∷ ms) n w
  there k e l =
      let own = length_rows_of x.label i 0 b x.rules in
      let number = l.number in let counts = l.counts in
      record {
        owner = suc l.owner;
        place = l.place;
        home = l.home;
        rule = l.rule;
        at = l.at;
        has = l.has;
        number = omega (arith, number, e, own);
        from = l.from;
        counts = omega (arith, counts);
        row = l.row;
      }

pub located : (i b : ℕ) (ms : List Module) (n : ℕ) (w : Row) → slice_get (rows_from i b ms) n ≡ Some w
    → Located i b ms n w
located i b [] n w h = absurd (cc)
located i b (x ∷ ms) n w h =
    by (nth_in (rows_of x.label i 0 b x.rules) (rows_from (i + 1) (begun_in b 0 x.rules) ms) n w h)
    (located (i + 1) (begun_in b 0 x.rules) ms)
  where
    by : (slice_get (rows_of x.label i 0 b x.rules) n ≡ Some w)
        ⊎ ((k : ℕ) × (n ≡ length (rows_of x.label i 0 b x.rules) + k)
        × (slice_get (rows_from (i + 1) (begun_in b 0 x.rules) ms) k ≡ Some w))
        → ((k : ℕ) (v : Row) → slice_get (rows_from (i + 1) (begun_in b 0 x.rules) ms) k ≡ Some v
        → Located (i + 1) (begun_in b 0 x.rules) ms k v) → Located i b (x ∷ ms) n w
    by (inl g) rest = here i b x ms n w g
    by (inr g) rest = there i b x ms n w g.0 g.1 (rest g.0 w g.2)

-- the row of a rule
pub row_is : (i b : ℕ) (ms : List Module) (j t : ℕ) (m : Module) (r : Rule) (n from : ℕ) → slice_get ms j ≡ Some m
    → slice_get m.rules t ≡ Some r → from ≡ i + j
    → n + 2 ≡ first_rule ms j + t → slice_get (rows_from i b ms) n ≡ Some
    (row_of m.label from t (upto (before b ms j) 0 m.rules t) r)
row_is i b [] j t m r n from h g f e = absurd (cc)
row_is i b (x ∷ ms) zero t m r n from h g f e =
    let s : x ≡ m = cc in
    let at : n ≡ t = omega (arith, e) in
    let counts : from ≡ i = omega (arith, f) in
    let has : slice_get x.rules t ≡ Some r = ap (λ y. slice_get y.rules t) s ∙ g in
    let own = rows_of_at x.label i 0 b x.rules t r t has (omega arith) in
    let all = nth_more (rows_of x.label i 0 b x.rules) (rows_from (i + 1) (begun_in b 0 x.rules) ms) t
    (row_of x.label i t (upto b 0 x.rules t) r) own in
    ap (slice_get (rows_from i b (x ∷ ms))) at ∙ all
    ∙ ap (λ y. Some (row_of y.label i t (upto b 0 y.rules t) r)) s
    ∙ ap (λ k. Some (row_of m.label k t (upto b 0 m.rules t) r)) (sym counts)
row_is i b (x ∷ ms) (suc j) t m r n from h g f e =
    let k = n - length x.rules in
    let least = first_least ms j in
    let below : k + 2 ≡ first_rule ms j + t = omega (arith, e, least) in
    let own = length_rows_of x.label i 0 b x.rules in
    let at : n ≡ length (rows_of x.label i 0 b x.rules) + k = omega (arith, e, least, own) in
    nth_behind (rows_of x.label i 0 b x.rules) (rows_from (i + 1) (begun_in b 0 x.rules) ms) k n at
    ∙ row_is (i + 1) (begun_in b 0 x.rules) ms j t m r k from h g (omega (arith, f)) below
