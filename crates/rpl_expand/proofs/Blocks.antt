-- The rules of a block stand side by side in the table, and have its number.
use Rattle.std.proofs.Common.{arith, ◌≡◌, ◌≤◌, ◌<◌, ℕ, ◌+◌, ◌-◌, List}
use Rattle.std.proofs.Common.{Some, None, refl, sym, ap, ap₂, ◌∙◌}
use Rattle.std.specs.Prelude.{Bool, true, false, nat_eq, ◌&&◌, if◌then◌else◌, slice_get}
use native.Mathlib.Decide.{dec_lt}
use Rattle.std.proofs.lemmas.Bool.Decides.{Decides-eqb}
use Rattle.std.proofs.lemmas.Bool.{false_from_ne_true}
use Rattle.rpl_scope.specs.Packages.{Rule, Module, first_rule}
use Rattle.rpl_names.proofs.Numbering.{nth_within}
use Rattle.rpl_names.specs.Tables.{opens, in_block, row_of, rows}
use Rattle.rpl_names.specs.declared.table.Row.{Row}
use Rattle.rpl_expand.proofs.Laying.{AreLaid, InOneBlock}
use Rattle.rpl_expand.proofs.Lists.{nth_found}
use Rattle.rpl_expand.proofs.Rows.{upto, before, upto_up, opens_from, upto_opens, upto_still, NoneOpens}
use Rattle.rpl_expand.proofs.Rows.{before_later, first_later, Located, row_is}

-- ---- blocks of a module

equal : (a b : ℕ) → nat_eq a b ≡ true → a ≡ b
equal a b h = (Decides-eqb a b).0 h

is_equal : (a b : ℕ) → a ≡ b → nat_eq a b ≡ true
is_equal a b h = (Decides-eqb a b).1 h

pub in_from : (r : Rule) → in_block r ≡ true → r.since ≡ r.start
in_from r h = equal r.since r.start h

pub in_by : (r : Rule) → r.since ≡ r.start → in_block r ≡ true
in_by r h = is_equal r.since r.start h

both_true : (a b : Bool) → a ≡ true → b ≡ true → (a && b) ≡ true
both_true a b g h = ap₂ (λ x y. x && y) g h

second : (a b : Bool) → (a && b) ≡ true → b ≡ true
second true b h = h
second false b h = absurd (cc)

opened : (k : ℕ) (r : Rule) → r.since ≡ r.start → r.start ≡ k → opens k r ≡ true
opened k r g h = both_true (in_block r) (nat_eq r.start k) (in_by r g) (is_equal r.start k h)

not_opened : (k : ℕ) (r : Rule) → (r.start ≡ k → ⊥) → opens k r ≡ false
not_opened k r f =
    false_from_ne_true (opens k r) (λ h. f (equal r.start k (second (in_block r) (nat_eq r.start k) h)))

module _ (rs : List Rule) (t : ℕ) (r : Rule) (laid : AreLaid rs) (at : slice_get rs t ≡ Some r) (block :
    r.since ≡ r.start)
  where
    -- the first rule of its block
    opener : (q : Rule) × (slice_get rs r.start ≡ Some q) × (opens r.start q ≡ true)
    opener =
        let le = (laid.each t r at).behind in
        let lt = nth_within rs t r at in
        let f = nth_found rs r.start (omega (arith, le, lt)) in
        let n = (laid.each t r at).near r.start f.0 f.1 (omega arith) le in
        let s = n.0 in let v = n.1 in
        (f.0, f.1, opened r.start f.0 (omega (arith, s, v, block)) s)

    -- it has begun
    pub begun : (b : ℕ) → b + 1 ≤ upto b 0 rs t
    begun b =
        let o = opener in
        let le = (laid.each t r at).behind in
        let first = opens_from b 0 rs r.start r.start o.0 o.1 (omega arith) o.2 in
        let up = upto_up b 0 rs r.start t le in
        omega (arith, first, up)

    -- and after the rules before it
    pub begun_behind : (b u : ℕ) → u < r.start → upto b 0 rs u + 1 ≤ upto b 0 rs t
    begun_behind b u lt =
        let o = opener in
        let le = (laid.each t r at).behind in
        let first = upto_opens b 0 rs u r.start r.start o.0 o.1 (omega arith) o.2 lt in
        let up = upto_up b 0 rs r.start t le in
        omega (arith, first, up)

-- between two rules of one block none begins
pub one_count : (rs : List Rule) (t k b : ℕ) (a r : Rule) → AreLaid rs → slice_get rs k ≡ Some a
    → slice_get rs t ≡ Some r → t ≤ k
    → InOneBlock a r
    → upto b 0 rs t ≡ upto b 0 rs k
one_count rs t k b a r laid first later le one = upto_still b 0 rs t k le none
  where
    none : NoneOpens 0 rs (t + 1) k
    none v p q h e low high =
        let back = (laid.each t r later).behind in
        let s = one.start in
        let n = (laid.each k a first).near v q h (omega (arith, back, s, low)) high in
        let z = n.0 in
        not_opened p q (λ g. omega (arith, g, e, z, s, back, low))

-- ---- blocks of the table

pub record AllLaid (ms : List Module) : Type 0 where
  pub each : (i : ℕ) (m : Module) → slice_get ms i ≡ Some m → AreLaid m.rules

numbered : (t : Bool) (c b : ℕ) → (if t then Some (c - 1) else None) ≡ Some b → (t ≡ true) × (c - 1 ≡ b)
numbered true c b h = (refl, cc)
numbered false c b h = absurd (cc)

number_by : (t : Bool) (c b : ℕ) → t ≡ true → c - 1 ≡ b → (if t then Some (c - 1) else None) ≡ Some b
number_by t c b h e = ap (λ x. if x then Some (c - 1) else None) h ∙ ap Some e

-- the block of a row in place
block_from : (ms : List Module) (n b : ℕ) (w : Row) (l : Located 0 0 ms n w) → w.block ≡ Some b
    → (in_block l.rule ≡ true) × (upto (before 0 ms l.owner) 0 l.home.rules l.place - 1 ≡ b)
block_from ms n b w l h =
    numbered (in_block l.rule) (upto (before 0 ms l.owner) 0 l.home.rules l.place) b
    (sym (ap (λ x. x.block) l.row) ∙ h)

block_by : (ms : List Module) (n b : ℕ) (w : Row) (l : Located 0 0 ms n w) → l.rule.since ≡ l.rule.start
    → upto (before 0 ms l.owner) 0 l.home.rules l.place - 1 ≡ b → w.block ≡ Some b
block_by ms n b w l h e =
    ap (λ x. x.block) l.row ∙ number_by (in_block l.rule) (upto (before 0 ms l.owner) 0 l.home.rules l.place) b
    (in_by l.rule h) e

-- rows stand by module and place
no_later : (ms : List Module) (n m : ℕ) (v w : Row) (a : Located 0 0 ms n v) (b : Located 0 0 ms m w) → n ≤ m
    → b.owner < a.owner → ⊥
no_later ms n m v w a b le lt =
    let f = first_later ms b.owner a.owner b.home b.at lt in
    let p = nth_within b.home.rules b.place b.rule b.has in
    let x = a.number in let y = b.number in
    omega (arith, f, p, x, y, le)

one_module : (ms : List Module) (i j : ℕ) (m n : Module) → slice_get ms i ≡ Some m → slice_get ms j ≡ Some n → i ≡ j
    → m ≡ n
one_module ms i j m n g h e = let k : slice_get ms i ≡ slice_get ms j = ap (slice_get ms) e in cc

-- between two rules of one block of a module there are only rules of it
inside_by : (rs : List Rule) (c t u v : ℕ) (p q r : Rule) → AreLaid rs → slice_get rs t ≡ Some p
    → slice_get rs u ≡ Some q
    → slice_get rs v ≡ Some r → t ≤ u → u ≤ v → r.since ≡ r.start
    → upto c 0 rs t ≡ upto c 0 rs v → Dec (t < r.start) → (q.since ≡ q.start) × (upto c 0 rs u ≡ upto c 0 rs v)
inside_by rs c t u v p q r laid at has is le up block same (yes lt) =
    let f = begun_behind rs v r laid is block c t lt in
    absurd (omega (arith, f, same))
inside_by rs c t u v p q r laid at has is le up block same (no h) =
    let n = (laid.each v r is).near u q has (omega (arith, h, le)) up in
    let s = n.0 in let k = n.1 in
    let low = upto_up c 0 rs t u le in
    let high = upto_up c 0 rs u v up in
    (omega (arith, s, k, block), omega (arith, low, high, same))

inside : (rs : List Rule) (c t u v : ℕ) (p q r : Rule) → AreLaid rs → slice_get rs t ≡ Some p → slice_get rs u ≡ Some q
    → slice_get rs v ≡ Some r → t ≤ u → u ≤ v → r.since ≡ r.start
    → upto c 0 rs t ≡ upto c 0 rs v → (q.since ≡ q.start) × (upto c 0 rs u ≡ upto c 0 rs v)
inside rs c t u v p q r laid at has is le up block same =
    inside_by rs c t u v p q r laid at has is le up block same (dec_lt t r.start)

module _ (ms : List Module) (all : AllLaid ms) (n m k b : ℕ) (u v w : Row) (le : n ≤ m) (up : m ≤ k)
    (f : Located 0 0 ms n u) (g : Located 0 0 ms m v) (h : Located 0 0 ms k w)
    (first : u.block ≡ Some b) (last : w.block ≡ Some b) where
  begun_at : (n : ℕ) (w : Row) (l : Located 0 0 ms n w) → w.block ≡ Some b
      → before 0 ms l.owner + 1 ≤ upto (before 0 ms l.owner) 0 l.home.rules l.place
  begun_at n w l e =
      begun l.home.rules l.place l.rule (all.each l.owner l.home l.at) l.has
      (in_from l.rule (block_from ms n b w l e).0) (before 0 ms l.owner)

  counts : upto (before 0 ms f.owner) 0 f.home.rules f.place ≡ upto (before 0 ms h.owner) 0 h.home.rules h.place
  counts =
      let a = begun_at n u f first in let c = begun_at k w h last in
      let x = (block_from ms n b u f first).1 in let y = (block_from ms k b w h last).1 in
      omega (arith, a, c, x, y)

  apart : f.owner < h.owner → ⊥
  apart lt =
      let a = before_later 0 ms f.owner h.owner f.place f.home f.at lt in
      let c = begun_at k w h last in
      let e = counts in
      omega (arith, a, c, e)

  g_owner : g.owner ≡ f.owner
  g_owner =
      let a = no_later ms n m u v f g le in let c = no_later ms m k v w g h up in let d = apart in
      omega (arith, a, c, d)

  h_owner : h.owner ≡ f.owner
  h_owner =
      let a = no_later ms n m u v f g le in let c = no_later ms m k v w g h up in let d = apart in
      omega (arith, a, c, d)

  g_module : g.home ≡ f.home
  g_module = one_module ms g.owner f.owner g.home f.home g.at f.at g_owner

  h_module : h.home ≡ f.home
  h_module = one_module ms h.owner f.owner h.home f.home h.at f.at h_owner

  g_count : upto (before 0 ms g.owner) 0 g.home.rules g.place ≡ upto
      (before 0 ms f.owner) 0 f.home.rules g.place
  g_count = ap₂ (λ o x. upto (before 0 ms o) 0 x.rules g.place) g_owner g_module

  h_count : upto (before 0 ms h.owner) 0 h.home.rules h.place ≡ upto
      (before 0 ms f.owner) 0 f.home.rules h.place
  h_count = ap₂ (λ o x. upto (before 0 ms o) 0 x.rules h.place) h_owner h_module

  places : (f.place ≤ g.place) × (g.place ≤ h.place)
  places =
      let x = f.number in let y = g.number in let z = h.number in
      let a = ap (first_rule ms) g_owner in let c = ap (first_rule ms) h_owner in
      (omega (arith, x, y, a, le), omega (arith, y, z, a, c, up))

  between : (g.rule.since ≡ g.rule.start) ×
      (upto (before 0 ms f.owner) 0 f.home.rules g.place ≡ upto (before 0 ms f.owner) 0 f.home.rules h.place)
  between =
      inside f.home.rules (before 0 ms f.owner) f.place g.place h.place f.rule g.rule h.rule
      (all.each f.owner f.home f.at) f.has
      (sym (ap (λ x. slice_get x.rules g.place) g_module) ∙ g.has) (sym (ap (λ x. slice_get x.rules h.place) h_module)
      ∙ h.has)
      places.0 places.1
      (in_from h.rule (block_from ms k b w h last).0) (counts ∙ h_count)

  -- a row between two of one block is of that block
  pub side : v.block ≡ Some b
  side =
      let x = (block_from ms k b w h last).1 in
      block_by ms m b v g between.0 (ap (λ c. c - 1) (g_count ∙ between.1 ∙ sym h_count) ∙ x)

-- two rules of one block of a module have rows of one block
pub together : (ms : List Module) (j t k n l : ℕ) (m : Module) (a r : Rule) → slice_get ms j ≡ Some m → AreLaid m.rules
    → slice_get m.rules k ≡ Some a → slice_get m.rules t ≡ Some r
    → t ≤ k → InOneBlock a r → n + 2 ≡ first_rule ms j + t → l + 2 ≡ first_rule ms j + k
    → (b : ℕ) × (v : Row) × (w : Row) × (slice_get (rows ms) n ≡ Some v) × (v.block ≡ Some b)
    × (slice_get (rows ms) l ≡ Some w)
    × (w.block ≡ Some b)
together ms j t k n l m a r at laid first later le one e d =
    let b = upto (before 0 ms j) 0 m.rules t - 1 in
    let c = one_count m.rules t k (before 0 ms j) a r laid first later le one in
    let v = row_of m.label j t (upto (before 0 ms j) 0 m.rules t) r in
    let w = row_of m.label j k (upto (before 0 ms j) 0 m.rules k) a in (
      b,
      v,
      w,
      row_is 0 0 ms j t m r n j at later (omega arith) e,
      number_by (in_block r) (upto (before 0 ms j) 0 m.rules t) b (in_by r one.its) refl,
      row_is 0 0 ms j k m a l j at first (omega arith) d,
      number_by (in_block a) (upto (before 0 ms j) 0 m.rules k) b (in_by a one.own) (ap (λ x. x - 1) (sym c)),
    )
