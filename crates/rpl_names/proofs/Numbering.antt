-- Numbers of rules, and what stands at a number.
use Rattle.std.proofs.Common.{arith, ◌≡◌, ◌≤◌, ◌<◌, ◌+◌, ℕ, zero, suc, List, [], ◌∷◌, length, get_or, Option}
use Rattle.std.proofs.Common.{Some, None, refl, sym, ap, ◌∙◌}
use Rattle.std.proofs.lemmas.List.{length-append}
use Rattle.std.specs.Prelude.{slice_get}
use Rattle.rpl_text.specs.Options.{◌>>=◌}
use Rattle.rpl_scope.specs.Packages.{Rule, Module, first_rule}
use Rattle.rpl_scope.specs.Seen.{module_seen, modules_seen}
use Rattle.rpl_scope.specs.declared.module.Module.{Module as Declared}
use Rattle.rpl_names.specs.Tables.{begun_in, rows_of, rows_from}
use Rattle.rpl_names.specs.Firsts.{firsts_from, firsts}
use Rattle.rpl_names.specs.Targets.{rule_in}
use Rattle.rpl_names.proofs.Rows.{length_rows_of}

-- what stands at a number of a list stands at a number below its length
pub nth_within : {A : Type 0} (xs : List A) (i : ℕ) (x : A) → slice_get xs i ≡ Some x → i < length xs
nth_within [] i x h = absurd (cc)
nth_within (y ∷ ys) zero x h = omega arith
nth_within (y ∷ ys) (suc i) x h = let k = nth_within ys i x h in omega (arith, k)

-- a module that is lent is seen under its number
pub nth_seen : (ms : List Declared) (i : ℕ) (m : Declared) → i < length ms → m ≡ get_or ms i m
    → slice_get (modules_seen ms) i ≡ Some (module_seen m)
nth_seen [] i m lt h = absurd (omega (arith, lt))
nth_seen (x ∷ ms) zero m lt h = ap (λ y. Some (module_seen y)) (sym h)
nth_seen (x ∷ ms) (suc i) m lt h = nth_seen ms i m (omega (arith, lt)) h

-- and beyond the last there is none
pub seen_past : (ms : List Declared) (i : ℕ) → length ms ≤ i → slice_get (modules_seen ms) i ≡ None
seen_past [] i le = refl
seen_past (x ∷ ms) zero le = absurd (omega (arith, le))
seen_past (x ∷ ms) (suc i) le = seen_past ms i (omega (arith, le))

found_by : (ms : List Module) (i k : ℕ) (r : Rule) (o : Option Module) → slice_get ms i ≡ o
    → (o >>= (λ m. slice_get m.rules k)) ≡ Some r → (m : Module) × (slice_get ms i ≡ Some m)
    × (slice_get m.rules k ≡ Some r)
found_by ms i k r None e g = absurd (cc)
found_by ms i k r (Some m) e g = (m, e, g)

pub found_in : (ms : List Module) (i k : ℕ) (r : Rule) → rule_in ms i k ≡ Some r → (m : Module)
    × (slice_get ms i ≡ Some m)
    × (slice_get m.rules k ≡ Some r)
found_in ms i k r h = found_by ms i k r (slice_get ms i) refl h

pub length_firsts : (n : ℕ) (ms : List Module) → length (firsts_from n ms) ≡ length ms
length_firsts n [] = refl
length_firsts n (m ∷ ms) = let h = length_firsts (n + length m.rules) ms in omega (arith, h)

first_at : (n : ℕ) (ms : List Module) (i d : ℕ) (m : Module) → slice_get ms i ≡ Some m
    → get_or (firsts_from (n + 2) ms) i d ≡ n + first_rule ms i
first_at n [] i d m h = absurd (cc)
first_at n (x ∷ ms) zero d m h = refl
first_at n (x ∷ ms) (suc i) d m h =
    let k = length x.rules in
    let moved : (n + 2) + k ≡ (n + k) + 2 = omega arith in
    let rest = first_at (n + k) ms i d m h in
    let same : (n + k) + first_rule ms i ≡ n + (k + first_rule ms i) = omega arith in
    ap (λ p. get_or (firsts_from p ms) i d) moved ∙ rest ∙ same

pub first_is : (ms : List Module) (i d : ℕ) (m : Module) → slice_get ms i ≡ Some m
    → get_or (firsts ms) i d ≡ first_rule ms i
first_is ms i d m h = let e = first_at 0 ms i d m h in omega (arith, e)

-- the number that a rule of a module has in the table is below the length of the table
pub room_at : (a b : ℕ) (ms : List Module) (i k : ℕ) (m : Module) (r : Rule) → slice_get ms i ≡ Some m
    → slice_get m.rules k ≡ Some r → first_rule ms i + k < 2 + length (rows_from a b ms)
room_at a b [] i k m r h g = absurd (cc)
room_at a b (x ∷ ms) zero k m r h g =
    let lt : k < length x.rules = nth_within x.rules k r (ap (λ o. o >>= (λ y. slice_get y.rules k)) h ∙ g) in
    let whole = length-append (rows_of x.label a 0 b x.rules) (rows_from (a + 1) (begun_in b 0 x.rules) ms) in
    let own = length_rows_of x.label a 0 b x.rules in
    omega (arith, lt, whole, own)
room_at a b (x ∷ ms) (suc i) k m r h g =
    let rest = room_at (a + 1) (begun_in b 0 x.rules) ms i k m r h g in
    let whole = length-append (rows_of x.label a 0 b x.rules) (rows_from (a + 1) (begun_in b 0 x.rules) ms) in
    let own = length_rows_of x.label a 0 b x.rules in
    omega (arith, rest, whole, own)

abbrev count_of : Option Module → ℕ
count_of None = 0
count_of (Some m) = length m.rules

-- a module has no more rules than the table has rows
pub few_in : (a b : ℕ) (ms : List Module) (i : ℕ) (m : Module) → slice_get ms i ≡ Some m
    → length m.rules ≤ length (rows_from a b ms)
few_in a b [] i m h = absurd (cc)
few_in a b (x ∷ ms) zero m h =
    let same : length x.rules ≡ length m.rules = ap count_of h in
    let whole = length-append (rows_of x.label a 0 b x.rules) (rows_from (a + 1) (begun_in b 0 x.rules) ms) in
    let own = length_rows_of x.label a 0 b x.rules in
    omega (arith, same, whole, own)
few_in a b (x ∷ ms) (suc i) m h =
    let rest = few_in (a + 1) (begun_in b 0 x.rules) ms i m h in
    let whole = length-append (rows_of x.label a 0 b x.rules) (rows_from (a + 1) (begun_in b 0 x.rules) ms) in
    omega (arith, rest, whole)
