-- The other case of ASCII letters.
use Rattle.std.proofs.Common.{◌≡◌, ℕ, ◌+◌, ◌<◌, ◌≤◌, List, refl, sym, ap, ◌∙◌, arith, inl, inr}
use Rattle.std.specs.Prelude.{Bool, true, false, nat_lt, nat_le, nat_eq, ◌||◌, ◌&&◌}
use Rattle.std.proofs.lemmas.Bool.Decides.{nat_tests}
use Rattle.regex_class.specs.Ranges.{Range, in_ranges, IsCanonical, HasExactly}
use Rattle.std.proofs.lemmas.Bool.{cases_eq, cases_lt, cases_Bool}
use Rattle.regex_class.proofs.RangesLemmas.{or-false, same_members-same}
use Rattle.rpl_classes.proofs.Operations.{only_chars, set_members}
use Rattle.rpl_classes.proofs.Named.{set_just, set_normal}
use Rattle.rpl_classes.specs.Sets.{is_char, IsNormal, HasJust}
use Rattle.rpl_classes.specs.Algebra.{set_of, other_case, widened}

-- one of the first k letters, in either case
abbrev pub is_cased : ℕ → ℕ → Bool
is_cased k c = (nat_le 0x41 c && nat_lt c (0x41 + k)) || (nat_le 0x61 c && nat_lt c (0x61 + k))

no_letter : (c : ℕ) → is_cased 0 c ≡ false
no_letter c = grind (arith, nat_tests)

-- before the first letter
pub cases_none : (rs ss : List Range) (c : ℕ) → rs ≡ ss
    → in_ranges rs c ≡ (in_ranges ss c || (is_cased 0 c && in_ranges ss (other_case c)))
cases_none rs ss c e =
    ap (λ l. in_ranges l c) e ∙ sym (or-false (in_ranges ss c))
    ∙ ap (λ b. in_ranges ss c || (b && in_ranges ss (other_case c))) (sym (no_letter c))

-- a character is the upper case of a letter, its lower case, or neither
upper_facts : (k c : ℕ) → k < 26 → c ≡ 0x41 + k → (nat_eq c (0x41 + k) ≡ true) × (nat_eq c (0x61 + k) ≡ false)
    × (is_cased k c ≡ false) × (is_cased (k + 1) c ≡ true) × (other_case c ≡ 0x61 + k)
upper_facts k c lt e = (
  grind (arith, nat_tests),
  grind (arith, nat_tests),
  grind (arith, nat_tests),
  grind (arith, nat_tests),
  grind (arith, nat_tests),
)

lower_facts : (k c : ℕ) → k < 26 → c ≡ 0x61 + k → (nat_eq c (0x41 + k) ≡ false) × (nat_eq c (0x61 + k) ≡ true)
    × (is_cased k c ≡ false) × (is_cased (k + 1) c ≡ true) × (other_case c ≡ 0x41 + k)
lower_facts k c lt e = (
  grind (arith, nat_tests),
  grind (arith, nat_tests),
  grind (arith, nat_tests),
  grind (arith, nat_tests),
  grind (arith, nat_tests),
)

other_facts : (k c : ℕ) → k < 26 → (c ≡ 0x41 + k → ⊥) → (c ≡ 0x61 + k → ⊥) → (nat_eq c (0x41 + k) ≡ false)
    × (nat_eq c (0x61 + k) ≡ false) × (is_cased (k + 1) c ≡ is_cased k c)
other_facts k c lt n m = (grind (arith, nat_tests), grind (arith, nat_tests), grind (arith, nat_tests))

upper_joins : (x o q r : Bool) → o ≡ q → (((x || (false && o)) || (q && true)) || (r && false)) ≡ (x || (true && o))
upper_joins true o q r e = refl
upper_joins false true true true e = refl
upper_joins false true true false e = refl
upper_joins false true false r e = absurd (cc)
upper_joins false false true r e = absurd (cc)
upper_joins false false false true e = refl
upper_joins false false false false e = refl

lower_joins : (x o q r : Bool) → o ≡ r → (((x || (false && o)) || (q && false)) || (r && true)) ≡ (x || (true && o))
lower_joins true o q r e = refl
lower_joins false true true true e = refl
lower_joins false true false true e = refl
lower_joins false true q false e = absurd (cc)
lower_joins false false q true e = absurd (cc)
lower_joins false false true false e = refl
lower_joins false false false false e = refl

neither_joins : (x t o q r : Bool) → (((x || (t && o)) || (q && false)) || (r && false)) ≡ (x || (t && o))
neither_joins true t o q r = refl
neither_joins false true true q r = refl
neither_joins false true false true true = refl
neither_joins false true false true false = refl
neither_joins false true false false true = refl
neither_joins false true false false false = refl
neither_joins false false o true true = refl
neither_joins false false o true false = refl
neither_joins false false o false true = refl
neither_joins false false o false false = refl

-- one letter more, in both cases
pub cases_more : (rs mid new ss : List Range) (k c : ℕ) → k < 26
    → in_ranges rs c ≡ (in_ranges ss c || (is_cased k c && in_ranges ss (other_case c)))
    → in_ranges mid c ≡ (in_ranges rs c || (in_ranges ss (0x61 + k) && nat_eq c (0x41 + k)))
    → in_ranges new c ≡ (in_ranges mid c || (in_ranges ss (0x41 + k) && nat_eq c (0x61 + k)))
    → in_ranges new c ≡ (in_ranges ss c || (is_cased (k + 1) c && in_ranges ss (other_case c)))
cases_more rs mid new ss k c lt a b d =
    let all : in_ranges new c
    ≡ (((in_ranges ss c || (is_cased k c && in_ranges ss (other_case c)))
    || (in_ranges ss (0x61 + k) && nat_eq c (0x41 + k))) || (in_ranges ss (0x41 + k) && nat_eq c (0x61 + k))) =
    d ∙ ap (λ x. x || (in_ranges ss (0x41 + k) && nat_eq c (0x61 + k))) (b
    ∙ ap (λ x. x || (in_ranges ss (0x61 + k) && nat_eq c (0x41 + k))) a) in
    elim (cases_eq c (0x41 + k)) [
      | inl e ↦ let f = upper_facts k c lt e in
          rw (f.0, f.1, f.2) at all
          ∙ upper_joins (in_ranges ss c) (in_ranges ss (other_case c)) (in_ranges ss (0x61 + k))
          (in_ranges ss (0x41 + k)) (ap (in_ranges ss) f.4)
          ∙ ap (λ x. in_ranges ss c || (x && in_ranges ss (other_case c))) (sym f.3)
      | inr n ↦ elim (cases_eq c (0x61 + k)) [
        | inl e ↦ let f = lower_facts k c lt e in
            rw (f.0, f.1, f.2) at all
            ∙ lower_joins (in_ranges ss c) (in_ranges ss (other_case c)) (in_ranges ss (0x61 + k))
            (in_ranges ss (0x41 + k)) (ap (in_ranges ss) f.4)
            ∙ ap (λ x. in_ranges ss c || (x && in_ranges ss (other_case c))) (sym f.3)
        | inr m ↦ let f = other_facts k c lt n m in
            rw (f.0, f.1) at all
            ∙ neither_joins (in_ranges ss c) (is_cased k c) (in_ranges ss (other_case c)) (in_ranges ss (0x61 + k))
            (in_ranges ss (0x41 + k))
            ∙ ap (λ x. in_ranges ss c || (x && in_ranges ss (other_case c))) (sym f.2)
      ]
    ]

itself : (c : ℕ) → is_cased 26 c ≡ false → other_case c ≡ c
itself c f = grind (arith, nat_tests)

twice : (x : Bool) → x ≡ (x || x)
twice true = refl
twice false = refl

-- a letter or not, its other case is looked for
always : (ss : List Range) (c : ℕ) → (in_ranges ss c || (is_cased 26 c && in_ranges ss (other_case c)))
    ≡ (in_ranges ss c || in_ranges ss (other_case c))
always ss c = elim (cases_Bool (is_cased 26 c)) [
  | inl t ↦ ap (λ b. in_ranges ss c || (b && in_ranges ss (other_case c))) t
  | inr f ↦ ap (λ b. in_ranges ss c || (b && in_ranges ss (other_case c))) f ∙ or-false (in_ranges ss c)
      ∙ twice (in_ranges ss c)
      ∙ ap (λ k. in_ranges ss c || in_ranges ss k) (sym (itself c f))
]

-- after the last letter
pub cases_all : (rs ss : List Range) (c : ℕ)
    → in_ranges rs c ≡ (in_ranges ss c || (is_cased 26 c && in_ranges ss (other_case c)))
    → in_ranges rs c ≡ (in_ranges ss c || in_ranges ss (other_case c))
cases_all rs ss c e = e ∙ always ss c

high_itself : (c : ℕ) → 128 ≤ c → other_case c ≡ c
high_itself c h = grind (arith, nat_tests)

low_char : (c : ℕ) → c < 128 → is_char c ≡ true
low_char c h = grind (arith, nat_tests)

-- the characters of a normal list and their other cases are characters
either_chars : (a : List Range) (c : ℕ) → IsNormal a → (in_ranges a c || in_ranges a (other_case c))
    ≡ (is_char c && (in_ranges a c || in_ranges a (other_case c)))
either_chars a c n = elim (cases_lt c 128) [
  | inl lt ↦ ap (λ b. b && (in_ranges a c || in_ranges a (other_case c))) (sym (low_char c lt))
  | inr ge ↦ ap (λ k. in_ranges a c || in_ranges a k) (high_itself c ge) ∙ sym (twice (in_ranges a c))
      ∙ only_chars a c n
      ∙ ap (λ b. is_char c && b) (twice (in_ranges a c)
      ∙ ap (λ k. in_ranges a c || in_ranges a k) (sym (high_itself c ge)))
]

-- a class with both cases of a normal list
pub widened_from_class : (a u ps : List Range) → IsNormal a → IsCanonical u
    → ((c : ℕ) → in_ranges ps c ≡ (in_ranges a c || in_ranges a (other_case c))) → HasExactly u (in_ranges ps)
    → u ≡ widened a
unfolding widened
widened_from_class a u ps n k h g =
    let p : ℕ → Bool = λ c. in_ranges a c || in_ranges a (other_case c) in
    same_members-same u (set_of p) k (set_normal p).rises (λ c le. g c le ∙ h c ∙ either_chars a c n
    ∙ sym (set_members p c))

-- a set with both cases has exactly the members of the set, and the other cases of its letters
pub widened_just : (a s : List Range) → s ≡ widened a → HasJust s (λ c. in_ranges a c || in_ranges a (other_case c))
unfolding widened
widened_just a s q c e = ap (λ l. in_ranges l c) q ∙ set_just (λ x. in_ranges a x || in_ranges a (other_case x)) c e

-- a set with both cases is in normal form
pub widened_normal : (a : List Range) → IsNormal (widened a)
unfolding widened
widened_normal a = set_normal (λ x. in_ranges a x || in_ranges a (other_case x))
