-- The ways in which something stands at the front, told apart.
use Rattle.std.proofs.Common.{◌≡◌, inl, inr, ℕ, ◌+◌, List, ◌∷◌, Option, Some, None, take, refl, sym, ap, ◌∙◌}
use Rattle.std.specs.Prelude.{true, false, is_some, nat_eq, if◌then◌else◌}
use Rattle.std.proofs.lemmas.Bool.{cases_Bool}
use Rattle.rpl_text.specs.Ascii.{is_letter, is_digit}
use Rattle.rpl_lexer.specs.declared.token.TokenKind.TheVariants as K
use Rattle.rpl_lexer.specs.declared.fault.LexKind.TheVariants.{BadChar, OpenText, BadEscape, NumberTooWide}
use Rattle.rpl_lexer.specs.declared.front.Stand.{Stand}
use Rattle.rpl_lexer.specs.declared.front.Stand.TheVariants.{Found, Fault}
use Rattle.rpl_lexer.specs.declared.enclosed.Enclosure.{Enclosure}
use Rattle.rpl_lexer.specs.declared.enclosed.Enclosure.TheVariants.{Quotes, Brackets}
use Rattle.rpl_lexer.specs.declared.bounds.Parts.{Parts}
use Rattle.rpl_lexer.specs.Bytes.{is_word, run, past, has}
use Rattle.rpl_lexer.specs.Keywords.{is_keyword}
use Rattle.rpl_lexer.specs.Signs.{punct}
use Rattle.rpl_text.specs.Numbers.{value, narrow}
use Rattle.rpl_lexer.specs.Enclosed.{close, bad, kind_of, by_bad, by_close, enclosed}
use Rattle.rpl_lexer.specs.Braces.{parts, is_wide, bounds_by, begins_bounds, brace_stands}
use Rattle.rpl_lexer.specs.Fronts.{first_name, qualifies, name_stands, number_stands, stands}

-- by the first byte
pub data Way (b : ℕ) (bs : List ℕ) (r : Stand) : Type 0 where
  letter : is_letter b ≡ true → name_stands (b ∷ bs) ≡ r → Way b bs r
  digit : is_digit b ≡ true → number_stands (b ∷ bs) ≡ r → Way b bs r
  quote : nat_eq b 34 ≡ true → enclosed Quotes bs ≡ r → Way b bs r
  bracket : nat_eq b 91 ≡ true → enclosed Brackets bs ≡ r → Way b bs r
  brace : nat_eq b 123 ≡ true → brace_stands bs ≡ r → Way b bs r
  sign : nat_eq b 123 ≡ false → is_some (punct b) ≡ true → Found K.Sign 1 ≡ r → Way b bs r
  none : is_letter b ≡ false → is_digit b ≡ false → nat_eq b 34 ≡ false → nat_eq b 91 ≡ false
      → is_some (punct b) ≡ false → Fault BadChar 0 ≡ r → Way b bs r

pub way : (b : ℕ) (bs : List ℕ) → Way b bs (stands (b ∷ bs))
unfolding stands
way b bs = elim (cases_Bool (is_letter b)) [
  | inl a ↦ letter a (rw a refl)
  | inr a ↦ elim (cases_Bool (is_digit b)) [
    | inl d ↦ digit d (rw (a, d) refl)
    | inr d ↦ elim (cases_Bool (nat_eq b 34)) [
      | inl q ↦ quote q (rw (a, d, q) refl)
      | inr q ↦ elim (cases_Bool (nat_eq b 91)) [
        | inl k ↦ bracket k (rw (a, d, q, k) refl)
        | inr k ↦ elim (cases_Bool (nat_eq b 123)) [
          | inl o ↦ brace o (rw (a, d, q, k, o) refl)
          | inr o ↦ elim (cases_Bool (is_some (punct b))) [
            | inl s ↦ sign o s (rw (a, d, q, k, s, o) refl)
            | inr s ↦ none a d q k s (rw (a, d, q, k, s, o) refl)
          ]
        ]
      ]
    ]
  ]
]

-- what a name is, and what stands in a brace, told apart in the same way
pub data Named (s : List ℕ) (r : Stand) : Type 0 where
  keyword : is_keyword (first_name s) ≡ true → Found K.Keyword (run is_word s) ≡ r → Named s r
  qualified : is_keyword (first_name s) ≡ false → qualifies s (run is_word s) ≡ true
      → Found K.Qualified (past is_word s (run is_word s + 1)) ≡ r → Named s r
  name : is_keyword (first_name s) ≡ false → qualifies s (run is_word s) ≡ false → Found K.Name (run is_word s) ≡ r
      → Named s r

pub named : (s : List ℕ) → Named s (name_stands s)
unfolding name_stands
named s = elim (cases_Bool (is_keyword (first_name s))) [
  | inl k ↦ keyword k (rw k refl)
  | inr k ↦ elim (cases_Bool (qualifies s (run is_word s))) [
    | inl q ↦ qualified k q (rw (k, q) refl)
    | inr q ↦ name k q (rw (k, q) refl)
  ]
]

pub data Counted (s : List ℕ) (r : Stand) : Type 0 where
  fits : is_some (narrow (value 0 (take (run is_digit s) s))) ≡ true → Found K.Number (run is_digit s) ≡ r → Counted s r
  wide : is_some (narrow (value 0 (take (run is_digit s) s))) ≡ false → Fault NumberTooWide 0 ≡ r → Counted s r

pub counted : (s : List ℕ) → Counted s (number_stands s)
unfolding number_stands
counted s = elim (cases_Bool (is_some (narrow (value 0 (take (run is_digit s) s))))) [
  | inl h ↦ fits h (rw h refl)
  | inr h ↦ wide h (rw h refl)
]

pub data Closed (e : Enclosure) (bs : List ℕ) (r : Stand) : Type 0 where
  unclosed : close e 0 false bs ≡ None → Fault OpenText 0 ≡ r → Closed e bs r
  whole : (n : ℕ) → close e 0 false bs ≡ Some n → bad false (take n bs) ≡ None → Found (kind_of e) (1 + n) ≡ r
      → Closed e bs r
  spoilt : (n k : ℕ) → close e 0 false bs ≡ Some n → bad false (take n bs) ≡ Some k → Fault BadEscape (1 + k) ≡ r
      → Closed e bs r

by_cases : (e : Enclosure) (bs : List ℕ) (n : ℕ) (o : Option ℕ) → close e 0 false bs ≡ Some n
    → bad false (take n bs) ≡ o → Closed e bs (by_bad (kind_of e) n o)
by_cases e bs n None h g = whole n h g refl
by_cases e bs n (Some k) h g = spoilt n k h g refl

closed_cases : (e : Enclosure) (bs : List ℕ) (o : Option ℕ) → close e 0 false bs ≡ o
    → Closed e bs (by_close (kind_of e) bs o)
closed_cases e bs None h = unclosed h refl
closed_cases e bs (Some n) h = by_cases e bs n (bad false (take n bs)) h refl

pub closed : (e : Enclosure) (bs : List ℕ) → Closed e bs (enclosed e bs)
closed e bs = closed_cases e bs (close e 0 false bs) refl

pub data Braced (bs : List ℕ) (r : Stand) : Type 0 where
  opening : begins_bounds bs ≡ false → Found K.Sign 1 ≡ r → Braced bs r
  unmet : begins_bounds bs ≡ true → has bs (parts bs).close 125 ≡ false → Fault BadChar 0 ≡ r → Braced bs r
  wide_least : begins_bounds bs ≡ true → has bs (parts bs).close 125 ≡ true → is_wide bs (parts bs).least ≡ true
      → Fault NumberTooWide (1 + (parts bs).least.start) ≡ r → Braced bs r
  wide_most : begins_bounds bs ≡ true → has bs (parts bs).close 125 ≡ true → is_wide bs (parts bs).least ≡ false
      → is_wide bs (parts bs).most ≡ true → Fault NumberTooWide (1 + (parts bs).most.start) ≡ r → Braced bs r
  met : begins_bounds bs ≡ true → has bs (parts bs).close 125 ≡ true → is_wide bs (parts bs).least ≡ false
      → is_wide bs (parts bs).most ≡ false → Found K.Bounds ((parts bs).close + 2) ≡ r → Braced bs r

pub braced : (bs : List ℕ) → Braced bs (brace_stands bs)
braced bs = elim (cases_Bool (begins_bounds bs)) [
  | inr b ↦ opening b (ap (λ x. if x then bounds_by bs (parts bs) else Found K.Sign 1) (sym b))
  | inl b ↦ elim (cases_Bool (has bs (parts bs).close 125)) [
    | inr h ↦ unmet b h (sym (bounds_met bs b ∙ unmet_by bs (parts bs) h))
    | inl h ↦ elim (cases_Bool (is_wide bs (parts bs).least)) [
      | inl l ↦ wide_least b h l (sym (bounds_met bs b ∙ least_by bs (parts bs) h l))
      | inr l ↦ elim (cases_Bool (is_wide bs (parts bs).most)) [
        | inl m ↦ wide_most b h l m (sym (bounds_met bs b ∙ most_by bs (parts bs) h l m))
        | inr m ↦ met b h l m (sym (bounds_met bs b ∙ met_by bs (parts bs) h l m))
      ]
    ]
  ]
]
  where
    bounds_met : (bs : List ℕ) → begins_bounds bs ≡ true → brace_stands bs ≡ bounds_by bs (parts bs)
    bounds_met bs b = ap (λ x. if x then bounds_by bs (parts bs) else Found K.Sign 1) b

    unmet_by : (bs : List ℕ) (p : Parts) → has bs p.close 125 ≡ false → bounds_by bs p ≡ Fault BadChar 0
    unmet_by bs p h = rw h refl

    least_by : (bs : List ℕ) (p : Parts) → has bs p.close 125 ≡ true → is_wide bs p.least ≡ true
        → bounds_by bs p ≡ Fault NumberTooWide (1 + p.least.start)
    least_by bs p h l = rw (h, l) refl

    most_by : (bs : List ℕ) (p : Parts) → has bs p.close 125 ≡ true → is_wide bs p.least ≡ false
        → is_wide bs p.most ≡ true → bounds_by bs p ≡ Fault NumberTooWide (1 + p.most.start)
    most_by bs p h l m = rw (h, l, m) refl

    met_by : (bs : List ℕ) (p : Parts) → has bs p.close 125 ≡ true → is_wide bs p.least ≡ false
        → is_wide bs p.most ≡ false → bounds_by bs p ≡ Found K.Bounds (p.close + 2)
    met_by bs p h l m = rw (h, l, m) refl
