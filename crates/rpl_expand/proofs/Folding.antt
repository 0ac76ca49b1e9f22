-- Folding twice is folding once, and the fold of a set has both cases of its ASCII letters: of two characters that are
-- in it or not together, each folds with what the other folds with.
use Rattle.std.proofs.Common.{◌≡◌, ℕ, zero, suc, ◌<◌, ◌≤◌, List, refl, sym, ap, ◌∙◌, arith, inl, inr}
use Rattle.std.specs.Prelude.{Bool, true, false, ◌||◌, ◌&&◌, ◌==◌}
use Rattle.std.specs.Char.{to_ascii_lowercase}
use Rattle.std.proofs.lemmas.Bool.{and_parts, and_from, or_cases, cases_lt, cases_order, eqb-true, eq-eqb}
use Rattle.std.proofs.lemmas.Bool.Decides.{nat_tests}
use Rattle.regex_class.specs.Ranges.{Range, in_ranges}
use Rattle.ucd_case.specs.CaseFolding.{simple_fold}
use Rattle.ucd_case.proofs.CaseFoldingLemmas.{simple_fold-ascii}
use Rattle.rpl_unicode.specs.Folding.{some_below, folds_with}
use Rattle.rpl_unicode.proofs.Alike.{some_of}
use Rattle.rpl_classes.specs.Algebra.{folded, other_case, widened}
use Rattle.rpl_classes.specs.Sets.{is_char, IsNormal}
use Rattle.rpl_classes.proofs.Cases.{widened_just, widened_normal}
use Rattle.rpl_classes.proofs.Named.{set_just, set_normal}
use Rattle.rpl_classes.proofs.Normal.{normal_same}
use Rattle.rpl_classes.proofs.Operations.{char_below}
use Rattle.rpl_expand.specs.Laws.{FoldsOnce}

-- ---- tests

first_true : (a b : Bool) → a ≡ true → (a || b) ≡ true
first_true true b e = refl
first_true false b e = absurd cc

second_true : (a b : Bool) → b ≡ true → (a || b) ≡ true
second_true true b e = refl
second_true false b e = e

absorbed : (a b : Bool) → (b ≡ true → a ≡ true) → (a || b) ≡ a
absorbed true b h = refl
absorbed false true h = sym (h refl)
absorbed false false h = refl

both_ways : (a b : Bool) → (a ≡ true → b ≡ true) → (b ≡ true → a ≡ true) → a ≡ b
both_ways true b f g = sym (f refl)
both_ways false true f g = g refl
both_ways false false f g = refl

some_from : (n d : ℕ) (p : ℕ → Bool) → d < n → p d ≡ true → some_below n p ≡ true
unfolding some_below
some_from zero d p lt e = absurd (omega arith)
some_from (suc n) d p lt e = elim (cases_order d n) [
  | inl same ↦ first_true (p n) (some_below n p) (ap p (sym same) ∙ e)
  | inr apart ↦ second_true (p n) (some_below n p) (some_from n d p (omega arith) e)
]

-- ---- what folds with a set

-- a character of the set has this simple folding
record Folds (s : List Range) (fold : ℕ) : Type 0 where
  source : ℕ
  char : is_char source ≡ true
  has : in_ranges s source ≡ true
  same : simple_fold source ≡ fold

folds_from : (s : List Range) (c : ℕ) → Folds s (simple_fold c) → folds_with (in_ranges s) c ≡ true
unfolding folds_with
folds_from s c f =
    let test : ℕ → Bool = λ d. (is_char d && in_ranges s d) && (simple_fold d == simple_fold c) in
    let le = char_below f.source f.char in
    some_from 0x11_0000 f.source test (omega arith)
    (and_from _ _ (and_from _ _ f.char f.has) (eq-eqb _ _ f.same))

folds_to : (s : List Range) (c : ℕ) → folds_with (in_ranges s) c ≡ true → Folds s (simple_fold c)
unfolding folds_with
folds_to s c e =
    let test : ℕ → Bool = λ d. (is_char d && in_ranges s d) && (simple_fold d == simple_fold c) in
    let r = some_of 0x11_0000 test e in
    let parts = and_parts _ _ r.1 in
    let own = and_parts _ _ parts.0 in
    record { source = r.0; char = own.0; has = own.1; same = eqb-true _ _ parts.1 }

folded_just : (s : List Range) (c : ℕ) → is_char c ≡ true → in_ranges (folded s) c ≡ folds_with (in_ranges s) c
unfolding folded
folded_just s c e = set_just (folds_with (in_ranges s)) c e

folded_normal : (s : List Range) → IsNormal (folded s)
unfolding folded
folded_normal s = set_normal (folds_with (in_ranges s))

in_folded : (s : List Range) (c : ℕ) → is_char c ≡ true → Folds s (simple_fold c) → in_ranges (folded s) c ≡ true
in_folded s c e f = folded_just s c e ∙ folds_from s c f

of_folded : (s : List Range) (c : ℕ) → is_char c ≡ true → in_ranges (folded s) c ≡ true → Folds s (simple_fold c)
of_folded s c e h = folds_to s c (sym (folded_just s c e) ∙ h)

-- sets whose characters have the same simple foldings have one fold
folded_alike : (r s : List Range) → ((n : ℕ) → Folds r n → Folds s n) → ((n : ℕ) → Folds s n → Folds r n)
    → folded r ≡ folded s
folded_alike r s to from =
    normal_same (folded r) (folded s) (folded_normal r) (folded_normal s) (λ c e.
    both_ways (in_ranges (folded r) c) (in_ranges (folded s) c)
    (λ h. in_folded s c e (to (simple_fold c) (of_folded r c e h)))
    (λ h. in_folded r c e (from (simple_fold c) (of_folded s c e h))))

-- ---- folding twice

again_to : (r : List Range) (n : ℕ) → Folds (folded r) n → Folds r n
again_to r n f =
    let g = of_folded r f.source f.char f.has in
    record { source = g.source; char = g.char; has = g.has; same = g.same ∙ f.same }

again_from : (r : List Range) (n : ℕ) → Folds r n → Folds (folded r) n
again_from r n f = record {
  source = f.source;
  char = f.char;
  has = in_folded r f.source f.char (record { source = f.source; char = f.char; has = f.has; same = refl });
  same = f.same;
}

-- ---- both cases of ASCII letters

small_other : (c : ℕ) → c < 128 → other_case c < 128
small_other c h = grind (arith, nat_tests)

high_other : (c : ℕ) → 128 ≤ c → other_case c ≡ c
high_other c h = grind (arith, nat_tests)

one_lower : (c : ℕ) → to_ascii_lowercase (other_case c) ≡ to_ascii_lowercase c
one_lower c = grind (arith, nat_tests)

-- a character folds as its other case does
other_folds : (c : ℕ) → simple_fold (other_case c) ≡ simple_fold c
other_folds c = elim (cases_lt c 128) [
  | inl lt ↦ simple_fold-ascii (other_case c) (small_other c lt) ∙ one_lower c ∙ sym (simple_fold-ascii c lt)
  | inr ge ↦ ap simple_fold (high_other c ge)
]

small_char : (c : ℕ) → c < 128 → is_char c ≡ true
small_char c h = grind (arith, nat_tests)

other_char : (c : ℕ) → is_char c ≡ true → is_char (other_case c) ≡ true
other_char c e = elim (cases_lt c 128) [
  | inl lt ↦ small_char (other_case c) (small_other c lt)
  | inr ge ↦ ap is_char (high_other c ge) ∙ e
]

cases_to : (r : List Range) (n : ℕ) → Folds (widened r) n → Folds r n
cases_to r n f =
    let m = sym (widened_just r (widened r) refl f.source f.char) ∙ f.has in
    elim (or_cases (in_ranges r f.source) (in_ranges r (other_case f.source)) m) [
      | inl h ↦ record { source = f.source; char = f.char; has = h; same = f.same }
      | inr h ↦ record {
        source = other_case f.source;
        char = other_char f.source f.char;
        has = h;
        same = other_folds f.source ∙ f.same;
      }
    ]

cases_from : (r : List Range) (n : ℕ) → Folds r n → Folds (widened r) n
cases_from r n f = record {
  source = f.source;
  char = f.char;
  has = widened_just r (widened r) refl f.source f.char
      ∙ first_true (in_ranges r f.source) (in_ranges r (other_case f.source)) f.has;
  same = f.same;
}

cases_stay : (r : List Range) → widened (folded r) ≡ folded r
cases_stay r =
    normal_same (widened (folded r)) (folded r) (widened_normal (folded r)) (folded_normal r) (λ c e.
    widened_just (folded r) (widened (folded r)) refl c e
    ∙ absorbed (in_ranges (folded r) c) (in_ranges (folded r) (other_case c)) (λ h.
    let g = of_folded r (other_case c) (other_char c e) h in
    in_folded r c e (record { source = g.source; char = g.char; has = g.has; same = g.same ∙ other_folds c })))

-- ---- the law

pub folds_once : FoldsOnce
folds_once = record {
  again = λ r. folded_alike (folded r) r (again_to r) (again_from r);
  cases_in = λ r. folded_alike (widened r) r (cases_to r) (cases_from r);
  cases_out = cases_stay;
}
