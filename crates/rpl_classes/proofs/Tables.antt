-- Each range of the table is in its class, and nothing else is.
use Rattle.std.proofs.Common.{◌≡◌, ℕ, List, [], ◌∷◌, refl, ap, ap₂, ◌∙◌, arith}
use Rattle.std.specs.Prelude.{Bool, false, nat_le, ◌||◌, ◌&&◌}
use Rattle.std.proofs.lemmas.Bool.Decides.{nat_tests}
use Rattle.regex_class.specs.Ranges.{Range, in_range, in_ranges}
use Rattle.regex_class.proofs.RangesLemmas.{in_ranges-nil, in_ranges-cons, or-false}
use Rattle.rpl_classes.specs.Sets.{HasJust}
use Rattle.rpl_classes.specs.Classes.{in_class}
use Rattle.rpl_classes.specs.declared.classes.NamedClass.TheVariants.{Alpha, Digit, Alnum, Upper, Lower, Space, Blank}
use Rattle.rpl_classes.specs.declared.classes.NamedClass.TheVariants.{Punct, Xdigit, Cntrl, Graph, Print}

-- the tests of some ranges, one after the other
abbrev tests : List Range → ℕ → Bool
tests [] c = false
tests (r ∷ []) c = nat_le r.0 c && nat_le c r.1
tests (r ∷ s ∷ rs) c = (nat_le r.0 c && nat_le c r.1) || tests (s ∷ rs) c

spelled : (r : Range) (c : ℕ) → in_range r c ≡ (nat_le r.0 c && nat_le c r.1)
unfolding in_range
spelled r c = refl

in_ranges_tests : (rs : List Range) (c : ℕ) → in_ranges rs c ≡ tests rs c
in_ranges_tests [] c = in_ranges-nil c
in_ranges_tests (r ∷ []) c = in_ranges-cons r [] c ∙ ap (λ b. in_range r c || b) (in_ranges-nil c)
    ∙ or-false (in_range r c) ∙ spelled r c
in_ranges_tests (r ∷ s ∷ rs) c = in_ranges-cons r (s ∷ rs) c ∙ ap₂ ◌||◌ (spelled r c) (in_ranges_tests (s ∷ rs) c)

pub alpha_table : HasJust ((0x41, 0x5a) ∷ (0x61, 0x7a) ∷ []) (in_class Alpha)
alpha_table c e = in_ranges_tests ((0x41, 0x5a) ∷ (0x61, 0x7a) ∷ []) c ∙ grind (arith, nat_tests)

pub digit_table : HasJust ((0x30, 0x39) ∷ []) (in_class Digit)
digit_table c e = in_ranges_tests ((0x30, 0x39) ∷ []) c ∙ grind (arith, nat_tests)

pub alnum_table : HasJust ((0x30, 0x39) ∷ (0x41, 0x5a) ∷ (0x61, 0x7a) ∷ []) (in_class Alnum)
alnum_table c e = in_ranges_tests ((0x30, 0x39) ∷ (0x41, 0x5a) ∷ (0x61, 0x7a) ∷ []) c ∙ grind (arith, nat_tests)

pub upper_table : HasJust ((0x41, 0x5a) ∷ []) (in_class Upper)
upper_table c e = in_ranges_tests ((0x41, 0x5a) ∷ []) c ∙ grind (arith, nat_tests)

pub lower_table : HasJust ((0x61, 0x7a) ∷ []) (in_class Lower)
lower_table c e = in_ranges_tests ((0x61, 0x7a) ∷ []) c ∙ grind (arith, nat_tests)

pub space_table : HasJust ((0x9, 0xd) ∷ (0x20, 0x20) ∷ []) (in_class Space)
space_table c e = in_ranges_tests ((0x9, 0xd) ∷ (0x20, 0x20) ∷ []) c ∙ grind (arith, nat_tests)

pub blank_table : HasJust ((0x9, 0x9) ∷ (0x20, 0x20) ∷ []) (in_class Blank)
blank_table c e = in_ranges_tests ((0x9, 0x9) ∷ (0x20, 0x20) ∷ []) c ∙ grind (arith, nat_tests)

pub punct_table : HasJust ((0x21, 0x2f) ∷ (0x3a, 0x40) ∷ (0x5b, 0x60) ∷ (0x7b, 0x7e) ∷ []) (in_class Punct)
punct_table c e = in_ranges_tests ((0x21, 0x2f) ∷ (0x3a, 0x40) ∷ (0x5b, 0x60) ∷ (0x7b, 0x7e) ∷ []) c
    ∙ grind (arith, nat_tests)

pub xdigit_table : HasJust ((0x30, 0x39) ∷ (0x41, 0x46) ∷ (0x61, 0x66) ∷ []) (in_class Xdigit)
xdigit_table c e = in_ranges_tests ((0x30, 0x39) ∷ (0x41, 0x46) ∷ (0x61, 0x66) ∷ []) c ∙ grind (arith, nat_tests)

pub cntrl_table : HasJust ((0x0, 0x1f) ∷ (0x7f, 0x7f) ∷ []) (in_class Cntrl)
cntrl_table c e = in_ranges_tests ((0x0, 0x1f) ∷ (0x7f, 0x7f) ∷ []) c ∙ grind (arith, nat_tests)

pub graph_table : HasJust ((0x21, 0x7e) ∷ []) (in_class Graph)
graph_table c e = in_ranges_tests ((0x21, 0x7e) ∷ []) c ∙ grind (arith, nat_tests)

pub print_table : HasJust ((0x20, 0x7e) ∷ []) (in_class Print)
print_table c e = in_ranges_tests ((0x20, 0x7e) ∷ []) c ∙ grind (arith, nat_tests)
