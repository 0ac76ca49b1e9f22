-- Ranges without their surrogates.
use Rattle.std.proofs.Common.{◌≡◌, ℕ, ◌+◌, ◌-◌, ◌<◌, ◌≤◌, List, [], ◌∷◌, ◌++◌, length, take, take_all, set, get_or, min}
use Rattle.std.proofs.Common.{max, refl, sym, ap, ap₂, ◌∙◌, arith, inl, inr}
use Rattle.std.specs.Prelude.{Bool, true, false, ◌||◌, ◌&&◌, Result, Ok, Err, IfOk}
use Rattle.regex_class.specs.declared.Class.{Class}
use Rattle.std.proofs.lemmas.Bool.{cases_lt, and_parts, and_from, both_ways}
use Rattle.std.proofs.lemmas.List.{take_more, take_more_set, length-set}
use Rattle.std.proofs.lemmas.Bool.Decides.{nat_tests}
use Rattle.std.proofs.Math.Bool.{and-false, and-or_distrib_left}
use Rattle.regex_class.specs.Ranges.{Range, in_range, in_ranges, range_at, fits_from, rises_from, IsCanonical}
use Rattle.regex_class.specs.Ranges.{HasExactly}
use Rattle.regex_class.proofs.RangesLemmas.{or_assoc, or-false, in_range_tells, in_ranges-nil, in_ranges-push}
use Rattle.regex_class.proofs.RangesLemmas.{in_ranges-more, in_ranges-above_max, next_free, next_free-push}
use Rattle.regex_class.proofs.RangesLemmas.{rises_from-push, le-fits_from}
use Rattle.rpl_text.specs.Characters.{is_char}
use Rattle.rpl_unicode.specs.Ranges.{IsListOf}

pub char_below : (c : ℕ) → is_char c ≡ true → c ≤ 0x10_ffff
char_below c h = grind (arith, nat_tests)

pub cut_none : (ps : List Range) → ps ≡ [] → HasExactly ps (λ c. is_char c && in_ranges [] c)
cut_none ps e c le = ap (λ l. in_ranges l c) e ∙ in_ranges-nil c ∙ sym (and-false (is_char c))
    ∙ ap (λ b. is_char c && b) (sym (in_ranges-nil c))

parted : (r : Range) (c : ℕ) → c ≤ 0x10_ffff → (in_range (r.0, min r.1 0xd7ff) c || in_range (max r.0 0xe000, r.1) c)
    ≡ (is_char c && in_range r c)
parted r c le = grind (
  arith,
  nat_tests,
  in_range_tells (r.0, min r.1 0xd7ff) c,
  in_range_tells (max r.0 0xe000, r.1) c,
  in_range_tells r c,
)

pub cut_more : (old ps rs : List Range) (i : ℕ) (r : Range) → i < length rs → r ≡ range_at rs i
    → HasExactly old (λ c. is_char c && in_ranges (take i rs) c)
    → ((c : ℕ) → in_ranges ps c ≡ ((in_ranges old c || in_range (r.0, min r.1 0xd7ff) c)
    || in_range (max r.0 0xe000, r.1) c))
    → HasExactly ps (λ c. is_char c && in_ranges (take (i + 1) rs) c)
cut_more old ps rs i r lt s h e c le =
    e c ∙ sym (or_assoc (in_ranges old c) (in_range (r.0, min r.1 0xd7ff) c) (in_range (max r.0 0xe000, r.1) c))
    ∙ ap₂ ◌||◌ (h c le) (parted r c le)
    ∙ sym (and-or_distrib_left (is_char c) (in_ranges (take i rs) c) (in_range r c))
    ∙ ap (λ (x : Range). is_char c && (in_ranges (take i rs) c || in_range x c)) s
    ∙ ap (λ b. is_char c && b) (sym (in_ranges-more rs i c lt))

-- a range without members adds none
pub none_added : (old ps : List Range) (low high c : ℕ) → high < low → ps ≡ old
    → in_ranges ps c ≡ (in_ranges old c || in_range (low, high) c)
none_added old ps low high c lt e =
    let none : in_range (low, high) c ≡ false = grind (arith, in_range_tells (low, high) c) in
    ap (λ l. in_ranges l c) e ∙ sym (or-false (in_ranges old c)) ∙ ap (λ b. in_ranges old c || b) (sym none)

-- a list is its front and its last item, also after that item is replaced
front_last : (xs : List Range) (n : ℕ) (last : Range) → n ≡ length xs → 0 < n → last ≡ get_or xs (n - 1) last
    → xs ≡ take (n - 1) xs ++ last ∷ []
front_last xs n last len some is =
    sym (take_all (n - 1 + 1) xs (omega arith)) ∙ take_more xs (n - 1) last (omega arith)
    ∙ ap (λ (r : Range). take (n - 1) xs ++ r ∷ []) (sym is)

front_new : (xs : List Range) (n : ℕ) (new : Range) → n ≡ length xs → 0 < n
    → set xs (n - 1) new ≡ take (n - 1) xs ++ new ∷ []
front_new xs n new len some =
    sym (take_all (n - 1 + 1) (set xs (n - 1) new) (omega (arith, length-set xs (n - 1) new)))
    ∙ take_more_set xs (n - 1) new (omega arith)

-- a range that begins in another or just behind it makes it longer
longer : (b : Bool) (last r : Range) (m c : ℕ) → last.0 ≤ r.0 → r.0 ≤ last.1 + 1 → r.0 ≤ r.1 → m ≡ max last.1 r.1
    → (b || in_range (last.0, m) c) ≡ ((b || in_range last c) || in_range r c)
longer true last r m c p q s e = refl
longer false last r m c p q s e = grind (arith, in_range_tells (last.0, m) c, in_range_tells last c, in_range_tells r c)

pub last_longer : (xs new : List Range) (n : ℕ) (last r : Range) (m c : ℕ) → n ≡ length xs → 0 < n
    → last ≡ get_or xs (n - 1) last → new ≡ set xs (n - 1) (last.0, m)
    → (last.0 ≤ r.0) × (r.0 ≤ last.1 + 1) → r.0 ≤ r.1 → m ≡ max last.1 r.1
    → in_ranges new c ≡ (in_ranges xs c || in_range r c)
last_longer xs new n last r m c len some is made meet le e =
    ap (λ l. in_ranges l c) (made ∙ front_new xs n (last.0, m) len some)
    ∙ in_ranges-push (take (n - 1) xs) (last.0, m) c
    ∙ longer (in_ranges (take (n - 1) xs) c) last r m c meet.0 meet.1 le e
    ∙ ap (λ b. b || in_range r c) (sym (ap (λ l. in_ranges l c) (front_last xs n last len some is)
    ∙ in_ranges-push (take (n - 1) xs) last c))

-- one range more, in order
pub rises_more : (rs : List Range) (i n : ℕ) → i < length rs → IsCanonical (take i rs) → next_free 0 (take i rs) ≡ n
    → n ≤ (range_at rs i).0 → (range_at rs i).0 ≤ (range_at rs i).1
    → (range_at rs i).1 ≤ 0x10_ffff → IsCanonical (take (i + 1) rs)
rises_more rs i n lt k free a b c =
    ap (rises_from 0) (take_more rs i (0, 0) lt) ∙ rises_from-push 0 (take i rs) (range_at rs i)
    ∙ and_from _ _ k (ap (λ m. fits_from m (range_at rs i)) free ∙ le-fits_from n (range_at rs i) a b c)

pub free_more : (rs : List Range) (i : ℕ) → i < length rs → next_free 0 (take (i + 1) rs) ≡ (range_at rs i).1 + 2
free_more rs i lt = ap (next_free 0) (take_more rs i (0, 0) lt) ∙ next_free-push 0 (take i rs) (range_at rs i)

guarded : (x y : Bool) → x ≡ true → (x && y) ≡ y
guarded true y e = refl
guarded false y e = absurd (both_ways false refl e)

-- a class of the parts of some ranges has just their characters
pub cut_list : (u ps rs : List Range) → IsCanonical u → HasExactly u (in_ranges ps)
    → HasExactly ps (λ c. is_char c && in_ranges rs c) → IsListOf (in_ranges rs) u
cut_list u ps rs k g h = record {
  normal = record {
    rises = k;
    chars = λ c e. elim (cases_lt 0x10_ffff c) [
      | inl lt ↦ absurd (both_ways (in_ranges u c) (in_ranges-above_max u c k lt) e)
      | inr le ↦ (and_parts (is_char c) (in_ranges rs c) (sym (h c le) ∙ (sym (g c le) ∙ e))).0
    ];
  };
  members = λ c e. g c (char_below c e) ∙ (h c (char_below c e) ∙ guarded (is_char c) (in_ranges rs c) e);
}

pub cut_made : {E : Type 0} (ps rs : List Range) (r : Result Class E)
    → IfOk r (λ k. HasExactly k.ranges.items (in_ranges ps)) → HasExactly ps (λ c. is_char c && in_ranges rs c)
    → IfOk r (λ k. IsListOf (in_ranges rs) k.ranges.items)
cut_made ps rs (Ok k) g h = cut_list k.ranges.items ps rs k.canonical g h
cut_made ps rs (Err _) g h = tt
