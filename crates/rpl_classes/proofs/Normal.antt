-- What the normal form is: normal, with the same members, and the only such list.
use Rattle.std.proofs.Common.{inl, inr, ◌≡◌, ℕ, ◌+◌, ◌<◌, ◌≤◌, ◌⊎◌, List, [], ◌∷◌, min, max, nat_lt, refl, sym, ap, ap₂}
use Rattle.std.proofs.Common.{◌∙◌, arith}
use Rattle.std.specs.Prelude.{Bool, true, false, nat_le, ◌||◌, ◌&&◌, if◌then◌else◌}
use Rattle.std.proofs.lemmas.Bool.{and_parts, and_from, cases_lt, cases_Bool, both_ways, false_from_ne_true}
use Rattle.std.proofs.lemmas.Bool.Decides.{nat_tests}
use Rattle.regex_class.specs.Ranges.{Range, in_range, in_ranges, fits_from, rises_from, IsCanonical}
use Rattle.regex_class.proofs.RangesLemmas.{in_range_tells, in_ranges-nil, in_ranges-cons, or_assoc, or-false}
use Rattle.regex_class.proofs.RangesLemmas.{fits_from-true, le-fits_from, same_members-same}
use Rattle.rpl_classes.specs.Sets.{is_char, IsNormal, HasJust}
use Rattle.rpl_classes.specs.Norm.{join, add, norm}
use Rattle.rpl_classes.proofs.Bitmaps.{range_needs}
use Rattle.std.proofs.Math.Utf8.{scalar, scalar_cases}

-- ranges rise from a number if and only if the first fits there, and the others rise from two after its end
pub rises_cons : (n : ℕ) (r : Range) (rs : List Range)
    → rises_from n (r ∷ rs) ≡ (fits_from n r && rises_from (r.1 + 2) rs)
unfolding rises_from
rises_cons n r rs = refl

-- no ranges rise from any number
pub rises_nil : (n : ℕ) → rises_from n [] ≡ true
unfolding rises_from
rises_nil n = refl

rises_parts : (n : ℕ) (r : Range) (rs : List Range) → rises_from n (r ∷ rs) ≡ true → (n ≤ r.0) × (r.0 ≤ r.1)
    × (r.1 ≤ 0x10_ffff) × (rises_from (r.1 + 2) rs ≡ true)
rises_parts n r rs h =
    let p = and_parts _ _ (sym (rises_cons n r rs) ∙ h) in
    let f = fits_from-true n r p.0 in
    (f.0, f.1, f.2, p.1)

rises_build : (n : ℕ) (r : Range) (rs : List Range) → n ≤ r.0 → r.0 ≤ r.1 → r.1 ≤ 0x10_ffff
    → rises_from (r.1 + 2) rs ≡ true → rises_from n (r ∷ rs) ≡ true
rises_build n r rs a b c h = rises_cons n r rs ∙ and_from _ _ (le-fits_from n r a b c) h

rises_lower : (n m : ℕ) (rs : List Range) → n ≤ m → rises_from m rs ≡ true → rises_from n rs ≡ true
rises_lower n m [] le h = rises_nil n
rises_lower n m (r ∷ rs) le h = let p = rises_parts m r rs h in rises_build n r rs (omega arith) p.1 p.2 p.3

-- the three cases of a join
join_before : (r s : Range) (ss : List Range) → r.1 + 1 < s.0 → join r (s ∷ ss) ≡ r ∷ s ∷ ss
unfolding join
join_before r s ss lt =
    let t : nat_lt (r.1 + 1) s.0 ≡ true = grind (arith, nat_tests) in
    ap (λ b. if b then r ∷ s ∷ ss
    else (if nat_lt (s.1 + 1) r.0 then s ∷ join r ss else join (min r.0 s.0, max r.1 s.1) ss)) t

join_after : (r s : Range) (ss : List Range) → s.0 ≤ r.1 + 1 → s.1 + 1 < r.0 → join r (s ∷ ss) ≡ s ∷ join r ss
unfolding join
join_after r s ss le lt =
    let f : nat_lt (r.1 + 1) s.0 ≡ false = grind (arith, nat_tests) in
    let t : nat_lt (s.1 + 1) r.0 ≡ true = grind (arith, nat_tests) in
    ap (λ b. if b then r ∷ s ∷ ss
    else (if nat_lt (s.1 + 1) r.0 then s ∷ join r ss else join (min r.0 s.0, max r.1 s.1) ss)) f
    ∙ ap (λ b. if b then s ∷ join r ss else join (min r.0 s.0, max r.1 s.1) ss) t

join_touch : (r s : Range) (ss : List Range) → s.0 ≤ r.1 + 1 → r.0 ≤ s.1 + 1
    → join r (s ∷ ss) ≡ join (min r.0 s.0, max r.1 s.1) ss
unfolding join
join_touch r s ss le ge =
    let f : nat_lt (r.1 + 1) s.0 ≡ false = grind (arith, nat_tests) in
    let t : nat_lt (s.1 + 1) r.0 ≡ false = grind (arith, nat_tests) in
    ap (λ b. if b then r ∷ s ∷ ss
    else (if nat_lt (s.1 + 1) r.0 then s ∷ join r ss else join (min r.0 s.0, max r.1 s.1) ss)) f
    ∙ ap (λ b. if b then s ∷ join r ss else join (min r.0 s.0, max r.1 s.1) ss) t

join_nil : (r : Range) → join r [] ≡ r ∷ []
unfolding join
join_nil r = refl

-- a list keeps its order when a range is joined
join_rises : (n : ℕ) (r : Range) (ss : List Range) → n ≤ r.0 → r.0 ≤ r.1 → r.1 ≤ 0x10_ffff → rises_from n ss ≡ true
    → rises_from n (join r ss) ≡ true
join_rises n r [] a b c h = ap (rises_from n) (join_nil r) ∙ rises_build n r [] a b c (rises_nil (r.1 + 2))
join_rises n r (s ∷ ss) a b c h =
    let p = rises_parts n s ss h in
    elim (cases_lt (r.1 + 1) s.0) [
      | inl lt ↦ ap (rises_from n) (join_before r s ss lt)
          ∙ rises_build n r (s ∷ ss) a b c (rises_build (r.1 + 2) s ss (omega arith) p.1 p.2 p.3)
      | inr ge ↦ elim (cases_lt (s.1 + 1) r.0) [
        | inl lt ↦ ap (rises_from n) (join_after r s ss ge lt)
            ∙ rises_build n s (join r ss) p.0 p.1 p.2 (join_rises (s.1 + 2) r ss (omega arith) b c p.3)
        | inr le ↦ ap (rises_from n) (join_touch r s ss ge le)
            ∙ join_rises n (min r.0 s.0, max r.1 s.1) ss (omega arith) (omega arith) (omega arith)
            (rises_lower n (s.1 + 2) ss (omega arith) p.3)
      ]
    ]

-- two ranges that meet or touch hold what their hull holds
hull : (r s : Range) (c : ℕ) → r.0 ≤ r.1 → s.0 ≤ s.1 → s.0 ≤ r.1 + 1 → r.0 ≤ s.1 + 1
    → in_range (min r.0 s.0, max r.1 s.1) c ≡ (in_range r c || in_range s c)
hull r s c a b p q = grind (arith, in_range_tells (min r.0 s.0, max r.1 s.1) c, in_range_tells r c, in_range_tells s c)

or_swap : (x y z : Bool) → (y || (x || z)) ≡ (x || (y || z))
or_swap true true z = refl
or_swap true false z = refl
or_swap false y z = refl

-- a join has one more range's members
join_members : (n : ℕ) (r : Range) (ss : List Range) (c : ℕ) → r.0 ≤ r.1 → rises_from n ss ≡ true
    → in_ranges (join r ss) c ≡ (in_range r c || in_ranges ss c)
join_members n r [] c a h = ap (λ l. in_ranges l c) (join_nil r) ∙ in_ranges-cons r [] c
join_members n r (s ∷ ss) c a h =
    let p = rises_parts n s ss h in
    let split = in_ranges-cons s ss c in
    elim (cases_lt (r.1 + 1) s.0) [
      | inl lt ↦ ap (λ l. in_ranges l c) (join_before r s ss lt) ∙ in_ranges-cons r (s ∷ ss) c
      | inr ge ↦ elim (cases_lt (s.1 + 1) r.0) [
        | inl lt ↦ ap (λ l. in_ranges l c) (join_after r s ss ge lt) ∙ in_ranges-cons s (join r ss) c
            ∙ ap (λ b. in_range s c || b) (join_members (s.1 + 2) r ss c a p.3)
            ∙ or_swap (in_range r c) (in_range s c) (in_ranges ss c)
            ∙ ap (λ b. in_range r c || b) (sym split)
        | inr le ↦ ap (λ l. in_ranges l c) (join_touch r s ss ge le)
            ∙ join_members (s.1 + 2) (min r.0 s.0, max r.1 s.1) ss c (omega arith) p.3
            ∙ ap (λ b. b || in_ranges ss c) (hull r s c a p.1 ge le)
            ∙ sym (or_assoc (in_range r c) (in_range s c) (in_ranges ss c)) ∙ ap (λ b. in_range r c || b) (sym split)
      ]
    ]

add_some : (low high : ℕ) (ss : List Range) → low ≤ high → add low high ss ≡ join (low, high) ss
unfolding add
add_some low high ss le =
    let t : nat_le low high ≡ true = grind (arith, nat_tests) in
    ap (λ b. if b then join (low, high) ss else ss) t

add_none : (low high : ℕ) (ss : List Range) → high < low → add low high ss ≡ ss
unfolding add
add_none low high ss lt =
    let t : nat_le low high ≡ false = grind (arith, nat_tests) in
    ap (λ b. if b then join (low, high) ss else ss) t

add_rises : (low high : ℕ) (ss : List Range) → high ≤ 0x10_ffff → IsCanonical ss → IsCanonical (add low high ss)
add_rises low high ss c h = elim (cases_lt high low) [
  | inl lt ↦ ap (rises_from 0) (add_none low high ss lt) ∙ h
  | inr le ↦ ap (rises_from 0) (add_some low high ss le) ∙ join_rises 0 (low, high) ss (omega arith) le c h
]

none_between : (low high c : ℕ) → high < low → in_range (low, high) c ≡ false
none_between low high c lt = grind (arith, in_range_tells (low, high) c)

add_members : (low high : ℕ) (ss : List Range) (c : ℕ) → IsCanonical ss
    → in_ranges (add low high ss) c ≡ (in_range (low, high) c || in_ranges ss c)
add_members low high ss c h = elim (cases_lt high low) [
  | inl lt ↦ ap (λ l. in_ranges l c) (add_none low high ss lt)
      ∙ ap (λ b. b || in_ranges ss c) (sym (none_between low high c lt))
  | inr le ↦ ap (λ l. in_ranges l c) (add_some low high ss le) ∙ join_members 0 (low, high) ss c le h
]

-- the normal form of no ranges has no ranges
pub norm_nil : norm [] ≡ []
unfolding norm
norm_nil = refl

pub norm_cons : (r : Range) (rs : List Range)
    → norm (r ∷ rs) ≡ add r.0 (min r.1 0xd7ff) (add (max r.0 0xe000) (min r.1 0x10_ffff) (norm rs))
unfolding norm
norm_cons r rs = refl

norm_rises : (rs : List Range) → IsCanonical (norm rs)
norm_rises [] = ap (rises_from 0) norm_nil ∙ rises_nil 0
norm_rises (r ∷ rs) = ap (rises_from 0) (norm_cons r rs)
    ∙ add_rises r.0 (min r.1 0xd7ff) _ (omega arith) (add_rises (max r.0 0xe000) (min r.1 0x10_ffff) (norm rs)
    (omega arith) (norm_rises rs))

-- a range's characters are those below and those above the surrogates
cut : (r : Range) (c : ℕ) → (in_range (r.0, min r.1 0xd7ff) c || in_range (max r.0 0xe000, min r.1 0x10_ffff) c)
    ≡ (is_char c && in_range r c)
cut r c = grind (
  arith,
  nat_tests,
  in_range_tells (r.0, min r.1 0xd7ff) c,
  in_range_tells (max r.0 0xe000, min r.1 0x10_ffff) c,
  in_range_tells r c,
)

and_or : (x y z : Bool) → ((x && y) || (x && z)) ≡ (x && (y || z))
and_or true y z = refl
and_or false y z = refl

and_false : (x : Bool) → false ≡ (x && false)
and_false true = refl
and_false false = refl

-- the members of the normal form: the characters of the ranges
pub norm_members : (rs : List Range) (c : ℕ) → in_ranges (norm rs) c ≡ (is_char c && in_ranges rs c)
norm_members [] c = ap (λ l. in_ranges l c) norm_nil ∙ in_ranges-nil c ∙ and_false (is_char c)
    ∙ ap (λ b. is_char c && b) (sym (in_ranges-nil c))
norm_members (r ∷ rs) c =
    let high : IsCanonical (add (max r.0 0xe000) (min r.1 0x10_ffff) (norm rs)) =
    add_rises (max r.0 0xe000) (min r.1 0x10_ffff) (norm rs) (omega arith) (norm_rises rs) in
    ap (λ l. in_ranges l c) (norm_cons r rs)
    ∙ add_members r.0 (min r.1 0xd7ff) _ c high
    ∙ ap (λ b. in_range (r.0, min r.1 0xd7ff) c || b) (add_members (max r.0 0xe000) (min r.1 0x10_ffff) (norm rs) c
    (norm_rises rs))
    ∙ or_assoc (in_range (r.0, min r.1 0xd7ff) c) (in_range (max r.0 0xe000, min r.1 0x10_ffff) c)
    (in_ranges (norm rs) c)
    ∙ ap₂ ◌||◌ (cut r c) (norm_members rs c)
    ∙ and_or (is_char c) (in_range r c) (in_ranges rs c)
    ∙ ap (λ b. is_char c && b) (sym (in_ranges-cons r rs c))

-- the normal form of some ranges has exactly the characters in those ranges
pub norm_just : (rs : List Range) → HasJust (norm rs) (in_ranges rs)
norm_just rs c e = norm_members rs c ∙ ap (λ b. b && in_ranges rs c) e

-- the normal form of some ranges is in normal form
pub norm_normal : (rs : List Range) → IsNormal (norm rs)
norm_normal rs = record { rises = norm_rises rs; chars = λ c e. (and_parts _ _ (sym (norm_members rs c) ∙ e)).0 }

no_members : (s : List Range) (c : ℕ) → IsNormal s → is_char c ≡ false → in_ranges s c ≡ false
no_members s c n f = false_from_ne_true (in_ranges s c) (λ e. both_ways (is_char c) f (n.chars c e))

-- normal lists with the same characters are the same
pub normal_same : (xs ys : List Range) → IsNormal xs → IsNormal ys → HasJust xs (in_ranges ys) → xs ≡ ys
normal_same xs ys n m h = same_members-same xs ys n.rises m.rises (λ c le. elim (cases_Bool (is_char c)) [
  | inl e ↦ h c e
  | inr f ↦ no_members xs c n f ∙ sym (no_members ys c m f)
])

-- the normal form is the only normal list with the characters of the ranges
pub norm_only : (rs s : List Range) → IsNormal s → HasJust s (in_ranges rs) → s ≡ norm rs
norm_only rs s n h = normal_same s (norm rs) n (norm_normal rs) (λ c e. h c e ∙ sym (norm_just rs c e))

-- ranges with the same characters have one normal form
pub norm_alike : (rs ss : List Range) → HasJust rs (in_ranges ss) → norm rs ≡ norm ss
norm_alike rs ss h = norm_only ss (norm rs) (norm_normal rs) (λ c e. norm_just rs c e ∙ h c e)

-- a normal list is its own normal form
pub norm_normal_same : (s : List Range) → IsNormal s → norm s ≡ s
norm_normal_same s n = sym (norm_only s s n (λ c e. refl))

-- a range with no surrogates in it, by itself
pub one_normal : (low high : ℕ) → low ≤ high → scalar high ≡ true → (high < 0xd800) ⊎ (0xdfff < low)
    → IsNormal ((low, high) ∷ [])
one_normal low high le s apart =
    let most : high ≤ 0x10_ffff = elim (scalar_cases high s) [ inl lt ↦ omega (arith, lt) | inr h ↦ omega (arith, h.1) ]
    in
    let own : (c : ℕ) → in_ranges ((low, high) ∷ []) c ≡ in_range (low, high) c = λ c. in_ranges-cons (low, high) [] c
    ∙ ap (λ b. in_range (low, high) c || b) (in_ranges-nil c) ∙ or-false (in_range (low, high) c) in record {
      rises = rises_build 0 (low, high) [] (omega arith) le most (rises_nil (high + 2));
      chars = λ c e.
          let b = range_needs (low, high) c (sym (own c) ∙ e) in
          elim apart [
            | inl below ↦ grind (arith, nat_tests, b.0, b.1, below)
            | inr above ↦
                grind (arith, nat_tests, b.0, b.1, above, most)
          ];
    }

-- the normal form of everything
pub norm_whole : norm ((0, 0x10_ffff) ∷ []) ≡ (0, 0xd7ff) ∷ (0xe000, 0x10_ffff) ∷ []
unfolding join add norm
norm_whole = refl
