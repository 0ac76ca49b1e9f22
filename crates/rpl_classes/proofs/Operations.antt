-- The members of what is done with sets, and that a class with these members is it.
use Rattle.std.proofs.Common.{◌≡◌, ℕ, ◌≤◌, List, [], ◌∷◌, ◌++◌, refl, sym, ap, ap₂, ◌∙◌, arith, subst}
use Rattle.std.specs.Prelude.{Result, Ok, Err, IfOk, Bool, true, false, nat_eq, nat_le, ◌||◌, ◌&&◌, not}
use Rattle.std.proofs.lemmas.Bool.Decides.{nat_tests}
use Rattle.std.proofs.Math.Bool.{and-or_distrib_left}
use Rattle.regex_class.specs.Ranges.{Range, in_range, in_ranges, IsCanonical, HasExactly}
use Rattle.regex_class.proofs.RangesLemmas.{in_ranges-push, in_range_tells, in_ranges-nil, in_ranges-cons}
use Rattle.regex_class.proofs.RangesLemmas.{in_ranges-append, or-false, same_members-same}
use Rattle.rpl_classes.specs.Sets.{is_char, IsNormal, HasJust}
use Rattle.rpl_classes.specs.Norm.{norm}
use Rattle.rpl_classes.specs.Algebra.{both, others, without, set_of}
use Rattle.rpl_classes.proofs.Named.{set_just, set_normal}
use Rattle.rpl_classes.proofs.Normal.{norm_nil, norm_whole, norm_members, norm_normal, norm_just}

tells : (x y : Bool) → (y ≡ true → x ≡ true) → y ≡ (x && y)
tells x true h = sym (ap (λ b. b && true) (h refl))
tells true false h = refl
tells false false h = refl

-- a character is at most 0x10FFFF
pub char_below : (c : ℕ) → is_char c ≡ true → c ≤ 0x10_ffff
char_below c h = grind (arith, nat_tests)

within : (c : ℕ) → c ≤ 0x10_ffff → in_range (0, 0x10_ffff) c ≡ true
within c le = grind (arith, in_range_tells (0, 0x10_ffff) c)

cut_off : (x y : Bool) → (x ≡ true → y ≡ true) → (x && y) ≡ (x && true)
cut_off true y h = h refl
cut_off false y h = refl

-- a class with the characters of some ranges is their normal form
pub norm_from_class : (u rs : List Range) → IsCanonical u → HasExactly u (λ c. is_char c && in_ranges rs c)
    → u ≡ norm rs
norm_from_class u rs k h = same_members-same u (norm rs) k (norm_normal rs).rises (λ c le. h c le
    ∙ sym (norm_members rs c))

-- members of a normal list are characters
pub only_chars : (s : List Range) (c : ℕ) → IsNormal s → in_ranges s c ≡ (is_char c && in_ranges s c)
only_chars s c n = tells (is_char c) (in_ranges s c) (n.chars c)

-- a class with the members of two normal lists is their union
pub union_from_class : (a b all u : List Range) → IsNormal a → IsNormal b → all ≡ a ++ b → IsCanonical u
    → HasExactly u (in_ranges all) → u ≡ norm (a ++ b)
union_from_class a b all u n m e k h = norm_from_class u (a ++ b) k (λ c le. h c le ∙ ap (λ l. in_ranges l c) e
    ∙ in_ranges-append a b c
    ∙ ap₂ ◌||◌ (only_chars a c n) (only_chars b c m)
    ∙ sym (and-or_distrib_left (is_char c) (in_ranges a c) (in_ranges b c))
    ∙ ap (λ x. is_char c && x) (sym (in_ranges-append a b c)))

and_assoc : (x y z : Bool) → ((x && y) && z) ≡ (x && (y && z))
and_assoc true y z = refl
and_assoc false y z = refl

drop_whole : (x y : Bool) → (x && ((x && true) && y)) ≡ (x && y)
drop_whole true y = refl
drop_whole false y = refl

spelled : (a b c : ℕ) → in_range (a, b) c ≡ (nat_le a c && nat_le c b)
unfolding in_range
spelled a b c = refl

whole : (c : ℕ) → (is_char c && in_ranges ((0, 0x10_ffff) ∷ []) c) ≡ (is_char c && not false)
whole c = cut_off (is_char c) (in_ranges ((0, 0x10_ffff) ∷ []) c) (λ e. in_ranges-cons (0, 0x10_ffff) [] c
    ∙ ap (λ b. b || in_ranges [] c) (within c (char_below c e)))

-- ---- the members of the set of a test

alike : (x y z : Bool) → (x ≡ true → y ≡ z) → (x && y) ≡ (x && z)
alike true y z h = h refl
alike false y z h = refl

pub set_members : (p : ℕ → Bool) (c : ℕ) → in_ranges (set_of p) c ≡ (is_char c && p c)
set_members p c = only_chars (set_of p) c (set_normal p)
    ∙ alike (is_char c) (in_ranges (set_of p) c) (p c) (set_just p c)

pub both_members : (rs ss : List Range) (c : ℕ)
    → in_ranges (both rs ss) c ≡ (is_char c && (in_ranges rs c && in_ranges ss c))
unfolding both
both_members rs ss c = set_members (λ x. in_ranges rs x && in_ranges ss x) c

-- the complement of a set has exactly the characters that are not in the set
pub others_members : (rs : List Range) (c : ℕ) → in_ranges (others rs) c ≡ (is_char c && not (in_ranges rs c))
unfolding others
others_members rs c = set_members (λ x. not (in_ranges rs x)) c

pub without_members : (rs ss : List Range) (c : ℕ)
    → in_ranges (without rs ss) c ≡ (is_char c && (in_ranges rs c && not (in_ranges ss c)))
unfolding without
without_members rs ss c = set_members (λ x. in_ranges rs x && not (in_ranges ss x)) c

-- the common part of two sets is in normal form
pub both_normal : (rs ss : List Range) → IsNormal (both rs ss)
unfolding both
both_normal rs ss = set_normal (λ x. in_ranges rs x && in_ranges ss x)

-- the complement of a set is in normal form
pub others_normal : (rs : List Range) → IsNormal (others rs)
unfolding others
others_normal rs = set_normal (λ x. not (in_ranges rs x))

-- a set without the members of another is in normal form
pub without_normal : (rs ss : List Range) → IsNormal (without rs ss)
unfolding without
without_normal rs ss = set_normal (λ x. in_ranges rs x && not (in_ranges ss x))

-- the empty set is in normal form
pub nil_normal : IsNormal []
nil_normal = subst IsNormal norm_nil (norm_normal [])

-- a class with the members of a normal list that another lacks
pub without_from_class : (a b u : List Range) → IsNormal a → IsCanonical u
    → HasExactly u (λ c. in_ranges a c && not (in_ranges b c)) → u ≡ without a b
without_from_class a b u n k h = same_members-same u (without a b) k (without_normal a b).rises (λ c le. h c le
    ∙ ap (λ x. x && not (in_ranges b c)) (only_chars a c n)
    ∙ and_assoc (is_char c) (in_ranges a c) (not (in_ranges b c)) ∙ sym (without_members a b c))

-- what a set made so has as members, of the characters
pub without_just : (a b s : List Range) → s ≡ without a b → HasJust s (λ c. in_ranges a c && not (in_ranges b c))
without_just a b s q c e = ap (λ l. in_ranges l c) q ∙ without_members a b c
    ∙ ap (λ x. x && (in_ranges a c && not (in_ranges b c))) e

pub both_just : (a b s : List Range) → s ≡ both a b → HasJust s (λ c. in_ranges a c && in_ranges b c)
both_just a b s q c e = ap (λ l. in_ranges l c) q ∙ both_members a b c
    ∙ ap (λ x. x && (in_ranges a c && in_ranges b c)) e

pub others_just : (a s : List Range) → s ≡ others a → HasJust s (λ c. not (in_ranges a c))
others_just a s q c e = ap (λ l. in_ranges l c) q ∙ others_members a c ∙ ap (λ x. x && not (in_ranges a c)) e

pub union_just : (a b s : List Range) → s ≡ norm (a ++ b) → HasJust s (λ c. in_ranges a c || in_ranges b c)
union_just a b s q c e = ap (λ l. in_ranges l c) q ∙ norm_just (a ++ b) c e ∙ in_ranges-append a b c

pub range_just : (low high : ℕ) (s : List Range) → s ≡ norm ((low, high) ∷ [])
    → HasJust s (λ c. nat_le low c && nat_le c high)
range_just low high s q c e = ap (λ l. in_ranges l c) q ∙ norm_just ((low, high) ∷ []) c e
    ∙ in_ranges-cons (low, high) [] c ∙ ap (λ x. in_range (low, high) c || x) (in_ranges-nil c)
    ∙ or-false (in_range (low, high) c) ∙ spelled low high c

-- all characters but those of a set
pub all_without : (a : List Range) → without ((0, 0xd7ff) ∷ (0xe000, 0x10_ffff) ∷ []) a ≡ others a
all_without a = ap (λ l. without l a) (sym norm_whole)
    ∙ same_members-same _ (others a) (without_normal (norm ((0, 0x10_ffff) ∷ [])) a).rises (others_normal a).rises
    (λ c le.
    without_members (norm ((0, 0x10_ffff) ∷ [])) a c
    ∙ ap (λ x. is_char c && (x && not (in_ranges a c))) (norm_members ((0, 0x10_ffff) ∷ []) c ∙ whole c)
    ∙ drop_whole (is_char c) (not (in_ranges a c)) ∙ sym (others_members a c))

-- what holds of a list holds of what was made, where that is the list
pub made_has : {E : Type 0} (P : List Range → Type 0) (r : Result (List Range) E) (l : List Range) → P l
    → IfOk r (λ s. s ≡ l) → IfOk r P
made_has P (Ok s) l h e = subst P (sym e) h
made_has P (Err _) l h e = tt

-- the members of a set that was made, where it was
pub range_made : {E : Type 0} (low high : ℕ) (r : Result (List Range) E) → IfOk r (λ s. s ≡ norm ((low, high) ∷ []))
    → IfOk r (λ s. HasJust s (λ c. nat_le low c && nat_le c high))
range_made low high (Ok s) e = range_just low high s e
range_made low high (Err _) e = tt

pub complement_made : {E : Type 0} (all a : List Range) (r : Result (List Range) E)
    → all ≡ (0, 0xd7ff) ∷ (0xe000, 0x10_ffff) ∷ [] → IfOk r (λ s. s ≡ without all a) → IfOk r (λ s. s ≡ others a)
complement_made all a (Ok s) e q = q ∙ ap (λ l. without l a) e ∙ all_without a
complement_made all a (Err _) e q = tt

pub others_made : {E : Type 0} (a : List Range) (r : Result (List Range) E) → IfOk r (λ s. s ≡ others a)
    → IfOk r (λ s. HasJust s (λ c. not (in_ranges a c)))
others_made a (Ok s) q = others_just a s q
others_made a (Err _) q = tt

-- a class with the members that a normal list and another share
pub both_from_class : (a b u : List Range) → IsNormal a → IsCanonical u
    → HasExactly u (λ c. in_ranges a c && in_ranges b c) → u ≡ both a b
both_from_class a b u n k h = same_members-same u (both a b) k (both_normal a b).rises (λ c le. h c le
    ∙ ap (λ x. x && in_ranges b c) (only_chars a c n) ∙ and_assoc (is_char c) (in_ranges a c) (in_ranges b c)
    ∙ sym (both_members a b c))

one_number : (n c : ℕ) → in_range (n, n) c ≡ nat_eq c n
one_number n c = grind (arith, nat_tests, in_range_tells (n, n) c)

pub push_one : (old new : List Range) (n c : ℕ) (b : Bool) → b ≡ true → new ≡ old ++ (n, n) ∷ []
    → in_ranges new c ≡ (in_ranges old c || (b && nat_eq c n))
push_one old new n c b t e =
    ap (λ l. in_ranges l c) e ∙ in_ranges-push old (n, n) c ∙ ap (λ x. in_ranges old c || x) (one_number n c)
    ∙ ap (λ x. in_ranges old c || (x && nat_eq c n)) (sym t)
