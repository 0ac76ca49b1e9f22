-- The laws of `ci` and `uci`.
use Rattle.std.proofs.Common.{◌≡◌, ◌⊎◌, ℕ, ◌+◌, ◌-◌, List, [], ◌∷◌, inl, inr, refl, sym, ap, ap₂, ◌∙◌, arith}
use Rattle.std.specs.Prelude.{Bool, true, false, ◌||◌, ◌&&◌, nat_le, if◌then◌else◌}
use Rattle.std.proofs.lemmas.Bool.Decides.{nat_tests}
use Rattle.rpl_text.specs.Ascii.{is_upper, is_lower}
use Rattle.regex_class.specs.Ranges.{Range, in_range, in_ranges}
use Rattle.regex_class.proofs.RangesLemmas.{in_range_tells, in_ranges-nil, in_ranges-cons, or-false}
use Rattle.rpl_classes.specs.Algebra.{other_case, widened}
use Rattle.rpl_classes.specs.Norm.{norm}
use Rattle.rpl_classes.specs.Sets.{is_char, IsNormal}
use Rattle.rpl_classes.proofs.Cases.{widened_just, widened_normal}
use Rattle.rpl_classes.proofs.Normal.{norm_members, norm_normal, normal_same}
use Rattle.rpl_syntax.specs.Expression.{Expr, Text, Class, Any, Start, End, Boundary, Name, Cooked, Raw, Choice, Both}
use Rattle.rpl_syntax.specs.Expression.{Prefix, Repeat, Macro, Marked, Note, Exprs, Nil, Cons}
use Rattle.rpl_macro.specs.Casings.{recased, recased_all, either_case, either_cases, every_case, pair_of, single}
use Rattle.rpl_macro.specs.Casings.{has_letter, keeps_text}
use Rattle.rpl_macro.specs.Kinds.{kind_of}
use Rattle.rpl_macro.specs.Laws.{HasNoLetters, each_alone, spelled}
use Rattle.rpl_macro.specs.declared.casing.Casing.TheVariants.{Ascii, Folded}

absorbed : (a b : Bool) → (b ≡ true → a ≡ true) → (a || b) ≡ a
absorbed true b h = refl
absorbed false true h = sym (h refl)
absorbed false false h = refl

some_true : (a b : Bool) → (a || b) ≡ true → (a ≡ true) ⊎ (b ≡ true)
some_true true b e = inl refl
some_true false b e = inr e

first_true : (a b : Bool) → a ≡ true → (a || b) ≡ true
first_true a b e = ap (λ x. x || b) e

second_true : (a b : Bool) → b ≡ true → (a || b) ≡ true
second_true true b e = refl
second_true false b e = e

right_true : (a b : Bool) → (a && b) ≡ true → b ≡ true
right_true true b e = e
right_true false b e = absurd cc

both_true : (a b : Bool) → a ≡ true → b ≡ true → (a && b) ≡ true
both_true a b e f = ap₂ ◌&&◌ e f

-- a set that has the other case of each of its characters is its own widening
closed : (s : List Range) → IsNormal s → ((c : ℕ) → is_char c ≡ true → in_ranges s (other_case c) ≡ true
    → in_ranges s c ≡ true) → widened s ≡ s
closed s n h = normal_same (widened s) s (widened_normal s) n (λ c e. widened_just s (widened s) refl c e
    ∙ absorbed (in_ranges s c) (in_ranges s (other_case c)) (h c e))

other_twice : (c : ℕ) → other_case (other_case c) ≡ c
other_twice c = grind (arith, nat_tests)

-- a set is widened once
pub widened_twice : (s : List Range) → widened (widened s) ≡ widened s
widened_twice s = closed (widened s) (widened_normal s) (λ c e h.
    let d = (widened_normal s).chars (other_case c) h in
    let m = sym (widened_just s (widened s) refl (other_case c) d) ∙ h in
    let back : (in_ranges s c || in_ranges s (other_case c)) ≡ true =
    elim (some_true (in_ranges s (other_case c)) (in_ranges s (other_case (other_case c))) m) [
      | inl i ↦ second_true (in_ranges s c) (in_ranges s (other_case c)) i
      | inr i ↦ first_true (in_ranges s c) (in_ranges s (other_case c)) (ap (in_ranges s) (sym (other_twice c)) ∙ i)
    ] in
    widened_just s (widened s) refl c e ∙ back)

-- two characters as a list of ranges
abbrev two : ℕ → ℕ → List Range
two c d = (c, c) ∷ (d, d) ∷ []

in_two : (c d x : ℕ) → in_ranges (two c d) x ≡ (in_range (c, c) x || in_range (d, d) x)
in_two c d x =
    in_ranges-cons (c, c) ((d, d) ∷ []) x
    ∙ ap (λ b. in_range (c, c) x || b) (in_ranges-cons (d, d) [] x ∙ ap (λ b. in_range (d, d) x || b) (in_ranges-nil x)
    ∙ or-false (in_range (d, d) x))

at_one : (c x : ℕ) → in_range (c, c) x ≡ true → x ≡ c
at_one c x e = grind (arith, in_range_tells (c, c) x)

one_at : (c : ℕ) → in_range (c, c) c ≡ true
one_at c = grind (arith, in_range_tells (c, c) c)

two_members : (c d x : ℕ) → in_ranges (two c d) x ≡ true → (x ≡ c) ⊎ (x ≡ d)
two_members c d x e = elim (some_true (in_range (c, c) x) (in_range (d, d) x) (sym (in_two c d x) ∙ e)) [
  | inl i ↦ inl (at_one c x i)
  | inr i ↦ inr (at_one d x i)
]

has_first : (c d : ℕ) → in_ranges (two c d) c ≡ true
has_first c d = in_two c d c ∙ first_true (in_range (c, c) c) (in_range (d, d) c) (one_at c)

has_second : (c d : ℕ) → in_ranges (two c d) d ≡ true
has_second c d = in_two c d d ∙ second_true (in_range (c, c) d) (in_range (d, d) d) (one_at d)

-- a letter in both cases is widened already
pub pair_widened : (c d : ℕ) → other_case c ≡ d → widened (norm (two c d)) ≡ norm (two c d)
pair_widened c d e = closed (norm (two c d)) (norm_normal (two c d)) (λ x char h.
    let m = right_true (is_char (other_case x)) (in_ranges (two c d) (other_case x))
    (sym (norm_members (two c d) (other_case x)) ∙ h) in
    let here : in_ranges (two c d) x ≡ true = elim (two_members c d (other_case x) m) [
      | inl i ↦ ap (in_ranges (two c d)) (sym (other_twice x) ∙ ap other_case i ∙ e) ∙ has_second c d
      | inr i ↦ ap (in_ranges (two c d)) (sym (other_twice x) ∙ ap other_case (i ∙ sym e) ∙ other_twice c)
          ∙ has_first c d
    ] in
    norm_members (two c d) x ∙ both_true (is_char x) (in_ranges (two c d) x) char here)

upper_other : (c : ℕ) → is_upper c ≡ true → other_case c ≡ c + 32
upper_other c e = ap (λ b. if b then c + 32 else (if nat_le 0x61 c && nat_le c 0x7a then c - 32 else c)) e

lower_other : (c : ℕ) → is_upper c ≡ false → is_lower c ≡ true → other_case c ≡ c - 32
lower_other c e f =
    ap (λ b. if b then c + 32 else (if nat_le 0x61 c && nat_le c 0x7a then c - 32 else c)) e
    ∙ ap (λ b. if b then c - 32 else c) f

-- one character in either case, once more
either_twice_by : (c : ℕ) (u l : Bool) → is_upper c ≡ u → is_lower c ≡ l
    → recased Ascii (if u then pair_of c (c + 32) else (if l then pair_of c (c - 32) else Text (c ∷ [])))
    ≡ (if u then pair_of c (c + 32) else (if l then pair_of c (c - 32) else Text (c ∷ [])))
either_twice_by c true l e f = ap (λ s. Class s false) (pair_widened c (c + 32) (upper_other c e))
either_twice_by c false true e f = ap (λ s. Class s false) (pair_widened c (c - 32) (lower_other c e f))
either_twice_by c false false e f =
    ap (λ b. if b then Raw (either_cases (c ∷ [])) else Text (c ∷ [])) (ap₂ (λ a b. (a || b) || false) e f)

either_twice : (c : ℕ) → recased Ascii (either_case c) ≡ either_case c
either_twice c = either_twice_by c (is_upper c) (is_lower c) refl refl

all_twice : (t : List ℕ) → recased_all Ascii (either_cases t) ≡ either_cases t
all_twice [] = refl
all_twice (c ∷ t) = ap₂ Cons (either_twice c) (all_twice t)

text_twice_by : (t : List ℕ) (b : Bool) → has_letter t ≡ b → recased Ascii (if b then Raw (either_cases t) else Text t)
    ≡ (if b then Raw (either_cases t) else Text t)
text_twice_by t true e = ap Raw (all_twice t)
text_twice_by t false e = ap (λ b. if b then Raw (either_cases t) else Text t) e

kept_twice : (b : Bool) (p q : Expr) → recased Ascii q ≡ q
    → (if b then (if b then p else q) else recased Ascii (if b then p else q)) ≡ (if b then p else q)
kept_twice true p q e = refl
kept_twice false p q e = e

-- an expression is widened once
mutual
  pub twice : (p : Expr) → recased Ascii (recased Ascii p) ≡ recased Ascii p
  twice (Text t) = text_twice_by t (has_letter t) refl
  twice (Class s negated) = ap (λ r. Class r negated) (widened_twice s)
  twice Any = refl
  twice Start = refl
  twice End = refl
  twice Boundary = refl
  twice (Name q) = refl
  twice (Cooked ps) = ap Cooked (twice_all ps)
  twice (Raw ps) = ap Raw (twice_all ps)
  twice (Choice ps) = ap Choice (twice_all ps)
  twice (Both p q) = ap₂ Both (twice p) (twice q)
  twice (Prefix s p) = ap (Prefix s) (twice p)
  twice (Repeat p least most) = ap (λ q. Repeat q least most) (twice p)
  twice (Macro q p) = ap (Macro q) (kept_twice (keeps_text (kind_of q.name)) p (recased Ascii p) (twice p))
  twice (Marked m p) = ap (Marked m) (twice p)
  twice (Note t) = refl

  pub twice_all : (ps : Exprs) → recased_all Ascii (recased_all Ascii ps) ≡ recased_all Ascii ps
  twice_all Nil = refl
  twice_all (Cons p ps) = ap₂ Cons (twice p) (twice_all ps)

every_alone : (t : List ℕ) → HasNoLetters t → every_case t ≡ each_alone t
every_alone [] h = refl
every_alone (c ∷ t) h = ap₂ (λ s ps. Cons (Class s false) ps) h.0 (every_alone t h.1)

-- a text without letters
pub kept_text : (t : List ℕ) → HasNoLetters t → recased Folded (Text t) ≡ spelled t
kept_text [] h = refl
kept_text (c ∷ t) h = ap Raw (every_alone (c ∷ t) h)

-- ---- one character widened

both_ways : (a b : Bool) → (a ≡ true → b ≡ true) → (b ≡ true → a ≡ true) → a ≡ b
both_ways true b f g = sym (f refl)
both_ways false true f g = g refl
both_ways false false f g = refl

in_one : (c x : ℕ) → in_ranges ((c, c) ∷ []) x ≡ in_range (c, c) x
in_one c x = in_ranges-cons (c, c) [] x ∙ ap (λ b. in_range (c, c) x || b) (in_ranges-nil x)
    ∙ or-false (in_range (c, c) x)

of_single : (c x : ℕ) → in_ranges (single c) x ≡ true → x ≡ c
of_single c x e = at_one c x (sym (in_one c x)
    ∙ right_true (is_char x) (in_ranges ((c, c) ∷ []) x) (sym (norm_members ((c, c) ∷ []) x) ∙ e))

in_single : (c x : ℕ) → is_char x ≡ true → x ≡ c → in_ranges (single c) x ≡ true
in_single c x e f = norm_members ((c, c) ∷ []) x ∙ both_true (is_char x) (in_ranges ((c, c) ∷ []) x) e (in_one c x
    ∙ ap (in_range (c, c)) f ∙ one_at c)

-- a character that is no letter stays alone
pub alone_widened : (c : ℕ) → is_upper c ≡ false → is_lower c ≡ false → widened (single c) ≡ single c
alone_widened c u l =
    let own : other_case c ≡ c =
    ap (λ b. if b then c + 32 else (if nat_le 0x61 c && nat_le c 0x7a then c - 32 else c)) u
    ∙ ap (λ b. if b then c - 32 else c) l in
    closed (single c) (norm_normal ((c, c) ∷ [])) (λ x char h.
    in_single c x char (sym (other_twice x) ∙ ap other_case (of_single c (other_case x) h) ∙ own))

-- a letter is widened to both cases
pub letter_two : (c d : ℕ) → is_char c ≡ true → other_case c ≡ d → widened (single c) ≡ norm (two c d)
letter_two c d char e =
    normal_same (widened (single c)) (norm (two c d)) (widened_normal (single c)) (norm_normal (two c d)) (λ x h.
    let to : (in_ranges (single c) x || in_ranges (single c) (other_case x)) ≡ true → in_ranges (two c d) x ≡ true =
    λ g.
    elim (some_true (in_ranges (single c) x) (in_ranges (single c) (other_case x)) g) [
      | inl i ↦ ap (in_ranges (two c d)) (of_single c x i) ∙ has_first c d
      | inr i ↦ ap (in_ranges (two c d)) (sym (other_twice x) ∙ ap other_case (of_single c (other_case x) i) ∙ e)
          ∙ has_second c d
    ] in
    let from : in_ranges (two c d) x ≡ true → (in_ranges (single c) x || in_ranges (single c) (other_case x)) ≡ true =
    λ g.
    elim (two_members c d x g) [
      | inl i ↦ first_true (in_ranges (single c) x) (in_ranges (single c) (other_case x)) (in_single c x h i)
      | inr i ↦
          let back : other_case x ≡ c = ap other_case (i ∙ sym e) ∙ other_twice c in
          second_true (in_ranges (single c) x) (in_ranges (single c) (other_case x))
          (in_single c (other_case x) (ap is_char back ∙ char) back)
    ] in
    widened_just (single c) (widened (single c)) refl x h
    ∙ both_ways (in_ranges (single c) x || in_ranges (single c) (other_case x)) (in_ranges (two c d) x) to from
    ∙ sym (norm_members (two c d) x ∙ ap (λ b. b && in_ranges (two c d) x) h))

upper_char : (c : ℕ) → is_upper c ≡ true → is_char c ≡ true
upper_char c e = grind (arith, nat_tests)

lower_char : (c : ℕ) → is_lower c ≡ true → is_char c ≡ true
lower_char c e = grind (arith, nat_tests)

-- what an ASCII letter is widened to
pub upper_widened : (c : ℕ) → is_upper c ≡ true → widened (single c) ≡ norm ((c, c) ∷ (c + 32, c + 32) ∷ [])
upper_widened c e = letter_two c (c + 32) (upper_char c e) (upper_other c e)

-- a small ASCII letter is widened to itself and its capital letter
pub lower_widened : (c : ℕ) → is_upper c ≡ false → is_lower c ≡ true
    → widened (single c) ≡ norm ((c, c) ∷ (c - 32, c - 32) ∷ [])
lower_widened c e f = letter_two c (c - 32) (lower_char c f) (lower_other c e f)
