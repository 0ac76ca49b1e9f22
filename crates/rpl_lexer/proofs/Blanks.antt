-- Bounds with blanks around their parts, of which some may have no number, stand and are read as they are written.
use Rattle.std.proofs.Common.{◌≡◌, ℕ, suc, ◌+◌, ◌-◌, ◌<◌, List, [], ◌∷◌, ◌++◌, Option, Some, None, length}
use Rattle.std.proofs.Common.{take, drop, refl, sym, ap, subst, ◌∙◌, arith, append_assoc, length-append}
use Rattle.std.specs.Prelude.{Bool, true, false, not, ◌||◌, is_some, nat_eq, nat_lt, if◌then◌else◌}
use Rattle.std.proofs.lemmas.List.{append-nil, take_at, drop_at}
use Rattle.std.proofs.lemmas.Bool.{lt-ltb}
use Rattle.std.proofs.lemmas.Bool.Decides.{nat_tests}
use Rattle.std.specs.List.{list_all}
use Rattle.rpl_text.specs.Ascii.{is_digit}
use Rattle.rpl_lexer.specs.declared.bounds.Span.{Span}
use Rattle.rpl_lexer.specs.declared.bounds.Parts.{Parts}
use Rattle.rpl_lexer.specs.declared.bounds.Bounds.{Bounds}
use Rattle.rpl_lexer.specs.declared.token.TokenKind.TheVariants as K
use Rattle.rpl_lexer.specs.declared.fault.LexKind.TheVariants.{NumberTooWide}
use Rattle.rpl_lexer.specs.declared.front.Stand.TheVariants.{Found, Fault}
use Rattle.rpl_lexer.specs.Bytes.{is_space, run, past, begins, has}
use Rattle.rpl_text.specs.Numbers.{value, narrow}
use Rattle.rpl_lexer.specs.Braces.{digits_from, parts, part, is_wide, number_in, bounds_in, begins_bounds}
use Rattle.rpl_lexer.specs.Fronts.{stands}
use Rattle.rpl_lexer.specs.Forms.{AreBounds}
use Rattle.rpl_lexer.specs.Written.{Spells, SpellsPart, SaysBounds, says_number, says_comma, IsWide, WideBounds}
use Rattle.rpl_lexer.specs.Written.{wide_number, wide_first, wide_second, BoundsBack, InBounds, one_number, with_comma}
use Rattle.rpl_lexer.specs.Written.{IsBounds}
use Rattle.rpl_lexer.proofs.Spans.{left, right}
use Rattle.rpl_lexer.proofs.Places.{parts_comma, parts_plain}
use Rattle.rpl_lexer.proofs.Stood.{bounds_stand, wide_least_stands, wide_most_stands}

-- ---- runs

run_none : (p : ℕ → Bool) (x : List ℕ) → begins p x ≡ false → run p x ≡ 0
run_none p [] h = refl
run_none p (b ∷ bs) h = rw h refl

run_all : (p : ℕ → Bool) (a z : List ℕ) → list_all p a ≡ true → begins p z ≡ false → run p (a ++ z) ≡ length a
run_all p [] z h f = run_none p z f
run_all p (c ∷ cs) z h f = let l = left (p c) (list_all p cs) h in
    rw l (ap suc (run_all p cs z (right (p c) (list_all p cs) h) f))

past_all : (p : ℕ → Bool) (u a z : List ℕ) (i : ℕ) → length u ≡ i → list_all p a ≡ true → begins p z ≡ false
    → past p (u ++ (a ++ z)) i ≡ i + length a
past_all p u a z i e h f = ap (λ y. i + run p y) (drop_at u (a ++ z) i e) ∙ ap (λ y. i + y) (run_all p a z h f)

digit_no_space : (b : ℕ) → is_digit b ≡ true → is_space b ≡ false
digit_no_space b h = grind (arith, nat_tests)

space_no_digit : (b : ℕ) → is_space b ≡ true → is_digit b ≡ false
space_no_digit b h = grind (arith, nat_tests)

spaces_then : (b z : List ℕ) → list_all is_space b ≡ true → begins is_digit z ≡ false → begins is_digit (b ++ z) ≡ false
spaces_then [] z h f = f
spaces_then (c ∷ cs) z h f = space_no_digit c (left (is_space c) (list_all is_space cs) h)

-- ---- one part: where it begins, ends, and where what is after its blanks stands

-- no blanks stand after a number that is missing
data Sharp : (ds b : List ℕ) → Type 0 where
  some : (ds b : List ℕ) → 0 < length ds → Sharp ds b
  bare : Sharp [] []

sharp_then : (ds b z : List ℕ) → Sharp ds b → list_all is_digit ds ≡ true → begins is_space z ≡ false
    → begins is_space (ds ++ (b ++ z)) ≡ false
sharp_then [] b z (some x y lt) d f = absurd (omega (arith, lt))
sharp_then (c ∷ cs) b z (some x y lt) d f = digit_no_space c (left (is_digit c) (list_all is_digit cs) d)
sharp_then x y z bare d f = f

record Placed (bs : List ℕ) (i : ℕ) (a ds b : List ℕ) : Type 0 where
  digits : ◌≡◌ {A = Span} (digits_from bs i) (record { start = i + length a; end = i + length a + length ds })
  behind : past is_space bs (i + length a + length ds) ≡ i + length a + length ds + length b
  inside : part bs (record { start = i + length a; end = i + length a + length ds }) ≡ ds

-- the bytes u, and then a part before z
record IsPart (a ds b : List ℕ) : Type 0 where
  pub before : list_all is_space a ≡ true
  pub digits : list_all is_digit ds ≡ true
  pub behind : list_all is_space b ≡ true
  pub sharp : Sharp ds b

placed : (u a ds b z : List ℕ) (i : ℕ) → length u ≡ i → IsPart a ds b → begins is_digit z ≡ false
    → begins is_space z ≡ false → Placed (u ++ (a ++ (ds ++ (b ++ z)))) i a ds b
placed u a ds b z i e h f g =
    let bs = u ++ (a ++ (ds ++ (b ++ z))) in
    let e1 : (u ++ a) ++ (ds ++ (b ++ z)) ≡ bs = append_assoc u a (ds ++ (b ++ z)) in
    let l1 : length (u ++ a) ≡ i + length a = length-append u a ∙ ap (λ x. x + length a) e in
    let e2 : ((u ++ a) ++ ds) ++ (b ++ z) ≡ bs = append_assoc (u ++ a) ds (b ++ z) ∙ e1 in
    let l2 : length ((u ++ a) ++ ds) ≡ i + length a + length ds = length-append (u ++ a) ds
    ∙ ap (λ x. x + length ds) l1 in
    let s : past is_space bs i ≡ i + length a =
    past_all is_space u a (ds ++ (b ++ z)) i e h.before (sharp_then ds b z h.sharp h.digits g) in
    let t : past is_digit bs (i + length a) ≡ i + length a + length ds =
    subst (λ x. past is_digit x (i + length a) ≡ i + length a + length ds) e1
    (past_all is_digit (u ++ a) ds (b ++ z) (i + length a) l1 h.digits (spaces_then b z h.behind f)) in
    let n : i + length a + length ds - (i + length a) ≡ length ds = omega arith in
    record {
      digits = ap (λ (x : ℕ). record { start = x; end = past is_digit bs x }) s
          ∙ ap (λ (x : ℕ). record { start = i + length a; end = x }) t;
      behind = subst (λ x. past is_space x (i + length a + length ds) ≡ i + length a + length ds + length b) e2
          (past_all is_space ((u ++ a) ++ ds) b z (i + length a + length ds) l2 h.behind g);
      inside =
          ap (λ k. take k (drop (i + length a) bs)) n ∙ ap (λ x. take (length ds) (drop (i + length a) x)) (sym e1)
          ∙ ap (take (length ds)) (drop_at (u ++ a) (ds ++ (b ++ z)) (i + length a) l1)
          ∙ take_at ds (b ++ z) (length ds) refl;
    }

has_at : (u : List ℕ) (c : ℕ) (r : List ℕ) (b i : ℕ) → length u ≡ i → has (u ++ c ∷ r) i b ≡ nat_eq c b
has_at u c r b i e = subst (λ k. has (u ++ c ∷ r) k b ≡ nat_eq c b) e (by u)
  where
    by : (v : List ℕ) → has (v ++ c ∷ r) (length v) b ≡ nat_eq c b
    by [] = refl
    by (d ∷ v) = by v

not_wide : (bs : List ℕ) (p : Span) (ds : List ℕ) (w : Bool) → part bs p ≡ ds → is_some (narrow (value 0 ds)) ≡ w
    → is_wide bs p ≡ not w
not_wide bs p ds w e h = ap (λ x. not (is_some (narrow (value 0 x)))) e ∙ ap not h

nothing_part : (bs : List ℕ) (i : ℕ) → part bs (record { start = i; end = i }) ≡ []
nothing_part bs i = let z : i - i ≡ 0 = omega arith in ap (λ k. take k (drop i bs)) z

-- the number of a part
number_is : (bs : List ℕ) (i : ℕ) (ds : List ℕ) (o : Option ℕ) → part bs (record { start = i; end = i + length ds })
    ≡ ds → SpellsPart ds o → number_in bs (record { start = i; end = i + length ds }) ≡ o
number_is bs i ds None e h =
    let f : nat_lt i (i + length ds) ≡ false = let z = ap length h in grind (arith, nat_tests) in
    ap (λ b. if not b then None else narrow (value 0 (part bs (record { start = i; end = i + length ds })))) f
number_is bs i ds (Some n) e h =
    let some = h.some in
    let lt : i < i + length ds = omega arith in
    ap (λ b. if not b then None else narrow (value 0 (part bs (record { start = i; end = i + length ds }))))
    (lt-ltb i (i + length ds) lt)
    ∙ ap (λ x. narrow (value 0 x)) e ∙ h.number

-- a digit or a comma is first after the blanks
begun_by : (bs a z : List ℕ) → bs ≡ a ++ z → list_all is_space a ≡ true → begins is_space z ≡ false
    → begins (λ b. is_digit b || nat_eq b 44) z ≡ true → begins_bounds bs ≡ true
begun_by bs a z e h f g =
    let n : past is_space bs 0 ≡ length a = ap (λ x. past is_space x 0) e ∙ past_all is_space [] a z 0 refl h f
    ∙ (let k : 0 + length a ≡ length a = omega arith in k) in
    ap (λ k. begins (λ b. is_digit b || nat_eq b 44) (drop k bs)) n
    ∙ ap (λ x. begins (λ b. is_digit b || nat_eq b 44) (drop (length a) x)) e
    ∙ ap (begins (λ b. is_digit b || nat_eq b 44)) (drop_at a z (length a) refl) ∙ g

digit_first : (ds z : List ℕ) → list_all is_digit ds ≡ true → 0 < length ds
    → begins (λ b. is_digit b || nat_eq b 44) (ds ++ z) ≡ true
digit_first [] z h lt = absurd (omega arith)
digit_first (c ∷ cs) z h lt = let l = left (is_digit c) (list_all is_digit cs) h in rw l refl

comma_first : (ds b z : List ℕ) → Sharp ds b → list_all is_digit ds ≡ true
    → begins (λ c. is_digit c || nat_eq c 44) (ds ++ (b ++ 44 ∷ z)) ≡ true
comma_first ds b z (some x y lt) d = digit_first ds (b ++ 44 ∷ z) d lt
comma_first x y z bare d = refl

-- ---- a part whose number may be missing: its blanks are then all before it

record Sharpened (a ds b : List ℕ) : Type 0 where
  front : List ℕ
  back : List ℕ
  same : a ++ ds ++ b ≡ front ++ ds ++ back
  part : IsPart front ds back
  kept : 0 < length ds → front ≡ a

each_both : (p : ℕ → Bool) (a b : List ℕ) → list_all p a ≡ true → list_all p b ≡ true → list_all p (a ++ b) ≡ true
each_both p [] b h k = k
each_both p (c ∷ cs) b h k = let l = left (p c) (list_all p cs) h in
    rw l (each_both p cs b (right (p c) (list_all p cs) h) k)

sharpened : (a ds b : List ℕ) → list_all is_space a ≡ true → list_all is_digit ds ≡ true → list_all is_space b ≡ true
    → Sharpened a ds b
sharpened a [] b h d k = record {
  front = a ++ b;
  back = [];
  same = ap (λ x. x ++ b) (append-nil a) ∙ sym (append-nil (a ++ b ++ []) ∙ append-nil (a ++ b));
  part = record { before = each_both is_space a b h k; digits = refl; behind = refl; sharp = bare };
  kept = λ lt. absurd (omega (arith, lt));
}
sharpened a (c ∷ cs) b h d k = record {
  front = a;
  back = b;
  same = refl;
  part = record { before = h; digits = d; behind = k; sharp = some (c ∷ cs) b (omega arith) };
  kept = λ lt. refl;
}

part_digits : (ds : List ℕ) (o : Option ℕ) → SpellsPart ds o → list_all is_digit ds ≡ true
part_digits ds None h = ap (list_all is_digit) h
part_digits ds (Some n) h = h.digits

-- a number that is spelled, or missing, isn't wide
part_narrow : (ds : List ℕ) (o : Option ℕ) → SpellsPart ds o → is_some (narrow (value 0 ds)) ≡ true
part_narrow ds None h = ap (λ x. is_some (narrow (value 0 x))) h
part_narrow ds (Some n) h = ap is_some h.number

-- ---- one number

joined : (a ds b z : List ℕ) → (a ++ ds ++ b) ++ z ≡ a ++ (ds ++ (b ++ z))
joined a ds b z = append_assoc (a ++ ds) b z ∙ append_assoc a ds (b ++ z)

three_len : (a ds b : List ℕ) → length (a ++ ds ++ b) ≡ 0 + length a + length ds + length b
three_len a ds b = omega (arith, length-append (a ++ ds) b, length-append a ds)

abbrev one_parts : (n m k : ℕ) → Parts
one_parts n m k = record {
  least = record { start = 0 + n; end = 0 + n + m };
  comma = false;
  most = record { start = 0 + n + m + k; end = 0 + n + m + k };
  close = 0 + n + m + k;
}

abbrev one_bytes : (a ds b r : List ℕ) → List ℕ
one_bytes a ds b r = a ++ (ds ++ (b ++ 125 ∷ r))

one_byte : (a ds b r : List ℕ) (c : ℕ) → has (one_bytes a ds b r) (0 + length a + length ds + length b) c ≡ nat_eq 125 c
one_byte a ds b r c =
    subst (λ x. has x (0 + length a + length ds + length b) c ≡ nat_eq 125 c) (joined a ds b (125 ∷ r))
    (has_at (a ++ ds ++ b) 125 r c (0 + length a + length ds + length b) (three_len a ds b))

one_is : (a ds b r : List ℕ) → IsPart a ds b → parts (one_bytes a ds b r) ≡ one_parts (length a) (length ds) (length b)
one_is a ds b r h =
    let p = placed [] a ds b (125 ∷ r) 0 refl h refl refl in
    let c = 0 + length a + length ds + length b in
    sym (parts_plain (one_bytes a ds b r) (record { start = 0 + length a; end = 0 + length a + length ds }) c
    (sym p.digits) (sym p.behind) (one_byte a ds b r 44))

-- ---- a comma

abbrev two_parts : (n m k i j l : ℕ) → Parts
two_parts n m k i j l = record {
  least = record { start = 0 + n; end = 0 + n + m };
  comma = true;
  most = record { start = 0 + n + m + k + 1 + i; end = 0 + n + m + k + 1 + i + j };
  close = 0 + n + m + k + 1 + i + j + l;
}

module _ (a ds b c es d r : List ℕ) where
  abbrev tail : List ℕ
  tail = c ++ (es ++ (d ++ 125 ∷ r))

  abbrev two_bytes : List ℕ
  two_bytes = a ++ (ds ++ (b ++ 44 ∷ tail))

  abbrev before_comma : ℕ
  before_comma = 0 + length a + length ds + length b

  abbrev up_to_comma : List ℕ
  up_to_comma = (a ++ ds ++ b) ++ 44 ∷ []

  comma_len : length up_to_comma ≡ before_comma + 1
  comma_len = length-append (a ++ ds ++ b) (44 ∷ []) ∙ ap (λ x. x + 1) (three_len a ds b)

  comma_split : up_to_comma ++ tail ≡ two_bytes
  comma_split = append_assoc (a ++ ds ++ b) (44 ∷ []) tail ∙ joined a ds b (44 ∷ tail)

  second_placed : IsPart c es d → Placed two_bytes (before_comma + 1) c es d
  second_placed k = subst (λ x. Placed x (before_comma + 1) c es d) comma_split
      (placed up_to_comma c es d (125 ∷ r) (before_comma + 1) comma_len k refl refl)

  comma_there : has two_bytes before_comma 44 ≡ true
  comma_there = subst (λ x. has x before_comma 44 ≡ true) (joined a ds b (44 ∷ tail))
      (has_at (a ++ ds ++ b) 44 tail 44 before_comma (three_len a ds b))

  whole_len : length (up_to_comma ++ (c ++ es ++ d)) ≡ before_comma + 1 + length c + length es + length d
  whole_len = omega (arith, length-append up_to_comma (c ++ es ++ d), comma_len, three_len c es d)

  brace_there : has two_bytes (before_comma + 1 + length c + length es + length d) 125 ≡ true
  brace_there =
      let e : (up_to_comma ++ (c ++ es ++ d)) ++ 125 ∷ r ≡ two_bytes = append_assoc up_to_comma (c ++ es ++ d) (125 ∷ r)
      ∙ ap (λ x. up_to_comma ++ x) (joined c es d (125 ∷ r)) ∙ comma_split in
      subst (λ x. has x (before_comma + 1 + length c + length es + length d) 125 ≡ true) e
      (has_at (up_to_comma ++ (c ++ es ++ d)) 125 r 125 (before_comma + 1 + length c + length es + length d) whole_len)

  two_is : IsPart a ds b → IsPart c es d
      → parts two_bytes ≡ two_parts (length a) (length ds) (length b) (length c) (length es) (length d)
  two_is h k =
      let p = placed [] a ds b (44 ∷ tail) 0 refl h refl refl in
      let q = second_placed k in
      sym (parts_comma two_bytes (record { start = 0 + length a; end = 0 + length a + length ds })
      (record { start = before_comma + 1 + length c; end = before_comma + 1 + length c + length es }) before_comma
      (before_comma + 1 + length c + length es + length d) (sym p.digits) (sym p.behind) comma_there (sym q.digits)
      (sym q.behind))

-- ---- what stands, and what is read

module _ (bs : List ℕ) (p : Parts) (e : parts bs ≡ p) where
  found_by : begins_bounds bs ≡ true → has bs p.close 125 ≡ true → is_wide bs p.least ≡ false
      → is_wide bs p.most ≡ false
      → stands (123 ∷ bs) ≡ Found K.Bounds (p.close + 2)
  found_by b c l m =
      bounds_stand bs b (ap (λ (x : Parts). has bs x.close 125) e ∙ c) (ap (λ (x : Parts). is_wide bs x.least) e ∙ l)
      (ap (λ (x : Parts). is_wide bs x.most) e ∙ m) ∙ ap (λ (x : Parts). Found K.Bounds (x.close + 2)) e

  least_by : begins_bounds bs ≡ true → has bs p.close 125 ≡ true → is_wide bs p.least ≡ true
      → stands (123 ∷ bs) ≡ Fault NumberTooWide (1 + p.least.start)
  least_by b c l =
      wide_least_stands bs b (ap (λ (x : Parts). has bs x.close 125) e ∙ c) (ap (λ (x : Parts). is_wide bs x.least) e
      ∙ l)
      ∙ ap (λ (x : Parts). Fault NumberTooWide (1 + x.least.start)) e

  most_by : begins_bounds bs ≡ true → has bs p.close 125 ≡ true → is_wide bs p.least ≡ false → is_wide bs p.most ≡ true
      → stands (123 ∷ bs) ≡ Fault NumberTooWide (1 + p.most.start)
  most_by b c l m =
      wide_most_stands bs b (ap (λ (x : Parts). has bs x.close 125) e ∙ c) (ap (λ (x : Parts). is_wide bs x.least) e
      ∙ l)
      (ap (λ (x : Parts). is_wide bs x.most) e ∙ m) ∙ ap (λ (x : Parts). Fault NumberTooWide (1 + x.most.start)) e

  read_by : (least most : Option ℕ) (comma : Bool) → number_in bs p.least ≡ least → p.comma ≡ comma
      → number_in bs p.most ≡ most
      → ◌≡◌ {A = Bounds} (bounds_in bs) (record { least = least; comma = comma; most = most })
  read_by least most comma l k m =
      ap (λ (x : Parts). record { least = number_in bs x.least; comma = x.comma; most = number_in bs x.most }) e
      ∙ ap (λ (o : Option ℕ). record { least = o; comma = p.comma; most = number_in bs p.most }) l
      ∙ ap (λ (o : Bool). record { least = least; comma = o; most = number_in bs p.most }) k
      ∙ ap (λ (o : Option ℕ). record { least = least; comma = comma; most = o }) m

-- ---- the law, for parts without blanks after a missing number

module _ (a ds b r : List ℕ) (h : IsPart a ds b) (lt : 0 < length ds) where
  abbrev one : List ℕ
  one = one_bytes a ds b r

  one_begun : begins_bounds one ≡ true
  one_begun = begun_by one a (ds ++ (b ++ 125 ∷ r)) refl h.before (sharp_then ds b (125 ∷ r) h.sharp h.digits refl)
      (digit_first ds (b ++ 125 ∷ r) h.digits lt)

  one_inside : part one (record { start = 0 + length a; end = 0 + length a + length ds }) ≡ ds
  one_inside = (placed [] a ds b (125 ∷ r) 0 refl h refl refl).inside

  one_most : is_wide one (record {
    start = 0 + length a + length ds + length b;
    end = 0 + length a + length ds + length b;
  }) ≡ false
  one_most = not_wide one (one_parts (length a) (length ds) (length b)).most [] true
      (nothing_part one (0 + length a + length ds + length b)) refl

  one_stands : is_some (narrow (value 0 ds)) ≡ true
      → stands (123 ∷ one) ≡ Found K.Bounds (0 + length a + length ds + length b + 2)
  one_stands n =
      found_by one (one_parts (length a) (length ds) (length b)) (one_is a ds b r h) one_begun (one_byte a ds b r 125)
      (not_wide one (one_parts (length a) (length ds) (length b)).least ds true one_inside n) one_most

  one_fails : is_some (narrow (value 0 ds)) ≡ false → stands (123 ∷ one) ≡ Fault NumberTooWide (1 + (0 + length a))
  one_fails n =
      least_by one (one_parts (length a) (length ds) (length b)) (one_is a ds b r h) one_begun (one_byte a ds b r 125)
      (not_wide one (one_parts (length a) (length ds) (length b)).least ds false one_inside n)

  one_read : (n : ℕ) → Spells n ds → ◌≡◌ {A = Bounds} (bounds_in one) (record {
    least = Some n;
    comma = false;
    most = None;
  })
  one_read n s =
      let k = 0 + length a + length ds + length b in
      let f : nat_lt k k ≡ false = grind (arith, nat_tests) in
      read_by one (one_parts (length a) (length ds) (length b)) (one_is a ds b r h) (Some n) None false
      (number_is one (0 + length a) ds (Some n) one_inside s) refl
      (ap (λ b. if not b then None else narrow (value 0 (part one (record { start = k; end = k })))) f)

module _ (a ds b c es d r : List ℕ) (h : IsPart a ds b) (k : IsPart c es d) where
  abbrev two : List ℕ
  two = two_bytes a ds b c es d r

  abbrev ps : Parts
  ps = two_parts (length a) (length ds) (length b) (length c) (length es) (length d)

  two_begun : begins_bounds two ≡ true
  two_begun =
      let z = tail a ds b c es d r in
      begun_by two a (ds ++ (b ++ 44 ∷ z)) refl h.before (sharp_then ds b (44 ∷ z) h.sharp h.digits refl)
      (comma_first ds b z h.sharp h.digits)

  first_inside : part two ps.least ≡ ds
  first_inside = (placed [] a ds b (44 ∷ tail a ds b c es d r) 0 refl h refl refl).inside

  second_inside : part two ps.most ≡ es
  second_inside = (second_placed a ds b c es d r k).inside

  two_stands : is_some (narrow (value 0 ds)) ≡ true → is_some (narrow (value 0 es)) ≡ true
      → stands (123 ∷ two) ≡ Found K.Bounds (ps.close + 2)
  two_stands n m =
      found_by two ps (two_is a ds b c es d r h k) two_begun (brace_there a ds b c es d r)
      (not_wide two ps.least ds true first_inside n) (not_wide two ps.most es true second_inside m)

  first_fails : is_some (narrow (value 0 ds)) ≡ false → stands (123 ∷ two) ≡ Fault NumberTooWide (1 + (0 + length a))
  first_fails n = least_by two ps (two_is a ds b c es d r h k) two_begun (brace_there a ds b c es d r)
      (not_wide two ps.least ds false first_inside n)

  second_fails : is_some (narrow (value 0 ds)) ≡ true → is_some (narrow (value 0 es)) ≡ false
      → stands (123 ∷ two) ≡ Fault NumberTooWide (1 + ps.most.start)
  second_fails n m =
      most_by two ps (two_is a ds b c es d r h k) two_begun (brace_there a ds b c es d r)
      (not_wide two ps.least ds true first_inside n) (not_wide two ps.most es false second_inside m)

  two_read : (o q : Option ℕ) → SpellsPart ds o → SpellsPart es q
      → ◌≡◌ {A = Bounds} (bounds_in two) (record { least = o; comma = true; most = q })
  two_read o q s t =
      read_by two ps (two_is a ds b c es d r h k) o q true (number_is two (0 + length a) ds o first_inside s) refl
      (number_is two (before_comma a ds b c es d r + 1 + length c) es q second_inside t)

-- ---- all ways to write bounds

split : (a ds b c es d : List ℕ) → a ++ ds ++ b ++ 44 ∷ c ++ es ++ d ≡ (a ++ ds ++ b) ++ 44 ∷ (c ++ es ++ d)
split a ds b c es d =
    let x = a ++ ds ++ b in
    append_assoc (x ++ 44 ∷ c) es d ∙ append_assoc x (44 ∷ c) (es ++ d)
    ∙ ap (λ y. x ++ 44 ∷ y) (sym (append_assoc c es d))

record One (w r : List ℕ) (a ds b : List ℕ) : Type 0 where
  bytes : w ++ 125 ∷ r ≡ one_bytes a ds b r
  long : length w ≡ 0 + length a + length ds + length b

one_flat : (a ds b r : List ℕ) (s : Sharpened a ds b) → One (a ++ ds ++ b) r s.front ds s.back
one_flat a ds b r s = record {
  bytes = ap (λ x. x ++ 125 ∷ r) s.same ∙ joined s.front ds s.back (125 ∷ r);
  long = ap length s.same ∙ three_len s.front ds s.back;
}

record Two (w r : List ℕ) (a ds b c es d : List ℕ) : Type 0 where
  bytes : w ++ 125 ∷ r ≡ two_bytes a ds b c es d r
  long : length w ≡ 0 + length a + length ds + length b + 1 + length c + length es + length d

two_flat : (a ds b c es d r : List ℕ) (s : Sharpened a ds b) (t : Sharpened c es d)
    → Two (a ++ ds ++ b ++ 44 ∷ c ++ es ++ d) r s.front ds s.back t.front es t.back
two_flat a ds b c es d r s t =
    let x = s.front ++ ds ++ s.back in
    let y = t.front ++ es ++ t.back in
    let cut : a ++ ds ++ b ++ 44 ∷ c ++ es ++ d ≡ x ++ 44 ∷ y = split a ds b c es d
    ∙ ap (λ z. z ++ 44 ∷ (c ++ es ++ d)) s.same ∙ ap (λ z. x ++ 44 ∷ z) t.same in
    record {
      bytes =
          ap (λ z. z ++ 125 ∷ r) cut ∙ append_assoc x (44 ∷ y) (125 ∷ r)
          ∙ joined s.front ds s.back (44 ∷ (y ++ 125 ∷ r))
          ∙ ap (λ z. s.front ++ (ds ++ (s.back ++ 44 ∷ z))) (joined t.front es t.back (125 ∷ r));
      long = ap length cut
          ∙ omega (arith, length-append x (44 ∷ y), three_len s.front ds s.back, three_len t.front es t.back);
    }

pub bounds_said : (w r : List ℕ) (b : Bounds) → SaysBounds w b → BoundsBack w b r
bounds_said w r q (says_number a ds b n h s k) =
    let p = sharpened a ds b h s.digits k in
    let f = one_flat a ds b r p in
    record {
      token = ap (λ x. stands (123 ∷ x)) f.bytes ∙ one_stands p.front ds p.back r p.part s.some (ap is_some s.number)
          ∙ ap (λ x. Found K.Bounds (x + 2)) (sym f.long);
      numbers = ap bounds_in f.bytes ∙ one_read p.front ds p.back r p.part s.some n s;
    }
bounds_said w r q (says_comma a ds b c es d least most h s k i t j) =
    let p = sharpened a ds b h (part_digits ds least s) k in
    let o = sharpened c es d i (part_digits es most t) j in
    let f = two_flat a ds b c es d r p o in
    record {
      token =
          ap (λ x. stands (123 ∷ x)) f.bytes
          ∙ two_stands p.front ds p.back o.front es o.back r p.part o.part (part_narrow ds least s)
          (part_narrow es most t)
          ∙ ap (λ x. Found K.Bounds (x + 2)) (sym f.long);
      numbers = ap bounds_in f.bytes ∙ two_read p.front ds p.back o.front es o.back r p.part o.part least most s t;
    }

wide_some : (ds : List ℕ) → IsWide ds → 0 < length ds
wide_some [] h = let e = h.number in absurd (cc)
wide_some (c ∷ cs) h = omega arith

pub bounds_wide : (w r : List ℕ) (at : ℕ) → WideBounds w at → stands (123 ∷ w ++ 125 ∷ r) ≡ Fault NumberTooWide (1 + at)
bounds_wide w r at (wide_number a ds b h s k) =
    let p = sharpened a ds b h s.digits k in
    let f = one_flat a ds b r p in
    let lt = wide_some ds s in
    let n : 0 + length p.front ≡ length a = omega (arith, ap length (p.kept lt)) in
    ap (λ x. stands (123 ∷ x)) f.bytes ∙ one_fails p.front ds p.back r p.part lt (ap is_some s.number)
    ∙ ap (λ x. Fault NumberTooWide (1 + x)) n
bounds_wide w r at (wide_first a ds b c es d h s k i t j) =
    let p = sharpened a ds b h s.digits k in
    let o = sharpened c es d i t j in
    let f = two_flat a ds b c es d r p o in
    let n : 0 + length p.front ≡ length a = omega (arith, ap length (p.kept (wide_some ds s))) in
    ap (λ x. stands (123 ∷ x)) f.bytes
    ∙ first_fails p.front ds p.back o.front es o.back r p.part o.part (ap is_some s.number)
    ∙ ap (λ x. Fault NumberTooWide (1 + x)) n
bounds_wide w r at (wide_second a ds b c es d least h s k i t j) =
    let p = sharpened a ds b h (part_digits ds least s) k in
    let o = sharpened c es d i t.digits j in
    let f = two_flat a ds b c es d r p o in
    let n : 0 + length p.front + length ds + length p.back + 1 + length o.front ≡ length (a ++ ds ++ b ++ 44 ∷ c) =
    omega (
      arith,
      ap length p.same,
      three_len a ds b,
      three_len p.front ds p.back,
      length-append (a ++ ds ++ b) (44 ∷ c),
      ap length (o.kept (wide_some es t)),
    ) in
    ap (λ x. stands (123 ∷ x)) f.bytes
    ∙ second_fails p.front ds p.back o.front es o.back r p.part o.part (part_narrow ds least s) (ap is_some t.number)
    ∙ ap (λ x. Fault NumberTooWide (1 + x)) n

-- ---- what may stand in bounds says some, or has a number that is too wide

data PartIs (ds : List ℕ) : Type 0 where
  spelled : (o : Option ℕ) → SpellsPart ds o → PartIs ds
  wide : IsWide ds → PartIs ds

number_cases : (ds : List ℕ) → list_all is_digit ds ≡ true → 0 < length ds → (o : Option ℕ) → narrow (value 0 ds) ≡ o
    → PartIs ds
number_cases ds d lt (Some n) e = spelled (Some n) (record { digits = d; some = lt; number = e })
number_cases ds d lt None e = wide (record { digits = d; number = e })

part_cases : (ds : List ℕ) → list_all is_digit ds ≡ true → PartIs ds
part_cases [] d = spelled None refl
part_cases (c ∷ cs) d = number_cases (c ∷ cs) d (omega arith) (narrow (value 0 (c ∷ cs))) refl

pub data SaysOrWide (w : List ℕ) : Type 0 where
  says : (b : Bounds) → SaysBounds w b → SaysOrWide w
  fails : (at : ℕ) → WideBounds w at → SaysOrWide w

one_cases : (a ds b : List ℕ) → list_all is_space a ≡ true → 0 < length ds → list_all is_space b ≡ true → PartIs ds
    → SaysOrWide (a ++ ds ++ b)
one_cases a ds b h lt k (spelled None s) = absurd (omega (arith, ap length s, lt))
one_cases a ds b h lt k (spelled (Some n) s) = says _ (says_number a ds b n h s k)
one_cases a ds b h lt k (wide s) = fails _ (wide_number a ds b h s k)

two_cases : (a ds b c es d : List ℕ) → list_all is_space a ≡ true → list_all is_space b ≡ true
    → list_all is_space c ≡ true
    → list_all is_digit es ≡ true → list_all is_space d ≡ true → PartIs ds → PartIs es
    → SaysOrWide (a ++ ds ++ b ++ 44 ∷ c ++ es ++ d)
two_cases a ds b c es d h k i t j (spelled o s) (spelled q u) = says _ (says_comma a ds b c es d o q h s k i u j)
two_cases a ds b c es d h k i t j (spelled o s) (wide u) = fails _ (wide_second a ds b c es d o h s k i u j)
two_cases a ds b c es d h k i t j (wide s) u = fails _ (wide_first a ds b c es d h s k i t j)

pub bounds_cases : (w : List ℕ) → InBounds w → SaysOrWide w
bounds_cases w (one_number a ds b h s lt k) = one_cases a ds b h lt k (part_cases ds s)
bounds_cases w (with_comma a ds b c es d h s k i t j) =
    two_cases a ds b c es d h k i t j (part_cases ds s) (part_cases es t)

-- ---- the form of bounds

are_by : (w bs : List ℕ) (p : Parts) → w ≡ 123 ∷ bs → parts bs ≡ p → begins_bounds bs ≡ true → has bs p.close 125 ≡ true
    → length bs ≡ p.close + 1 → AreBounds w
are_by w bs p is e b c l = record {
  rest = bs;
  is = is;
  begun = b;
  closed = ap (λ (x : Parts). has bs x.close 125) e ∙ c;
  whole = l ∙ ap (λ (x : Parts). x.close + 1) (sym e);
}

bounds_are : (w v : List ℕ) → w ≡ 123 ∷ v ++ 125 ∷ [] → InBounds v → AreBounds w
bounds_are w v is (one_number a ds b h s lt k) =
    let p = sharpened a ds b h s k in
    let f = one_flat a ds b [] p in
    are_by w (one_bytes p.front ds p.back []) (one_parts (length p.front) (length ds) (length p.back)) (is
    ∙ ap (λ x. 123 ∷ x) f.bytes)
    (one_is p.front ds p.back [] p.part) (one_begun p.front ds p.back [] p.part lt) (one_byte p.front ds p.back [] 125)
    (omega (arith, ap length f.bytes, length-append (a ++ ds ++ b) (125 ∷ []), f.long))
bounds_are w v is (with_comma a ds b c es d h s k i t j) =
    let p = sharpened a ds b h s k in
    let o = sharpened c es d i t j in
    let f = two_flat a ds b c es d [] p o in
    are_by w (two_bytes p.front ds p.back o.front es o.back [])
    (two_parts (length p.front) (length ds) (length p.back) (length o.front) (length es) (length o.back))
    (is ∙ ap (λ x. 123 ∷ x) f.bytes) (two_is p.front ds p.back o.front es o.back [] p.part o.part)
    (two_begun p.front ds p.back o.front es o.back [] p.part o.part)
    (brace_there p.front ds p.back o.front es o.back [])
    (omega (arith, ap length f.bytes, length-append (a ++ ds ++ b ++ 44 ∷ c ++ es ++ d) (125 ∷ []), f.long))

pub form_of_bounds : (w : List ℕ) → IsBounds w → AreBounds w
form_of_bounds w h = bounds_are w h.inner h.is h.written
