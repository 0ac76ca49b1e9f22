-- Bounds as they are written, `{n}`, `{n,m}` or `{n,}` without blanks, stand there and are read as what was written.
use Rattle.std.proofs.Common.{◌≡◌, ℕ, suc, ◌+◌, ◌-◌, ◌<◌, List, [], ◌∷◌, ◌++◌, Option, Some, None, length, take, drop}
use Rattle.std.proofs.Common.{refl, sym, ap, subst, ◌∙◌, arith, append_assoc, length-append}
use Rattle.std.specs.Prelude.{Bool, true, false, not, ◌||◌, is_some, nat_eq, nat_lt, if◌then◌else◌}
use Rattle.std.proofs.lemmas.List.{take_at, drop_at}
use Rattle.std.proofs.lemmas.Bool.{lt-ltb}
use Rattle.std.proofs.lemmas.Bool.Decides.{nat_tests}
use Rattle.std.specs.List.{list_all}
use Rattle.rpl_text.specs.Ascii.{is_digit}
use Rattle.rpl_lexer.specs.declared.bounds.Span.{Span}
use Rattle.rpl_lexer.specs.declared.bounds.Parts.{Parts}
use Rattle.rpl_lexer.specs.declared.bounds.Bounds.{Bounds}
use Rattle.rpl_lexer.specs.declared.token.TokenKind.TheVariants as K
use Rattle.rpl_lexer.specs.declared.front.Stand.TheVariants.{Found}
use Rattle.rpl_lexer.specs.Bytes.{is_space, run, past, begins, has}
use Rattle.rpl_text.specs.Numbers.{value, narrow}
use Rattle.rpl_lexer.specs.Braces.{digits_from, parts, part, is_wide, number_in, bounds_in, begins_bounds}
use Rattle.rpl_lexer.specs.Fronts.{stands}
use Rattle.rpl_lexer.specs.Written.{Spells, WritesBounds, exactly, at_least, between, BoundsBack}
use Rattle.rpl_lexer.proofs.Spans.{left, right, drop_zero}
use Rattle.rpl_lexer.proofs.Places.{parts_comma, parts_plain}
use Rattle.rpl_lexer.proofs.Stood.{bounds_stand}

run_none : (p : ℕ → Bool) (x : List ℕ) → begins p x ≡ false → run p x ≡ 0
run_none p [] h = refl
run_none p (b ∷ bs) h = rw h refl

run_digits : (ds r : List ℕ) → list_all is_digit ds ≡ true → begins is_digit r ≡ false
    → run is_digit (ds ++ r) ≡ length ds
run_digits [] r h f = run_none is_digit r f
run_digits (c ∷ cs) r h f = let l = left (is_digit c) (list_all is_digit cs) h in
    rw l (ap suc (run_digits cs r (right (is_digit c) (list_all is_digit cs) h) f))

digit_no_space : (b : ℕ) → is_digit b ≡ true → is_space b ≡ false
digit_no_space b h = grind (arith, nat_tests)

no_space : (ds r : List ℕ) → list_all is_digit ds ≡ true → begins is_space r ≡ false → begins is_space (ds ++ r) ≡ false
no_space [] r h f = f
no_space (c ∷ cs) r h f = digit_no_space c (left (is_digit c) (list_all is_digit cs) h)

digit_first : (ds r : List ℕ) → list_all is_digit ds ≡ true → 0 < length ds
    → begins (λ b. is_digit b || nat_eq b 44) (ds ++ r) ≡ true
digit_first [] r h lt = absurd (omega arith)
digit_first (c ∷ cs) r h lt = let l = left (is_digit c) (list_all is_digit cs) h in rw l refl

-- no blanks after the place
space_at : (u x : List ℕ) (i : ℕ) → length u ≡ i → begins is_space x ≡ false → past is_space (u ++ x) i ≡ i
space_at u x i e f = let z : i + 0 ≡ i = omega arith in ap (λ y. i + run is_space y) (drop_at u x i e)
    ∙ (ap (λ y. i + y) (run_none is_space x f) ∙ z)

digits_at : (u ds r : List ℕ) (i : ℕ) → length u ≡ i → list_all is_digit ds ≡ true → begins is_digit r ≡ false
    → begins is_space r ≡ false
    → ◌≡◌ {A = Span} (digits_from (u ++ (ds ++ r)) i) (record { start = i; end = i + length ds })
digits_at u ds r i e d f s =
    let bs = u ++ (ds ++ r) in
    let a : past is_space bs i ≡ i = space_at u (ds ++ r) i e (no_space ds r d s) in
    let b : past is_digit bs i ≡ i + length ds = ap (λ y. i + run is_digit y) (drop_at u (ds ++ r) i e)
    ∙ ap (λ y. i + y) (run_digits ds r d f) in
    ap (λ (x : ℕ). record { start = x; end = past is_digit bs x }) a ∙ ap (λ (x : ℕ). record { start = i; end = x }) b

part_at : (u ds r : List ℕ) (i : ℕ) → length u ≡ i → part (u ++ (ds ++ r)) (record { start = i; end = i + length ds })
    ≡ ds
part_at u ds r i e =
    let n : i + length ds - i ≡ length ds = omega arith in
    ap (λ k. take k (drop i (u ++ (ds ++ r)))) n
    ∙ (ap (take (length ds)) (drop_at u (ds ++ r) i e) ∙ take_at ds r (length ds) refl)

has_at : (u : List ℕ) (c : ℕ) (r : List ℕ) (b i : ℕ) → length u ≡ i → has (u ++ c ∷ r) i b ≡ nat_eq c b
has_at u c r b i e = subst (λ k. has (u ++ c ∷ r) k b ≡ nat_eq c b) e (by u)
  where
    by : (v : List ℕ) → has (v ++ c ∷ r) (length v) b ≡ nat_eq c b
    by [] = refl
    by (d ∷ v) = by v

begun : (bs : List ℕ) → begins is_space bs ≡ false → begins (λ b. is_digit b || nat_eq b 44) bs ≡ true
    → begins_bounds bs ≡ true
begun bs f h = ap (λ k. begins (λ b. is_digit b || nat_eq b 44) (drop k bs)) (space_at [] bs 0 refl f)
    ∙ (ap (begins (λ b. is_digit b || nat_eq b 44)) (drop_zero bs) ∙ h)

not_wide : (bs : List ℕ) (p : Span) (ds : List ℕ) → part bs p ≡ ds → is_some (narrow (value 0 ds)) ≡ true
    → is_wide bs p ≡ false
not_wide bs p ds e h = ap (λ x. not (is_some (narrow (value 0 x)))) e ∙ ap not h

number_of : (bs : List ℕ) (p : Span) (ds : List ℕ) (n : ℕ) → part bs p ≡ ds → p.start < p.end
    → narrow (value 0 ds) ≡ Some n → number_in bs p ≡ Some n
number_of bs p ds n e lt h = ap (λ b. if not b then None else narrow (value 0 (part bs p))) (lt-ltb p.start p.end lt)
    ∙ (ap (λ x. narrow (value 0 x)) e ∙ h)

-- ---- `{n}`

abbrev plain_parts : (len : ℕ) → Parts
plain_parts len = record {
  least = record { start = 0; end = 0 + len };
  comma = false;
  most = record { start = len; end = len };
  close = len;
}

plain_is : (ds r : List ℕ) → list_all is_digit ds ≡ true → parts (ds ++ 125 ∷ r) ≡ plain_parts (length ds)
plain_is ds r d =
    let n = length ds in
    let z : 0 + n ≡ n = omega arith in
    let bs = ds ++ 125 ∷ r in
    sym (parts_plain bs (record { start = 0; end = 0 + n }) n (sym (digits_at [] ds (125 ∷ r) 0 refl d refl refl))
    (sym (ap (past is_space bs) z ∙ space_at ds (125 ∷ r) n refl refl)) (has_at ds 125 r 44 n refl))

nothing_part : (bs : List ℕ) (i : ℕ) → part bs (record { start = i; end = i }) ≡ []
nothing_part bs i = let z : i - i ≡ 0 = omega arith in ap (λ k. take k (drop i bs)) z

-- `{n}` at the front of a text is a token of bounds, up to its brace
pub plain_stands : (ds r : List ℕ) (n : ℕ) → Spells n ds
    → stands (123 ∷ (ds ++ 125 ∷ r)) ≡ Found K.Bounds (length ds + 2)
plain_stands ds r n h =
    let bs = ds ++ 125 ∷ r in
    let len = length ds in
    let e = plain_is ds r h.digits in
    let p = plain_parts len in
    let l : is_wide bs (parts bs).least ≡ false = ap (λ (x : Parts). is_wide bs x.least) e
    ∙ not_wide bs p.least ds (part_at [] ds (125 ∷ r) 0 refl) (ap is_some h.number) in
    let m : is_wide bs (parts bs).most ≡ false = ap (λ (x : Parts). is_wide bs x.most) e
    ∙ not_wide bs p.most [] (nothing_part bs len) refl in
    let c : has bs (parts bs).close 125 ≡ true = ap (λ (x : Parts). has bs x.close 125) e
    ∙ has_at ds 125 r 125 len refl in
    bounds_stand bs (begun bs (no_space ds (125 ∷ r) h.digits refl) (digit_first ds (125 ∷ r) h.digits h.some)) c l m
    ∙ ap (λ (x : Parts). Found K.Bounds (x.close + 2)) e

-- `{n}` is read as one number without a comma
pub plain_read : (ds r : List ℕ) (n : ℕ) → Spells n ds
    → ◌≡◌ {A = Bounds} (bounds_in (ds ++ 125 ∷ r)) (record { least = Some n; comma = false; most = None })
plain_read ds r n h =
    let bs = ds ++ 125 ∷ r in
    let len = length ds in
    let some = h.some in
    let f : nat_lt len len ≡ false = grind (arith, nat_tests) in
    ap (λ (p : Parts). record { least = number_in bs p.least; comma = p.comma; most = number_in bs p.most })
    (plain_is ds r h.digits)
    ∙ (ap (λ (o : Option ℕ). record {
      least = o;
      comma = false;
      most = number_in bs (record { start = len; end = len });
    })
    (number_of bs (record { start = 0; end = 0 + len }) ds n (part_at [] ds (125 ∷ r) 0 refl) (omega arith) h.number)
    ∙ ap (λ b. record {
      least = Some n;
      comma = false;
      most = if not b then None else narrow (value 0 (part bs (record { start = len; end = len })));
    }) f)

-- ---- `{n,m}` and `{n,}`: es are the digits after the comma, perhaps none

abbrev comma_parts : (len more : ℕ) → Parts
comma_parts len more = record {
  least = record { start = 0; end = 0 + len };
  comma = true;
  most = record { start = len + 1; end = len + 1 + more };
  close = len + 1 + more;
}

module _ (ds es r : List ℕ) (d : list_all is_digit ds ≡ true) (e : list_all is_digit es ≡ true) where
  abbrev rest : List ℕ
  rest = es ++ 125 ∷ r

  abbrev bytes : List ℕ
  bytes = ds ++ 44 ∷ rest

  split : (ds ++ 44 ∷ []) ++ rest ≡ bytes
  split = append_assoc ds (44 ∷ []) rest

  front_len : length (ds ++ 44 ∷ []) ≡ length ds + 1
  front_len = length-append ds (44 ∷ [])

  split_twice : ((ds ++ 44 ∷ []) ++ es) ++ 125 ∷ r ≡ bytes
  split_twice = append_assoc (ds ++ 44 ∷ []) es (125 ∷ r) ∙ split

  twice_len : length ((ds ++ 44 ∷ []) ++ es) ≡ length ds + 1 + length es
  twice_len = length-append (ds ++ 44 ∷ []) es ∙ ap (λ x. x + length es) front_len

  comma_is : parts bytes ≡ comma_parts (length ds) (length es)
  comma_is =
      let n = length ds in
      let z : 0 + n ≡ n = omega arith in
      let most = subst (λ x. ◌≡◌ {A = Span} (digits_from x (n + 1)) (record { start = n + 1; end = n + 1 + length es }))
      split (digits_at (ds ++ 44 ∷ []) es (125 ∷ r) (n + 1) front_len e refl refl) in
      let k : past is_space bytes (n + 1 + length es) ≡ n + 1 + length es =
      subst (λ x. past is_space x (n + 1 + length es) ≡ n + 1 + length es) split_twice
      (space_at ((ds ++ 44 ∷ []) ++ es) (125 ∷ r) (n + 1 + length es) twice_len refl) in
      sym (parts_comma bytes (record { start = 0; end = 0 + n }) (record { start = n + 1; end = n + 1 + length es }) n
      (n + 1 + length es)
      (sym (digits_at [] ds (44 ∷ rest) 0 refl d refl refl)) (sym (ap (past is_space bytes) z
      ∙ space_at ds (44 ∷ rest) n refl refl)) (has_at ds 44 rest 44 n refl) (sym most) (sym k))

  most_part : part bytes (record { start = length ds + 1; end = length ds + 1 + length es }) ≡ es
  most_part = subst (λ x. part x (record { start = length ds + 1; end = length ds + 1 + length es }) ≡ es) split
      (part_at (ds ++ 44 ∷ []) es (125 ∷ r) (length ds + 1) front_len)

-- `{n,m}` or `{n,}` at the front of a text is a token of bounds, up to its brace
pub comma_stands : (ds es r : List ℕ) (n : ℕ) → Spells n ds → list_all is_digit es ≡ true
    → is_some (narrow (value 0 es)) ≡ true → stands (123 ∷ (ds ++ 44 ∷ (es ++ 125 ∷ r)))
    ≡ Found K.Bounds (length ds + 1 + length es + 2)
comma_stands ds es r n h d s =
    let bs = ds ++ 44 ∷ (es ++ 125 ∷ r) in
    let len = length ds in
    let e = comma_is ds es r h.digits d in
    let p = comma_parts len (length es) in
    let l : is_wide bs (parts bs).least ≡ false = ap (λ (x : Parts). is_wide bs x.least) e
    ∙ not_wide bs p.least ds (part_at [] ds (44 ∷ (es ++ 125 ∷ r)) 0 refl) (ap is_some h.number) in
    let m : is_wide bs (parts bs).most ≡ false = ap (λ (x : Parts). is_wide bs x.most) e
    ∙ not_wide bs p.most es (most_part ds es r h.digits d) s in
    let k : has bs (len + 1 + length es) 125 ≡ true =
    subst (λ x. has x (len + 1 + length es) 125 ≡ true) (split_twice ds es r h.digits d)
    (has_at ((ds ++ 44 ∷ []) ++ es) 125 r 125 (len + 1 + length es) (twice_len ds es r h.digits d)) in
    let c : has bs (parts bs).close 125 ≡ true = ap (λ (x : Parts). has bs x.close 125) e ∙ k in
    bounds_stand bs (begun bs (no_space ds (44 ∷ (es ++ 125 ∷ r)) h.digits refl)
    (digit_first ds (44 ∷ (es ++ 125 ∷ r)) h.digits h.some)) c l m
    ∙ ap (λ (x : Parts). Found K.Bounds (x.close + 2)) e

comma_read : (ds es r : List ℕ) (n : ℕ) (o : Option ℕ) → Spells n ds → list_all is_digit es ≡ true
    → number_in (ds ++ 44 ∷ (es ++ 125 ∷ r)) (record { start = length ds + 1; end = length ds + 1 + length es }) ≡ o
    → ◌≡◌ {A = Bounds} (bounds_in (ds ++ 44 ∷ (es ++ 125 ∷ r))) (record { least = Some n; comma = true; most = o })
comma_read ds es r n o h d f =
    let bs = ds ++ 44 ∷ (es ++ 125 ∷ r) in
    let len = length ds in
    let some = h.some in
    ap (λ (p : Parts). record { least = number_in bs p.least; comma = p.comma; most = number_in bs p.most })
    (comma_is ds es r h.digits d)
    ∙ (ap (λ (q : Option ℕ). record {
      least = q;
      comma = true;
      most = number_in bs (record { start = len + 1; end = len + 1 + length es });
    })
    (number_of bs (record { start = 0; end = 0 + len }) ds n (part_at [] ds (44 ∷ (es ++ 125 ∷ r)) 0 refl)
    (omega arith) h.number)
    ∙ ap (λ (q : Option ℕ). record { least = Some n; comma = true; most = q }) f)

-- `{n,m}` is read as the two numbers that its digits spell
pub both_read : (ds es r : List ℕ) (n m : ℕ) → Spells n ds → Spells m es
    → ◌≡◌ {A = Bounds} (bounds_in (ds ++ 44 ∷ (es ++ 125 ∷ r))) (record { least = Some n; comma = true; most = Some m })
both_read ds es r n m h k =
    let some = k.some in
    comma_read ds es r n (Some m) h k.digits (number_of (ds ++ 44 ∷ (es ++ 125 ∷ r)) (record {
      start = length ds + 1;
      end = length ds + 1 + length es;
    }) es m (most_part ds es r h.digits k.digits) (omega arith) k.number)

-- `{n,}` is read as a lower number without an upper one
pub open_read : (ds r : List ℕ) (n : ℕ) → Spells n ds
    → ◌≡◌ {A = Bounds} (bounds_in (ds ++ 44 ∷ 125 ∷ r)) (record { least = Some n; comma = true; most = None })
open_read ds r n h =
    let bs = ds ++ 44 ∷ 125 ∷ r in
    let i = length ds + 1 in
    let f : nat_lt i (i + 0) ≡ false = grind (arith, nat_tests) in
    comma_read ds [] r n None h refl (ap (λ b. if not b then None
    else narrow (value 0 (part bs (record { start = i; end = i + 0 })))) f)

-- ---- all ways to write bounds

token_at : (w v : List ℕ) (r : List ℕ) (k n : ℕ) → w ++ 125 ∷ r ≡ v → k ≡ n → stands (123 ∷ v) ≡ Found K.Bounds k
    → stands (123 ∷ w ++ 125 ∷ r) ≡ Found K.Bounds n
token_at w v r k n e f h = ap (λ x. stands (123 ∷ x)) e ∙ (h ∙ ap (λ x. Found K.Bounds x) f)

pub bounds_back : (w r : List ℕ) (b : Bounds) → WritesBounds w b → BoundsBack w b r
bounds_back w r b (exactly ds n h) = record { token = plain_stands ds r n h; numbers = plain_read ds r n h }
bounds_back w r b (at_least ds n h) =
    let e : (ds ++ 44 ∷ []) ++ 125 ∷ r ≡ ds ++ 44 ∷ 125 ∷ r = append_assoc ds (44 ∷ []) (125 ∷ r) in
    let l = length-append ds (44 ∷ []) in
    record {
      token = token_at (ds ++ 44 ∷ []) (ds ++ 44 ∷ 125 ∷ r) r _ _ e (omega (arith, l))
          (comma_stands ds [] r n h refl refl);
      numbers = ap bounds_in e ∙ open_read ds r n h;
    }
bounds_back w r b (between ds es n m h k) =
    let e : (ds ++ 44 ∷ es) ++ 125 ∷ r ≡ ds ++ 44 ∷ (es ++ 125 ∷ r) = append_assoc ds (44 ∷ es) (125 ∷ r) in
    let l = length-append ds (44 ∷ es) in
    record {
      token = token_at (ds ++ 44 ∷ es) (ds ++ 44 ∷ (es ++ 125 ∷ r)) r _ _ e (omega (arith, l))
          (comma_stands ds es r n h k.digits (ap is_some k.number));
      numbers = ap bounds_in e ∙ both_read ds es r n m h k;
    }
