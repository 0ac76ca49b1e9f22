-- A token's first byte and its last are ASCII, so it begins and ends between characters.
use Rattle.std.proofs.Common.{◌≡◌, inl, inr, ℕ, zero, suc, ◌+◌, ◌-◌, ◌<◌, ◌≤◌, List, [], ◌∷◌, Option, Some, None}
use Rattle.std.proofs.Common.{length, get_or, drop, refl, subst, ◌∙◌, arith, length-drop, get_or-drop}
use Rattle.std.specs.Prelude.{Bool, true, false, ◌&&◌, is_some, nat_eq, IsUtf8, IsCharBoundary}
use Rattle.std.proofs.lemmas.Bool.{cases_Bool}
use Rattle.std.proofs.lemmas.Bool.Decides.{nat_tests}
use Rattle.std.proofs.lemmas.Str.{IsCharBoundary-before_ascii, IsCharBoundary-after_ascii}
use Rattle.rpl_text.specs.Ascii.{is_letter, is_digit}
use Rattle.rpl_lexer.specs.declared.token.Token.{Token}
use Rattle.rpl_lexer.specs.declared.token.TokenKind.{TokenKind}
use Rattle.rpl_lexer.specs.declared.token.TokenKind.TheVariants as K
use Rattle.rpl_lexer.specs.declared.front.Stand.TheVariants.{Found}
use Rattle.rpl_lexer.specs.declared.enclosed.Enclosure.{Enclosure}
use Rattle.rpl_lexer.specs.declared.enclosed.Enclosure.TheVariants.{Quotes, Brackets}
use Rattle.rpl_lexer.specs.Bytes.{is_word, run, past, begins, has}
use Rattle.rpl_lexer.specs.Signs.{punct}
use Rattle.rpl_lexer.specs.Enclosed.{plus, closes, ends, hides, depth_after, close}
use Rattle.rpl_lexer.specs.Braces.{parts}
use Rattle.rpl_lexer.specs.Fronts.{qualifies, name_stands, stands}
use Rattle.rpl_lexer.specs.Cut.{IsToken}
use Rattle.rpl_lexer.proofs.Ways.{Way, letter, digit, quote, bracket, brace, sign, none, way, keyword, qualified, name}
use Rattle.rpl_lexer.proofs.Ways.{named, Counted, fits, wide, counted, Closed, unclosed, whole, spoilt, closed, Braced}
use Rattle.rpl_lexer.proofs.Ways.{opening, unmet, wide_least, wide_most, met, braced}

word_ascii : (b : ℕ) → is_word b ≡ true → b < 128
word_ascii b h = grind (arith, nat_tests)

digit_ascii : (b : ℕ) → is_digit b ≡ true → b < 128
digit_ascii b h = grind (arith, nat_tests)

letter_word : (b : ℕ) → is_letter b ≡ true → is_word b ≡ true
letter_word b h = rw h refl

sign_ascii : (b : ℕ) → is_some (punct b) ≡ true → b < 128
sign_ascii b h = grind (arith, nat_tests)

same_byte : (b c : ℕ) → nat_eq b c ≡ true → b ≡ c
same_byte b c h = grind (arith, nat_tests)

-- ---- runs

pub run_le : (p : ℕ → Bool) (s : List ℕ) → run p s ≤ length s
run_le p [] = omega arith
run_le p (b ∷ bs) = elim (cases_Bool (p b)) [
  | inl h ↦ rw h (let l = run_le p bs in omega arith)
  | inr h ↦
      rw h (omega arith)
]

first_or_later : (p : ℕ → Bool) (b : ℕ) (bs : List ℕ) (k : ℕ) → p b ≡ true
    → ((j : ℕ) → k ≡ suc j → p (get_or bs j 0) ≡ true) → p (get_or (b ∷ bs) k 0) ≡ true
first_or_later p b bs zero h f = h
first_or_later p b bs (suc j) h f = f j refl

-- each byte of a run passes the test
pub run_passes : (p : ℕ → Bool) (s : List ℕ) (k : ℕ) → k < run p s → p (get_or s k 0) ≡ true
run_passes p [] k lt = absurd (omega arith)
run_passes p (b ∷ bs) k lt = elim (cases_Bool (p b)) [
  | inl h ↦ let m : k < suc (run p bs) = rw h at lt in
      first_or_later p b bs k h (λ j e. run_passes p bs j (omega arith))
  | inr h ↦ let m : k < 0 = rw h at lt in absurd (omega arith)
]

pub run_some : (p : ℕ → Bool) (b : ℕ) (bs : List ℕ) → p b ≡ true → run p (b ∷ bs) ≡ suc (run p bs)
run_some p b bs h = rw h refl

-- a run at the front
pub run_begins : (p q : ℕ → Bool) (s : List ℕ) → ((b : ℕ) → p b ≡ true → q b ≡ true) → begins p s ≡ true → 0 < run q s
run_begins p q [] f h = absurd (cc)
run_begins p q (b ∷ bs) f h = let e : run q (b ∷ bs) ≡ suc (run q bs) = run_some q b bs (f b h) in omega arith

-- ---- what the edges of a token are

-- the first n bytes are some, and the first and the last of them are ASCII
pub record Edged (s : List ℕ) (n : ℕ) : Type 0 where
  pub some : 0 < n
  pub inside : n ≤ length s
  pub first : get_or s 0 0 < 128
  pub last : get_or s (n - 1) 0 < 128

pub has_is : (bs : List ℕ) (i c : ℕ) → has bs i c ≡ true → (i < length bs) × (get_or bs i 0 ≡ c)
has_is [] i c h = absurd (cc)
has_is (b ∷ bs) zero c h = (omega arith, same_byte b c h)
has_is (b ∷ bs) (suc i) c h = let g = has_is bs i c h in (omega (arith, g.0), g.1)

run_edged : (p : ℕ → Bool) (s : List ℕ) → ((b : ℕ) → p b ≡ true → b < 128) → 0 < run p s → Edged s (run p s)
run_edged p s f lt = record {
  some = lt;
  inside = run_le p s;
  first = f _ (run_passes p s 0 lt);
  last = f _ (run_passes p s (run p s - 1) (omega arith));
}

pub found_same : (k j : TokenKind) (m n : ℕ) → Found k m ≡ Found j n → (k ≡ j) × (m ≡ n)
found_same k j m n e = (cc e, cc e)

edged_to : (s : List ℕ) (m n : ℕ) → m ≡ n → Edged s m → Edged s n
edged_to s m n e h = subst (Edged s) e h

-- the second name of a qualified one
behind_dot : (s : List ℕ) (n : ℕ) → n ≡ run is_word s → 0 < n → qualifies s n ≡ true → Edged s (past is_word s (n + 1))
behind_dot s n e lt h =
    let d = has_is s n 46 (left _ _ h) in
    let r = drop (n + 1) s in
    let m : 0 < run is_word r = run_begins is_letter is_word r letter_word (left _ _ (right _ _ h)) in
    let l = run_le is_word r in
    let g = run_passes is_word r (run is_word r - 1) (omega arith) in
    let w : get_or s (n + 1 + run is_word r - 1) 0 < 128 =
    let q : n + 1 + (run is_word r - 1) ≡ n + 1 + run is_word r - 1 = omega arith in
    subst (λ x. get_or s x 0 < 128) q (subst (λ x. x < 128) (get_or-drop (n + 1) s (run is_word r - 1) 0)
    (word_ascii _ g)) in
    record {
      some = omega arith;
      inside = omega (arith, length-drop (n + 1) s);
      first = word_ascii _ (run_passes is_word s 0 (omega arith));
      last = w;
    }
  where
    left : (a b : Bool) → (a && b) ≡ true → a ≡ true
    left true b h = refl
    left false b h = h

    right : (a b : Bool) → (a && b) ≡ true → b ≡ true
    right true b h = h
    right false b h = absurd (cc)

name_edged : (s : List ℕ) (k : TokenKind) (n : ℕ) → begins is_letter s ≡ true → name_stands s ≡ Found k n → Edged s n
name_edged s k n b h = elim (named s) [
  | keyword w e ↦ edged_to s _ n (found_same _ _ _ _ (e ∙ h)).1 (run_edged is_word s word_ascii lt)
  | qualified w q e ↦ edged_to s _ n (found_same _ _ _ _ (e ∙ h)).1 (behind_dot s (run is_word s) refl lt q)
  | name w q e ↦ edged_to s _ n (found_same _ _ _ _ (e ∙ h)).1 (run_edged is_word s word_ascii lt)
]
  where
    lt : 0 < run is_word s
    lt = run_begins is_letter is_word s letter_word b

pub plus_some : (o : Option ℕ) (n : ℕ) → plus 1 o ≡ Some n → (m : ℕ) × (o ≡ Some m) × (n ≡ suc m)
plus_some None n e = absurd (cc)
plus_some (Some m) n e = let k : 1 + m ≡ n = cc in (m, refl, omega arith)

closes_ascii : (e : Enclosure) (b : ℕ) → closes e b ≡ true → b < 128
closes_ascii Quotes b h = grind (arith, nat_tests)
closes_ascii Brackets b h = grind (arith, nat_tests)

-- the last of n bytes is ASCII
pub record Shut (bs : List ℕ) (n : ℕ) : Type 0 where
  pub some : 0 < n
  pub inside : n ≤ length bs
  pub last : get_or bs (n - 1) 0 < 128

shut_later : (b : ℕ) (bs : List ℕ) (m n : ℕ) → n ≡ suc m → Shut bs m → Shut (b ∷ bs) n
shut_later b bs m n e h = record {
  some = omega arith;
  inside = omega (arith, h.inside);
  last = let q : suc (m - 1) ≡ n - 1 = omega (arith, h.some) in subst (λ x. get_or (b ∷ bs) x 0 < 128) q h.last;
}

shut_here : (e : Enclosure) (d : ℕ) (hidden : Bool) (b : ℕ) (bs : List ℕ) (n : ℕ) → ends e d hidden b ≡ true
    → Some 1 ≡ Some n → Shut (b ∷ bs) n
shut_here e d true b bs n h f = absurd (cc)
shut_here e zero false b bs n h f = let k : 1 ≡ n = cc in record {
  some = omega arith;
  inside = omega arith;
  last = subst (λ x. get_or (b ∷ bs) (x - 1) 0 < 128) k (closes_ascii e b h);
}
shut_here e (suc d) false b bs n h f = absurd (grind (arith, nat_tests))

pub close_shut : (e : Enclosure) (d : ℕ) (hidden : Bool) (bs : List ℕ) (n : ℕ) → close e d hidden bs ≡ Some n
    → Shut bs n
close_shut e d hidden [] n h = absurd (cc)
close_shut e d hidden (b ∷ bs) n h = elim (cases_Bool (nat_eq b 10)) [
  | inl t ↦ let k : None ≡ Some n = rw t at h in absurd (cc)
  | inr t ↦ elim (cases_Bool (ends e d hidden b)) [
    | inl q ↦ shut_here e d hidden b bs n q (rw (t, q) at h)
    | inr q ↦
        let r = plus_some (close e (depth_after e d hidden b) (hides hidden b) bs) n (rw (t, q) at h) in
        shut_later b bs r.0 n r.2 (close_shut e (depth_after e d hidden b) (hides hidden b) bs r.0 r.1)
  ]
]

enclosed_edged : (e : Enclosure) (b : ℕ) (bs : List ℕ) (k : TokenKind) (n : ℕ) → b < 128 → Closed e bs (Found k n)
    → Edged (b ∷ bs) n
enclosed_edged e b bs k n lt (unclosed h f) = absurd (cc)
enclosed_edged e b bs k n lt (spoilt m i h g f) = absurd (cc)
enclosed_edged e b bs k n lt (whole m h g f) =
    let s = shut_later b bs m (suc m) refl (close_shut e 0 false bs m h) in
    let q : suc m ≡ n = omega (arith, (found_same _ _ _ _ f).1) in
    edged_to (b ∷ bs) (suc m) n q (record { some = s.some; inside = s.inside; first = lt; last = s.last })

one_edged : (b : ℕ) (bs : List ℕ) (k j : TokenKind) (n : ℕ) → b < 128 → Found k 1 ≡ Found j n → Edged (b ∷ bs) n
one_edged b bs k j n lt f =
    edged_to (b ∷ bs) 1 n (found_same _ _ _ _ f).1 (record {
      some = omega arith;
      inside = omega arith;
      first = lt;
      last = lt;
    })

brace_edged : (b : ℕ) (bs : List ℕ) (k : TokenKind) (n : ℕ) → b < 128 → Braced bs (Found k n) → Edged (b ∷ bs) n
brace_edged b bs k n lt (opening h f) = one_edged b bs K.Sign k n lt f
brace_edged b bs k n lt (unmet h g f) = absurd (cc)
brace_edged b bs k n lt (wide_least h g l f) = absurd (cc)
brace_edged b bs k n lt (wide_most h g l m f) = absurd (cc)
brace_edged b bs k n lt (met h g l m f) =
    let c = (parts bs).close in
    let d = has_is bs c 125 g in
    let q : c + 2 ≡ n = (found_same _ _ _ _ f).1 in
    edged_to (b ∷ bs) (c + 2) n q (record {
      some = omega arith;
      inside = omega (arith, d.0);
      first = lt;
      last = let r : suc c ≡ c + 2 - 1 = omega arith in subst (λ x. get_or (b ∷ bs) x 0 < 128) r (omega (arith, d.1));
    })

way_edged : (b : ℕ) (bs : List ℕ) (k : TokenKind) (n : ℕ) → Way b bs (Found k n) → Edged (b ∷ bs) n
way_edged b bs k n (letter h f) = name_edged (b ∷ bs) k n h f
way_edged b bs k n (digit h f) = number_edged (b ∷ bs) k n h (subst (Counted (b ∷ bs)) f (counted (b ∷ bs)))
  where
    number_edged : (s : List ℕ) (k : TokenKind) (n : ℕ) → begins is_digit s ≡ true → Counted s (Found k n) → Edged s n
    number_edged s k n h (fits g f) =
        edged_to s _ n (found_same _ _ _ _ f).1
        (run_edged is_digit s digit_ascii (run_begins is_digit is_digit s (λ b e. e) h))
    number_edged s k n h (wide g f) = absurd (cc)
way_edged b bs k n (quote h f) =
    enclosed_edged Quotes b bs k n (omega (arith, same_byte b 34 h)) (subst (Closed Quotes bs) f (closed Quotes bs))
way_edged b bs k n (bracket h f) =
    enclosed_edged Brackets b bs k n (omega (arith, same_byte b 91 h))
    (subst (Closed Brackets bs) f (closed Brackets bs))
way_edged b bs k n (brace h f) =
    brace_edged b bs k n (omega (arith, same_byte b 123 h)) (subst (Braced bs) f (braced bs))
way_edged b bs k n (sign o h f) = one_edged b bs K.Sign k n (sign_ascii b h) f
way_edged b bs k n (none a d q l s f) = absurd (cc)

pub no_token : (k : TokenKind) (n : ℕ) → stands [] ≡ Found k n → ⊥
unfolding stands
no_token k n h = cc

pub found_edged : (s : List ℕ) (k : TokenKind) (n : ℕ) → stands s ≡ Found k n → Edged s n
found_edged [] k n h = absurd (no_token k n h)
found_edged (b ∷ bs) k n h = way_edged b bs k n (subst (Way b bs) h (way b bs))

-- where a token may be cut from its text
pub record Cuttable (s : List ℕ) (t : Token) : Type 0 where
  pub start : IsCharBoundary s t.start
  pub inner : IsCharBoundary s (t.start + 1)
  pub end : IsCharBoundary s t.end

-- a token of a UTF-8 text begins and ends between characters
pub token_cuttable : (s : List ℕ) (t : Token) → IsUtf8 s → IsToken s t → Cuttable s t
token_cuttable s t u h =
    let e = found_edged (drop t.start s) t.kind (t.end - t.start) h.stands in
    let n : t.start + 0 ≡ t.start = omega arith in
    let m : t.start + (t.end - t.start - 1) ≡ t.end - 1 = omega (arith, h.forward) in
    let a : get_or s t.start 0 < 128 =
    subst (λ x. get_or s x 0 < 128) n (subst (λ x. x < 128) (get_or-drop t.start s 0 0) e.first) in
    let z : get_or s (t.end - 1) 0 < 128 =
    subst (λ x. get_or s x 0 < 128) m (subst (λ x. x < 128) (get_or-drop t.start s (t.end - t.start - 1) 0) e.last) in
    let q : t.end - 1 + 1 ≡ t.end = omega (arith, h.forward) in
    record {
      start = IsCharBoundary-before_ascii s t.start (omega (arith, h.forward, h.inside)) a;
      inner = IsCharBoundary-after_ascii s t.start u (omega (arith, h.forward, h.inside)) a;
      end = subst (IsCharBoundary s) q (IsCharBoundary-after_ascii s (t.end - 1) u (omega (arith, h.forward, h.inside))
          z);
    }
