-- A text that is written character by character is one token, and is read as what was written.
use Rattle.std.proofs.Common.{◌≡◌, ◌⊎◌, inl, inr, ℕ, zero, suc, ◌+◌, ◌*◌, ◌<◌, ◌≤◌, List, [], ◌∷◌, ◌++◌, Option, Some}
use Rattle.std.proofs.Common.{None, length, get_or, take, refl, sym, ap, subst, ◌∙◌, arith, append_assoc, length-append}
use Rattle.std.specs.Prelude.{Bool, true, false, ◌&&◌, is_some, nat_eq, nat_le, nat_lt, if◌then◌else◌, encode_utf8}
use Rattle.std.specs.Prelude.{encode_utf8_all}
use Rattle.std.specs.Char.{digit_value}
use Rattle.std.proofs.Math.Seq.{take-append-add, drop-append_seam}
use Rattle.std.proofs.lemmas.Bool.{cases_Bool, cases_lt, lt-ltb, le-ltb}
use Rattle.std.proofs.lemmas.Bool.Decides.{nat_tests}
use Rattle.std.proofs.lemmas.Str.{inside_one, encode_ascii, encodes-append}
use Rattle.rpl_text.specs.Characters.{is_char}
use Rattle.rpl_text.specs.Escapes.{hex, numbered, is_kept, escape}
use Rattle.rpl_text.proofs.Escaped.{escape_cons, escape_nil}
use Rattle.rpl_text.proofs.Hex.{hex_cons, hex_nil}
use Rattle.rpl_lexer.specs.declared.token.TokenKind.TheVariants as K
use Rattle.rpl_lexer.specs.declared.enclosed.Enclosure.TheVariants.{Quotes}
use Rattle.rpl_lexer.specs.declared.front.Stand.TheVariants.{Found}
use Rattle.rpl_lexer.specs.Enclosed.{plus, close, bad, by_bad, by_close}
use Rattle.rpl_lexer.specs.Fronts.{stands}
use Rattle.rpl_lexer.specs.Payloads.{unescaped, decoded}
use Rattle.rpl_lexer.specs.Written.{is_bare, is_inner, Writes, nothing, bare, escaped, ReadsBack, InText, ending}
use Rattle.rpl_lexer.specs.Written.{bare_in, escape_in}
use Rattle.std.proofs.lemmas.List.{append-nil}
use Rattle.std.specs.List.{list_all}
use Rattle.rpl_lexer.proofs.Walks.{plus_none}
use Rattle.rpl_lexer.proofs.Spans.{left, right}
use Rattle.rpl_lexer.proofs.Decoding.{decoded_cons, skipped}

-- ---- what an escape is made of

-- a letter and digits, none of which ends a text, and an escape whatever follows
pub record Shape (c : ℕ) (e : List ℕ) : Type 0 where
  pub letter : ℕ
  pub digits : List ℕ
  pub is : e ≡ letter ∷ digits
  pub ascii : letter < 128
  pub line : nat_eq letter 10 ≡ false
  pub plain : list_all is_bare digits ≡ true
  pub inner : list_all is_inner digits ≡ true
  pub low : list_all (λ b. nat_lt b 128) digits ≡ true
  pub stays : (y : List ℕ) → escape (e ++ y) ≡ Some (c, length e)

digit_bare : (c : ℕ) → digit_value c < 16 → is_bare c ≡ true
digit_bare c h = grind (arith, nat_tests)

digit_inner : (c : ℕ) → digit_value c < 16 → is_inner c ≡ true
digit_inner c h = grind (arith, nat_tests)

digit_low : (c : ℕ) → digit_value c < 16 → nat_lt c 128 ≡ true
digit_low c h = grind (arith, nat_tests)

none_some : {P : Type 0} (w : ℕ) → None ≡ Some w → P
none_some w e = absurd (cc)

none_pair : {P : Type 0} (c n : ℕ) → ◌≡◌ {A = Option (ℕ × ℕ)} None (Some (c, n)) → P
none_pair c n e = absurd (cc)

-- so many digits, and the same number whatever follows
record Digits (n v w : ℕ) (ds : List ℕ) : Type 0 where
  plain : list_all is_bare ds ≡ true
  inner : list_all is_inner ds ≡ true
  low : list_all (λ b. nat_lt b 128) ds ≡ true
  stays : (y : List ℕ) → hex n v (ds ++ y) ≡ Some w

hex_zero : (v : ℕ) (cs : List ℕ) → hex 0 v cs ≡ Some v
unfolding hex
hex_zero v cs = refl

and_both : (a b : Bool) → a ≡ true → b ≡ true → (a && b) ≡ true
and_both a b h g = rw (h, g) refl

hex_digits : (n v w : ℕ) (ds : List ℕ) → hex n v ds ≡ Some w → length ds ≡ n → Digits n v w ds
hex_digits zero v w [] h e = record {
  plain = refl;
  inner = refl;
  low = refl;
  stays = λ y. hex_zero v y
      ∙ sym (hex_zero v []) ∙ h;
}
hex_digits zero v w (d ∷ ds) h e = absurd (omega (arith, e))
hex_digits (suc n) v w [] h e = none_some w (sym (hex_nil n v) ∙ h)
hex_digits (suc n) v w (d ∷ ds) h e =
    let f = sym (hex_cons n v d ds) ∙ h in
    elim (cases_lt (digit_value d) 16) [
      | inl lt ↦
          let t = lt-ltb (digit_value d) 16 lt in
          let g = hex_digits n (16 * v + digit_value d) w ds
          (sym (ap (λ b. if b then hex n (16 * v + digit_value d) ds else None) t) ∙ f) (omega (arith, e)) in
          record {
            plain = and_both (is_bare d) (list_all is_bare ds) (digit_bare d lt) g.plain;
            inner = and_both (is_inner d) (list_all is_inner ds) (digit_inner d lt) g.inner;
            low = and_both (nat_lt d 128) (list_all (λ b. nat_lt b 128) ds) (digit_low d lt) g.low;
            stays = λ y. hex_cons n v d (ds ++ y)
                ∙ ap (λ b. if b then hex n (16 * v + digit_value d) (ds ++ y) else None) t ∙ g.stays y;
          }
      | inr ge ↦ none_some w
          (sym (ap (λ b. if b then hex n (16 * v + digit_value d) ds else None) (le-ltb (digit_value d) 16 ge)) ∙ f)
    ]

if_cases : (b : Bool) (x y r : Option (ℕ × ℕ)) → (if b then x else y) ≡ r → ((b ≡ true) × (x ≡ r))
    ⊎ ((b ≡ false) × (y ≡ r))
if_cases true x y r e = inl (refl, e)
if_cases false x y r e = inr (refl, e)

empty : (ds : List ℕ) → length ds ≡ 0 → ds ≡ []
empty [] h = refl
empty (d ∷ ds) h = absurd (omega (arith, h))

second : (p : ℕ × ℕ) (c n : ℕ) → Some p ≡ Some (c, n) → p.1 ≡ n
second p c n e = let k : ◌≡◌ {A = ℕ × ℕ} p (c, n) = cc in ap (λ (x : ℕ × ℕ). x.1) k

-- an escape of a letter and what is said of its digits
escape_shape : (c d : ℕ) (ds : List ℕ) → d < 128 → nat_eq d 10 ≡ false → list_all is_bare ds ≡ true
    → list_all is_inner ds ≡ true → list_all (λ b. nat_lt b 128) ds ≡ true
    → ((y : List ℕ) → escape (d ∷ ds ++ y) ≡ Some (c, length (d ∷ ds))) → Shape c (d ∷ ds)
escape_shape c d ds lt l plain inner low stays =
    record {
      letter = d;
      digits = ds;
      is = refl;
      ascii = lt;
      line = l;
      plain = plain;
      inner = inner;
      low = low;
      stays = stays;
    }

-- an escape of one letter
one_letter : (c d v : ℕ) (ds : List ℕ) → d < 128 → nat_eq d 10 ≡ false
    → ◌≡◌ {A = Option (ℕ × ℕ)} (Some (v, 1)) (Some (c, length (d ∷ ds))) → ((y : List ℕ) → escape (d ∷ y) ≡ Some (v, 1))
    → Shape c (d ∷ ds)
one_letter c d v ds lt l e f =
    let n : length ds ≡ 0 = omega (arith, second (v, 1) c (length (d ∷ ds)) e) in
    let z = empty ds n in
    escape_shape c d ds lt l (ap (list_all is_bare) z) (ap (list_all is_inner) z) (ap (list_all (λ b. nat_lt b 128)) z)
    (λ y. f (ds ++ y) ∙ e)

-- an escape of n digits
record Counted (c n last : ℕ) (ds : List ℕ) : Type 0 where
  size : length ds ≡ n
  value : ℕ
  read : hex n 0 ds ≡ Some value
  gives : numbered n last (Some value) ≡ Some (c, suc (length ds))

counted : (c n last : ℕ) (ds : List ℕ) (o : Option ℕ) → hex n 0 ds ≡ o → numbered n last o ≡ Some (c, suc (length ds))
    → Counted c n last ds
counted c n last ds None h e = none_pair c (suc (length ds)) e
counted c n last ds (Some v) h e = elim (cases_Bool (is_char v && nat_le v last)) [
  | inl t ↦ record {
    size =
        omega (
          arith,
          second (v, 1 + n) c (suc (length ds)) (sym (ap (λ b. if b then Some (v, 1 + n) else None) t)
              ∙ e),
        );
    value = v;
    read = h;
    gives = e;
  }
  | inr f ↦ none_pair c (suc (length ds)) (sym (ap (λ b. if b then Some (v, 1 + n) else None) f) ∙ e)
]

more_digits : (c d n last : ℕ) (ds : List ℕ) → d < 128 → nat_eq d 10 ≡ false
    → numbered n last (hex n 0 ds) ≡ Some (c, length (d ∷ ds))
    → ((y : List ℕ) → escape (d ∷ y) ≡ numbered n last (hex n 0 y)) → Shape c (d ∷ ds)
more_digits c d n last ds lt l e f =
    let k = counted c n last ds (hex n 0 ds) refl e in
    let g = hex_digits n 0 k.value ds k.read k.size in
    escape_shape c d ds lt l g.plain g.inner g.low (λ y. f (ds ++ y) ∙ ap (numbered n last) (g.stays y) ∙ k.gives)

not_line : (d k : ℕ) → nat_eq d k ≡ true → nat_eq k 10 ≡ false → nat_eq d 10 ≡ false
not_line d k h g = grind (arith, nat_tests)

below : (d k : ℕ) → nat_eq d k ≡ true → k < 128 → d < 128
below d k h lt = grind (arith, nat_tests)

kept_below : (d : ℕ) → is_kept d ≡ true → d < 128
kept_below d h = grind (arith, nat_tests)

kept_line : (d : ℕ) → is_kept d ≡ true → nat_eq d 10 ≡ false
kept_line d h = grind (arith, nat_tests)

pub shape : (c : ℕ) (e : List ℕ) → escape e ≡ Some (c, length e) → Shape c e
shape c [] h = none_pair c 0 (sym escape_nil ∙ h)
shape c (d ∷ ds) h =
    let s = sym (escape_cons d ds) ∙ h in
    elim (if_cases (is_kept d) _ _ _ s) [
      | inl a ↦ one_letter c d d ds (kept_below d a.0) (kept_line d a.0) a.1 (λ y. escape_cons d y ∙ rw (a.0) refl)
      | inr a ↦ elim (if_cases (nat_eq d 110) _ _ _ a.1) [
        | inl b ↦ one_letter c d 10 ds (below d 110 b.0 (omega arith)) (not_line d 110 b.0 refl) b.1
            (λ y. escape_cons d y ∙ rw (a.0, b.0) refl)
        | inr b ↦ elim (if_cases (nat_eq d 114) _ _ _ b.1) [
          | inl g ↦ one_letter c d 13 ds (below d 114 g.0 (omega arith)) (not_line d 114 g.0 refl) g.1
              (λ y. escape_cons d y ∙ rw (a.0, b.0, g.0) refl)
          | inr g ↦ elim (if_cases (nat_eq d 116) _ _ _ g.1) [
            | inl i ↦ one_letter c d 9 ds (below d 116 i.0 (omega arith)) (not_line d 116 i.0 refl) i.1
                (λ y. escape_cons d y ∙ rw (a.0, b.0, g.0, i.0) refl)
            | inr i ↦ elim (if_cases (nat_eq d 120) _ _ _ i.1) [
              | inl j ↦ more_digits c d 2 0x7f ds (below d 120 j.0 (omega arith)) (not_line d 120 j.0 refl) j.1
                  (λ y. escape_cons d y ∙ rw (a.0, b.0, g.0, i.0, j.0) refl)
              | inr j ↦ elim (if_cases (nat_eq d 117) _ _ _ j.1) [
                | inl k ↦ more_digits c d 4 0x10_ffff ds (below d 117 k.0 (omega arith)) (not_line d 117 k.0 refl) k.1
                    (λ y. escape_cons d y ∙ rw (a.0, b.0, g.0, i.0, j.0, k.0) refl)
                | inr k ↦ elim (if_cases (nat_eq d 85) _ _ _ k.1) [
                  | inl l ↦ more_digits c d 8 0x10_ffff ds (below d 85 l.0 (omega arith)) (not_line d 85 l.0 refl) l.1
                      (λ y. escape_cons d y ∙ rw (a.0, b.0, g.0, i.0, j.0, k.0, l.0) refl)
                  | inr l ↦ none_pair c (length (d ∷ ds)) l.1
                ]
              ]
            ]
          ]
        ]
      ]
    ]

-- ---- bytes of bare characters

each_from : (p : ℕ → Bool) (u : List ℕ) → ((k : ℕ) → k < length u → p (get_or u k 0) ≡ true) → list_all p u ≡ true
each_from p [] h = refl
each_from p (b ∷ bs) h =
    and_both (p b) (list_all p bs) (h 0 (omega arith)) (each_from p bs (λ k lt. h (suc k) (omega arith)))

high_bare : (b : ℕ) → 128 ≤ b → is_bare b ≡ true
high_bare b h = grind (arith, nat_tests)

byte_bare : (c k : ℕ) → is_bare c ≡ true → k < length (encode_utf8 c) → is_bare (get_or (encode_utf8 c) k 0) ≡ true
byte_bare c k h le = elim (cases_lt (get_or (encode_utf8 c) k 0) 128) [
  | inl lt ↦ subst (λ x. is_bare x ≡ true) (inside_one c [] (encode_utf8 c) k (sym (append-nil (encode_utf8 c))) le lt)
      h
  | inr ge ↦ high_bare (get_or (encode_utf8 c) k 0) ge
]

char_bare : (c : ℕ) → is_bare c ≡ true → list_all is_bare (encode_utf8 c) ≡ true
char_bare c h = each_from is_bare (encode_utf8 c) (λ k lt. byte_bare c k h lt)

encode_low : (ds : List ℕ) → list_all (λ b. nat_lt b 128) ds ≡ true → encode_utf8_all ds ≡ ds
encode_low [] h = refl
encode_low (d ∷ ds) h =
    let lt : d < 128 = let t = left (nat_lt d 128) (list_all (λ b. nat_lt b 128) ds) h in grind (arith, nat_tests) in
    ap (λ x. x ++ encode_utf8_all ds) (encode_ascii d lt)
    ∙ ap (λ x. d ∷ x) (encode_low ds (right (nat_lt d 128) (list_all (λ b. nat_lt b 128) ds) h))

-- ---- a walk over bytes that end no text

record Walked (u : List ℕ) : Type 0 where
  closes : (x : List ℕ) → close Quotes 0 false (u ++ x) ≡ plus (length u) (close Quotes 0 false x)
  fine : (x : List ℕ) → bad false x ≡ None → bad false (u ++ x) ≡ None

pub one_plus : (n : ℕ) (o : Option ℕ) → plus 1 (plus n o) ≡ plus (suc n) o
one_plus n None = refl
one_plus n (Some k) = let e : 1 + (n + k) ≡ suc n + k = omega arith in ap (λ x. Some x) e

pub plus_more : (m n k : ℕ) (o : Option ℕ) → m + n ≡ k → plus m (plus n o) ≡ plus k o
plus_more m n k None e = refl
plus_more m n k (Some i) e = let f : m + (n + i) ≡ k + i = omega arith in ap (λ x. Some x) f

bare_line : (b : ℕ) → is_bare b ≡ true → nat_eq b 10 ≡ false
bare_line b h = grind (arith, nat_tests)

bare_quote : (b : ℕ) → is_bare b ≡ true → nat_eq b 34 ≡ false
bare_quote b h = grind (arith, nat_tests)

bare_slash : (b : ℕ) → is_bare b ≡ true → nat_eq b 92 ≡ false
bare_slash b h = grind (arith, nat_tests)

close_bare : (u x : List ℕ) → list_all is_bare u ≡ true
    → close Quotes 0 false (u ++ x) ≡ plus (length u) (close Quotes 0 false x)
close_bare [] x h = sym (plus_none (close Quotes 0 false x))
close_bare (b ∷ bs) x h =
    let p = left (is_bare b) (list_all is_bare bs) h in
    let l = bare_line b p in
    let q = bare_quote b p in
    let s = bare_slash b p in
    rw (l, q, s) (ap (plus 1) (close_bare bs x (right (is_bare b) (list_all is_bare bs) h))
    ∙ one_plus (length bs) (close Quotes 0 false x))

bad_bare : (u x : List ℕ) → list_all is_bare u ≡ true → bad false x ≡ None → bad false (u ++ x) ≡ None
bad_bare [] x h e = e
bad_bare (b ∷ bs) x h e =
    let s = bare_slash b (left (is_bare b) (list_all is_bare bs) h) in
    rw s (ap (plus 1) (bad_bare bs x (right (is_bare b) (list_all is_bare bs) h) e))

walked_bare : (u : List ℕ) → list_all is_bare u ≡ true → Walked u
walked_bare u h = record { closes = λ x. close_bare u x h; fine = λ x e. bad_bare u x h e }

walked_on : (u v : List ℕ) → Walked u → Walked v → Walked (u ++ v)
walked_on u v h k = record {
  closes = λ x. ap (close Quotes 0 false) (append_assoc u v x) ∙ h.closes (v ++ x) ∙ ap (plus (length u)) (k.closes x)
      ∙ plus_more (length u) (length v) (length (u ++ v)) (close Quotes 0 false x) (sym (length-append u v));
  fine = λ x e. ap (bad false) (append_assoc u v x) ∙ h.fine (v ++ x) (k.fine x e);
}

close_hidden : (l : ℕ) (ds x : List ℕ) → nat_eq l 10 ≡ false → list_all is_bare ds ≡ true
    → close Quotes 0 false (92 ∷ l ∷ (ds ++ x)) ≡ plus (length (92 ∷ l ∷ ds)) (close Quotes 0 false x)
close_hidden l ds x e h =
    rw e (ap (λ o. plus 1 (plus 1 o)) (close_bare ds x h) ∙ ap (plus 1) (one_plus (length ds) (close Quotes 0 false x))
    ∙ one_plus (suc (length ds)) (close Quotes 0 false x))

bad_hidden : (l : ℕ) (ds x : List ℕ) → is_some (escape (l ∷ (ds ++ x))) ≡ true → list_all is_bare ds ≡ true
    → bad false x ≡ None → bad false (92 ∷ l ∷ (ds ++ x)) ≡ None
bad_hidden l ds x e h f = rw e (ap (λ o. plus 1 (plus 1 o)) (bad_bare ds x h f))

walked_escape : (c : ℕ) (e : List ℕ) → Shape c e → Walked (92 ∷ e)
walked_escape c e s = subst (λ z. Walked (92 ∷ z)) (sym s.is) (record {
  closes = λ x. close_hidden s.letter s.digits x s.line s.plain;
  fine = λ x f. bad_hidden s.letter s.digits x (ap is_some (ap (λ z. escape (z ++ x)) (sym s.is) ∙ s.stays x)) s.plain
      f;
})

escape_bytes : (c : ℕ) (e w : List ℕ) → Shape c e → encode_utf8_all (92 ∷ e ++ w) ≡ 92 ∷ e ++ encode_utf8_all w
escape_bytes c e w s =
    let low : encode_utf8_all e ≡ e =
    subst (λ z. encode_utf8_all z ≡ z) (sym s.is)
    (ap (λ x. x ++ encode_utf8_all s.digits) (encode_ascii s.letter s.ascii)
    ∙ ap (λ x. s.letter ∷ x) (encode_low s.digits s.low)) in
    ap (λ x. x ++ encode_utf8_all (e ++ w)) (encode_ascii 92 (omega arith))
    ∙ ap (λ x. 92 ∷ x) (encodes-append e w ∙ ap (λ x. x ++ encode_utf8_all w) low)

walked : (w cs : List ℕ) → Writes w cs → Walked (encode_utf8_all w)
walked [] [] nothing = record { closes = λ x. sym (plus_none (close Quotes 0 false x)); fine = λ x e. e }
walked (c ∷ w) (d ∷ cs) (bare b v ds h k) =
    walked_on (encode_utf8 b) (encode_utf8_all v) (walked_bare (encode_utf8 b) (char_bare b h)) (walked v ds k)
walked u us (escaped c e w cs h k) =
    let s = shape c e h in
    subst Walked (sym (escape_bytes c e w s)) (walked_on (92 ∷ e) (encode_utf8_all w) (walked_escape c e s)
    (walked w cs k))

pub take_one : (b : ℕ) (bs : List ℕ) → take 1 (b ∷ bs) ≡ b ∷ []
take_one b [] = refl
take_one b (c ∷ cs) = refl

walked_token : (u r : List ℕ) → Walked u → stands (34 ∷ u ++ 34 ∷ r) ≡ Found K.Text (length u + 2)
unfolding stands
walked_token u r h =
    let t = take-append-add u (34 ∷ r) 1 ∙ ap (λ x. u ++ x) (take_one 34 r) in
    let b : bad false (take (length u + 1) (u ++ 34 ∷ r)) ≡ None = ap (bad false) t ∙ h.fine (34 ∷ []) refl in
    let n : 1 + (length u + 1) ≡ length u + 2 = omega arith in
    ap (by_close K.Text (u ++ 34 ∷ r)) (h.closes (34 ∷ r)) ∙ ap (by_bad K.Text (length u + 1)) b
    ∙ ap (λ x. Found K.Text x) n

read_back : (w cs x : List ℕ) → Writes w cs → decoded 0 (w ++ 34 ∷ x) ≡ cs
read_back [] [] x nothing = decoded_cons 34 x
read_back (a ∷ w) (b ∷ cs) x (bare c v ds h k) =
    let q = bare_quote c h in
    let s = bare_slash c h in
    decoded_cons c (v ++ 34 ∷ x) ∙ rw (q, s) (ap (λ z. c ∷ z) (read_back v ds x k))
read_back u us x (escaped c e w cs h k) =
    let s = shape c e h in
    let y = w ++ 34 ∷ x in
    decoded_cons 92 ((e ++ w) ++ 34 ∷ x)
    ∙ ap (λ z. unescaped (escape z) (λ n. decoded n z)) (append_assoc e w (34 ∷ x))
    ∙ ap (λ o. unescaped o (λ n. decoded n (e ++ y))) (s.stays y)
    ∙ ap (λ z. c ∷ z) (skipped (length e) (e ++ y) ∙ ap (decoded 0) (drop-append_seam e y) ∙ read_back w cs x k)

-- what is written between quotes for some characters stands there as a token, and is read as these characters
pub reads_back : (w cs r : List ℕ) → Writes w cs → ReadsBack w cs r
reads_back w cs r h = record { token = walked_token (encode_utf8_all w) r (walked w cs h); text = read_back w cs [] h }

-- ---- the same by bytes

walked_in : (u : List ℕ) → InText u → Walked u
walked_in [] ending = record { closes = λ x. sym (plus_none (close Quotes 0 false x)); fine = λ x e. e }
walked_in (c ∷ w) (bare_in b u h k) =
    walked_on (b ∷ []) u (walked_bare (b ∷ []) (and_both (is_bare b) true h refl)) (walked_in u k)
walked_in w (escape_in c e u h k) = walked_on (92 ∷ e) u (walked_escape c e (shape c e h)) (walked_in u k)

pub in_text_stands : (u r : List ℕ) → InText u → stands (34 ∷ u ++ 34 ∷ r) ≡ Found K.Text (length u + 2)
in_text_stands u r h = walked_token u r (walked_in u h)
