-- What bounds are made of that close after their parts.
use Rattle.std.proofs.Common.{◌≡◌, inl, inr, ℕ, zero, suc, ◌+◌, ◌<◌, List, [], ◌∷◌, ◌++◌, length, take, drop, refl, sym}
use Rattle.std.proofs.Common.{ap}
use Rattle.std.proofs.Common.{subst, ◌∙◌, arith, append_assoc, drop-drop, length-drop, take-append-drop}
use Rattle.std.specs.Prelude.{Bool, true, false, ◌-◌, ◌||◌, nat_eq}
use Rattle.std.proofs.lemmas.Bool.{cases_Bool}
use Rattle.std.specs.List.{list_all}
use Rattle.rpl_text.specs.Ascii.{is_digit}
use Rattle.rpl_lexer.specs.declared.token.TokenKind.TheVariants as K
use Rattle.rpl_lexer.specs.declared.token.Token.{Token}
use Rattle.rpl_lexer.specs.Braces.{begins_bounds, digits_from, parts_by}
use Rattle.rpl_lexer.specs.Bytes.{begins, has, is_space, past, run}
use Rattle.rpl_lexer.specs.Cut.{IsToken}
use Rattle.rpl_lexer.specs.Forms.{AreBounds, Form}
use Rattle.rpl_lexer.specs.Payloads.{span}
use Rattle.rpl_lexer.proofs.Longest.{longest}
use Rattle.rpl_lexer.proofs.Spans.{drop_zero, run_stops}
use Rattle.rpl_lexer.proofs.Peeling.{empty, is_byte}
use Rattle.rpl_lexer.specs.Written.{InBounds, IsBounds, one_number, with_comma}

-- ---- a run, and what is after it

abbrev piece : (ℕ → Bool) → List ℕ → ℕ → List ℕ
piece p s i = take (run p (drop i s)) (drop i s)

passes : (p : ℕ → Bool) (s : List ℕ) → list_all p (take (run p s) s) ≡ true
passes p [] = refl
passes p (b ∷ bs) = elim (cases_Bool (p b)) [ inl t ↦ rw (t, t, passes p bs) refl | inr f ↦ rw f refl ]

split : (p : ℕ → Bool) (s : List ℕ) (i : ℕ) → drop i s ≡ piece p s i ++ drop (past p s i) s
split p s i =
    let r = drop i s in
    sym (take-append-drop (run p r) r) ∙ ap (λ x. piece p s i ++ x) (drop-drop (run p r) i s)

-- a byte that stands at a place, and what is after it
at_byte : (s : List ℕ) (i b : ℕ) → has s i b ≡ true → drop i s ≡ b ∷ drop (i + 1) s
at_byte [] i b h = absurd (cc)
at_byte (x ∷ s) zero b h =
    let n : suc zero ≡ zero + 1 = omega arith in
    ap (λ y. y ∷ s) (is_byte x b h) ∙ ap (λ y. b ∷ y) (sym (drop_zero s)) ∙ ap (λ k. b ∷ drop k (x ∷ s)) n
at_byte (x ∷ s) (suc i) b h =
    let n : suc (i + 1) ≡ suc i + 1 = omega arith in at_byte s i b h ∙ ap (λ k. b ∷ drop k (x ∷ s)) n

-- the first number, with the blanks around it
first : (s : List ℕ) (i j k : ℕ) → i ≡ past is_space s 0 → j ≡ past is_digit s i → k ≡ past is_space s j
    → s ≡ piece is_space s 0 ++ (piece is_digit s i ++ (piece is_space s j ++ drop k s))
first s i j k e f g =
    sym (drop_zero s) ∙ split is_space s 0 ∙ ap (λ x. piece is_space s 0 ++ drop x s) (sym e)
    ∙ ap (λ x. piece is_space s 0 ++ x)
    (split is_digit s i ∙ ap (λ x. piece is_digit s i ++ drop x s) (sym f)
    ∙ ap (λ x. piece is_digit s i ++ x) (split is_space s j ∙ ap (λ x. piece is_space s j ++ drop x s) (sym g)))

-- the number after a comma
second : (s : List ℕ) (c i j k : ℕ) → i ≡ past is_space s c → j ≡ past is_digit s i → k ≡ past is_space s j
    → drop c s ≡ piece is_space s c ++ (piece is_digit s i ++ (piece is_space s j ++ drop k s))
second s c i j k e f g =
    split is_space s c ∙ ap (λ x. piece is_space s c ++ drop x s) (sym e)
    ∙ ap (λ x. piece is_space s c ++ x)
    (split is_digit s i ∙ ap (λ x. piece is_digit s i ++ drop x s) (sym f)
    ∙ ap (λ x. piece is_digit s i ++ x) (split is_space s j ∙ ap (λ x. piece is_space s j ++ drop x s) (sym g)))

-- the brace is the last byte
last : (s : List ℕ) (k : ℕ) → has s k 125 ≡ true → length s ≡ k + 1 → drop k s ≡ 125 ∷ []
last s k h long =
    at_byte s k 125 h ∙ ap (λ x. 125 ∷ x) (empty (drop (k + 1) s) (omega (arith, length-drop (k + 1) s, long)))

-- ---- a number stands there where no comma does

no_run : (p : ℕ → Bool) (s : List ℕ) → begins p s ≡ false → run p s ≡ 0
no_run p [] h = refl
no_run p (b ∷ bs) h = rw h refl

byte_there : (s : List ℕ) (i c : ℕ) → begins (λ b. nat_eq b c) (drop i s) ≡ true → has s i c ≡ true
byte_there [] zero c h = absurd (cc)
byte_there [] (suc i) c h = absurd (cc)
byte_there (x ∷ s) zero c h = h
byte_there (x ∷ s) (suc i) c h = byte_there s i c h

either_there : (p q : ℕ → Bool) (s : List ℕ) → begins (λ b. p b || q b) s ≡ true → begins p s ≡ false
    → begins q s ≡ true
either_there p q [] h f = absurd (cc)
either_there p q (b ∷ bs) h f = rw f at h

-- where no digit stands after the blanks, a comma does
comma_there : (s : List ℕ) → begins_bounds s ≡ true → begins is_digit (drop (past is_space s 0) s) ≡ false
    → has s (past is_space s (past is_digit s (past is_space s 0))) 44 ≡ true
comma_there s g f =
    let i = past is_space s 0 in
    let r = drop i s in
    let j : past is_digit s i ≡ i = let z = no_run is_digit r f in omega (arith, z) in
    let blanks : begins is_space r ≡ false =
    ap (begins is_space) (sym (drop-drop (run is_space (drop 0 s)) 0 s)) ∙ run_stops is_space (drop 0 s) in
    let k : past is_space s i ≡ i = let z = no_run is_space r blanks in omega (arith, z) in
    let here = byte_there s i 44 (either_there is_digit (λ b. nat_eq b 44) r g f) in
    ap (λ x. has s (past is_space s x) 44) j ∙ ap (λ x. has s x 44) k ∙ here

some_run : (p : ℕ → Bool) (s : List ℕ) → begins p s ≡ true → 0 < length (take (run p s) s)
some_run p [] h = absurd (cc)
some_run p (b ∷ bs) h = rw h (omega arith)

no_both : {P : Type 0} (b : Bool) → b ≡ true → b ≡ false → P
no_both b t f = absurd (cc)

-- ---- the parts

module _ (s : List ℕ) (begun : begins_bounds s ≡ true) where
  abbrev i : ℕ
  i = past is_space s 0

  abbrev j : ℕ
  j = past is_digit s i

  abbrev c : ℕ
  c = past is_space s j

  -- the parts up to the closing brace
  record Made : Type 0 where
    inner : List ℕ
    is : s ≡ inner ++ 125 ∷ []
    written : InBounds inner

  joined : (a d b t : List ℕ) → a ++ (d ++ (b ++ t)) ≡ (a ++ d ++ b) ++ t
  joined a d b t = sym (append_assoc (a ++ d) b t ∙ append_assoc a d (b ++ t))

  plain : has s c 44 ≡ false → has s c 125 ≡ true → length s ≡ c + 1 → Made
  plain none shut long =
      let a = piece is_space s 0 in
      let d = piece is_digit s i in
      let b = piece is_space s j in
      let digit : begins is_digit (drop i s) ≡ true = elim (cases_Bool (begins is_digit (drop i s))) [
        | inl t ↦ t
        | inr f ↦ no_both (has s c 44) (comma_there s begun f) none
      ] in
      record {
        inner = a ++ d ++ b;
        is = first s i j c refl refl refl ∙ ap (λ x. a ++ (d ++ (b ++ x))) (last s c shut long)
            ∙ joined a d b (125 ∷ []);
        written =
            one_number a d b (passes is_space (drop 0 s)) (passes is_digit (drop i s))
            (some_run is_digit (drop i s) digit)
            (passes is_space (drop j s));
      }

  abbrev from : ℕ
  from = past is_space s (c + 1)

  abbrev to : ℕ
  to = past is_digit s from

  abbrev end : ℕ
  end = past is_space s to

  comma : has s c 44 ≡ true → has s end 125 ≡ true → length s ≡ end + 1 → Made
  comma there shut long =
      let a = piece is_space s 0 in
      let d = piece is_digit s i in
      let b = piece is_space s j in
      let x = piece is_space s (c + 1) in
      let y = piece is_digit s from in
      let z = piece is_space s to in
      let rest = second s (c + 1) from to end refl refl refl ∙ ap (λ t. x ++ (y ++ (z ++ t))) (last s end shut long) in
      record {
        inner = a ++ d ++ b ++ 44 ∷ x ++ y ++ z;
        is =
            first s i j c refl refl refl ∙ ap (λ t. a ++ (d ++ (b ++ t))) (at_byte s c 44 there ∙ ap (λ t. 44 ∷ t) rest)
            ∙ joined a d b (44 ∷ x ++ (y ++ (z ++ 125 ∷ []))) ∙ joined (a ++ d ++ b) (44 ∷ x) y (z ++ 125 ∷ [])
            ∙ sym (append_assoc (a ++ d ++ b ++ 44 ∷ x ++ y) z (125 ∷ []));
        written = with_comma a d b x y z (passes is_space (drop 0 s)) (passes is_digit (drop i s))
            (passes is_space (drop j s)) (passes is_space (drop (c + 1) s)) (passes is_digit (drop from s))
            (passes is_space (drop to s));
      }

  parted : (t : Bool) → has s c 44 ≡ t → has s (parts_by s (digits_from s 0) c t).close 125 ≡ true
      → length s ≡ (parts_by s (digits_from s 0) c t).close + 1 → Made
  parted false e shut long = plain e shut long
  parted true e shut long = comma e shut long

pub bounds_form : (w : List ℕ) → AreBounds w → IsBounds w
bounds_form w h =
    let m = parted h.rest h.begun (has h.rest (c h.rest h.begun) 44) refl h.closed h.whole in
    record { inner = m.inner; is = h.is ∙ ap (λ x. 123 ∷ x) m.is; written = m.written }

pub bounds_written : (s : List ℕ) (t : Token) → t.kind ≡ K.Bounds → IsToken s t → IsBounds (span s t)
bounds_written s t is token =
    let fits = (longest (drop t.start s) t.kind (t.end - t.start) token.stands).fits in
    bounds_form (span s t) (subst (λ k. Form k (span s t)) is fits.form)
