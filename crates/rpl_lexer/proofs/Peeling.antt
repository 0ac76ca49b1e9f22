-- What a bracket is made of that is closed and whose backslashes begin escapes.
use Rattle.std.proofs.Common.{◌≡◌, inl, inr, ℕ, zero, suc, ◌+◌, ◌-◌, ◌≤◌, List, [], ◌∷◌, ◌++◌, length, drop, Option}
use Rattle.std.proofs.Common.{Some, None, refl, sym, ap, subst, ◌∙◌, arith, append_assoc, length-append}
use Rattle.std.specs.Prelude.{Bool, true, false, ◌&&◌, is_some, nat_eq}
use Rattle.std.proofs.lemmas.Bool.{cases_Bool}
use Rattle.std.proofs.lemmas.Bool.Decides.{nat_tests}
use Rattle.std.specs.List.{list_all}
use Rattle.rpl_text.specs.Escapes.{escape}
use Rattle.rpl_lexer.specs.declared.token.TokenKind.TheVariants as K
use Rattle.rpl_lexer.specs.declared.token.Token.{Token}
use Rattle.rpl_lexer.specs.declared.enclosed.Enclosure.{Enclosure}
use Rattle.rpl_lexer.specs.declared.enclosed.Enclosure.TheVariants.{Brackets}
use Rattle.rpl_lexer.specs.Cut.{IsToken}
use Rattle.rpl_lexer.specs.Enclosed.{plus, opens, closes, close, bad}
use Rattle.rpl_lexer.specs.Forms.{Form}
use Rattle.rpl_lexer.specs.Payloads.{span}
use Rattle.rpl_lexer.specs.Written.{is_inner, InBracket, nothing_in, inner_in, escaped_in, bracket_in, IsBracket}
use Rattle.rpl_lexer.proofs.Longest.{longest}
use Rattle.rpl_lexer.proofs.Quotes.{Shape, shape}
use Rattle.rpl_lexer.proofs.Spans.{left, right}
use Rattle.rpl_lexer.proofs.Escapes.{front, none_escaped}

record AreBrackets (e : Enclosure) : Type 0 where
  opening : (b : ℕ) → opens e b ≡ nat_eq b 91
  closing : (b : ℕ) → closes e b ≡ nat_eq b 93

-- the bytes close the bracket that is open, and d more around it, and end with the last
record Closes (e : Enclosure) (d : ℕ) (w : List ℕ) : Type 0 where
  closed : close e d false w ≡ Some (length w)
  escapes : bad false w ≡ None

-- what is left after the first that is closed
abbrev Left : Enclosure → ℕ → List ℕ → Type 0
Left e zero w = w ≡ []
Left e (suc d) w = Closes e d w

record Peeled (e : Enclosure) (d : ℕ) (w : List ℕ) : Type 0 where
  inner : List ℕ
  rest : List ℕ
  is : w ≡ inner ++ 93 ∷ rest
  written : InBracket inner
  behind : Left e d rest

-- ---- one byte

pub one_less : (o : Option ℕ) (n : ℕ) → plus 1 o ≡ Some (suc n) → o ≡ Some n
one_less None n e = absurd (cc)
one_less (Some m) n e =
    let f : 1 + m ≡ suc n = cc in
    let g : m ≡ n = omega (arith, f) in
    ap (λ x. Some x) g

pub none_less : (o : Option ℕ) → plus 1 o ≡ None → o ≡ None
none_less None e = refl
none_less (Some m) e = absurd (cc)

and_none : (b : Bool) → (b && false) ≡ false
and_none true = refl
and_none false = refl

pub empty : (w : List ℕ) → length w ≡ 0 → w ≡ []
empty [] e = refl
empty (b ∷ w) e = absurd (omega (arith, e))

fine : (b : ℕ) (w : List ℕ) → is_inner b ≡ true → bad false (b ∷ w) ≡ plus 1 (bad false w)
fine b w h = let s : nat_eq b 92 ≡ false = grind (arith, nat_tests) in rw s refl

pub is_escape : (w : List ℕ) → bad false (92 ∷ w) ≡ None → is_some (escape w) ≡ true
is_escape w h = elim (cases_Bool (is_some (escape w))) [
  | inl t ↦ t
  | inr f ↦ let e : ◌≡◌ {A = Option ℕ} (Some 0) None = rw f at h in absurd (cc)
]

pub hidden_fine : (l : ℕ) (w : List ℕ) → is_some (escape (l ∷ w)) ≡ true
    → bad false (92 ∷ l ∷ w) ≡ plus 1 (plus 1 (bad false w))
hidden_fine l w h = rw h refl

pub is_byte : (b c : ℕ) → nat_eq b c ≡ true → b ≡ c
is_byte b c h = grind (arith, nat_tests)

is_other : (b : ℕ) → nat_eq b 10 ≡ false → nat_eq b 92 ≡ false → nat_eq b 91 ≡ false → nat_eq b 93 ≡ false
    → is_inner b ≡ true
is_other b l s o c = rw (l, s, o, c) refl

part_le : (k : ℕ) (u v w : List ℕ) → u ≡ v ++ 93 ∷ w → length u ≤ k → length w ≤ k
part_le k u v w e le = omega (arith, ap length e, length-append v (93 ∷ w))

module _ (e : Enclosure) (are : AreBrackets e) where
  shut_last : (w : List ℕ) → close e 0 false (93 ∷ w) ≡ Some 1
  shut_last w = rw (are.closing 93) refl

  shut_one : (d : ℕ) (w : List ℕ) → close e (suc d) false (93 ∷ w) ≡ plus 1 (close e d false w)
  shut_one d w =
      let z : nat_eq (suc d) 0 ≡ false = grind (arith, nat_tests) in
      let f : suc d - 1 ≡ d = omega arith in
      rw (are.opening 93, are.closing 93, z, f) refl

  behind_close : (d : ℕ) (w : List ℕ) → Closes e d (93 ∷ w) → Left e d w
  behind_close zero w h =
      let f : 1 ≡ suc (length w) = let g = sym (shut_last w) ∙ h.closed in cc in
      empty w (omega (arith, f))
  behind_close (suc d) w h =
      record {
        closed = one_less (close e d false w) (length w) (sym (shut_one d w) ∙ h.closed);
        escapes = none_less (bad false w) h.escapes;
      }

  opened : (d : ℕ) (w : List ℕ) → close e d false (91 ∷ w) ≡ plus 1 (close e (suc d) false w)
  opened d w =
      let f : d + 1 ≡ suc d = omega arith in
      rw (are.opening 91, are.closing 91, and_none (nat_eq d 0), f) refl

  behind_open : (d : ℕ) (w : List ℕ) → Closes e d (91 ∷ w) → Closes e (suc d) w
  behind_open d w h = record {
    closed = one_less (close e (suc d) false w) (length w) (sym (opened d w) ∙ h.closed);
    escapes = none_less (bad false w) h.escapes;
  }

  passed : (d b : ℕ) (w : List ℕ) → is_inner b ≡ true
      → close e d false (b ∷ w) ≡ plus 1 (close e d false w)
  passed d b w h =
      let l : nat_eq b 10 ≡ false = grind (arith, nat_tests) in
      let s : nat_eq b 92 ≡ false = grind (arith, nat_tests) in
      let o : nat_eq b 91 ≡ false = grind (arith, nat_tests) in
      let c : nat_eq b 93 ≡ false = grind (arith, nat_tests) in
      rw (l, are.opening b, are.closing b, c, and_none (nat_eq d 0), o, s) refl

  behind_inner : (d b : ℕ) (w : List ℕ) → is_inner b ≡ true → Closes e d (b ∷ w) → Closes e d w
  behind_inner d b w i h = record {
    closed = one_less (close e d false w) (length w) (sym (passed d b w i) ∙ h.closed);
    escapes = none_less (bad false w) (sym (fine b w i) ∙ h.escapes);
  }

  -- ---- an escape

  behind_all : (d : ℕ) (ds w : List ℕ) → list_all is_inner ds ≡ true → Closes e d (ds ++ w) → Closes e d w
  behind_all d [] w i h = h
  behind_all d (b ∷ ds) w i h =
      behind_all d ds w (right (is_inner b) (list_all is_inner ds) i)
      (behind_inner d b (ds ++ w) (left (is_inner b) (list_all is_inner ds) i) h)

  hidden : (d l : ℕ) (w : List ℕ) → nat_eq l 10 ≡ false
      → close e d false (92 ∷ l ∷ w) ≡ plus 1 (plus 1 (close e d false w))
  hidden d l w h = rw (are.opening 92, are.closing 92, and_none (nat_eq d 0), h) refl

  behind_hidden : (d l : ℕ) (w : List ℕ) → nat_eq l 10 ≡ false → is_some (escape (l ∷ w)) ≡ true
      → Closes e d (92 ∷ l ∷ w) → Closes e d w
  behind_hidden d l w n s h = record {
    closed =
        one_less (close e d false w) (length w)
        (one_less (plus 1 (close e d false w)) (suc (length w)) (sym (hidden d l w n) ∙ h.closed));
    escapes = none_less (bad false w) (none_less (plus 1 (bad false w)) (sym (hidden_fine l w s) ∙ h.escapes));
  }

  behind_escape : (d c : ℕ) (x w : List ℕ) → Shape c x → Closes e d (92 ∷ x ++ w) → Closes e d w
  behind_escape d c x w s h =
      let front = ap (λ y. y ++ w) s.is in
      let some = ap is_some (ap escape (sym front) ∙ s.stays w) in
      behind_all d s.digits w s.inner
      (behind_hidden d s.letter (s.digits ++ w) s.line some (subst (λ x. Closes e d (92 ∷ x)) front h))

  -- ---- all bytes up to the first that closes

  peeled_escape : (d c : ℕ) (x w : List ℕ) → escape x ≡ Some (c, length x) → Peeled e d w → Peeled e d (92 ∷ x ++ w)
  peeled_escape d c x w m p = record {
    inner = 92 ∷ x ++ p.inner;
    rest = p.rest;
    is = ap (λ y. 92 ∷ x ++ y) p.is ∙ ap (λ y. 92 ∷ y) (sym (append_assoc x p.inner (93 ∷ p.rest)));
    written = escaped_in c x p.inner m p.written;
    behind = p.behind;
  }

  peeled_inner : (d b : ℕ) (w : List ℕ) → is_inner b ≡ true → Peeled e d w → Peeled e d (b ∷ w)
  peeled_inner d b w i p = record {
    inner = b ∷ p.inner;
    rest = p.rest;
    is = ap (λ x. b ∷ x) p.is;
    written = inner_in b p.inner i p.written;
    behind = p.behind;
  }

  peeled_bracket : (d : ℕ) (v u w : List ℕ) → InBracket v → u ≡ v ++ 93 ∷ w → Peeled e d w → Peeled e d (91 ∷ u)
  peeled_bracket d v u w i is p = record {
    inner = 91 ∷ v ++ 93 ∷ p.inner;
    rest = p.rest;
    is =
        ap (λ x. 91 ∷ x) (is ∙ ap (λ x. v ++ 93 ∷ x) p.is)
        ∙ ap (λ x. 91 ∷ x) (sym (append_assoc v (93 ∷ p.inner) (93 ∷ p.rest)));
    written = bracket_in v p.inner i p.written;
    behind = p.behind;
  }

  no_line : (d : ℕ) (w : List ℕ) → Closes e d (10 ∷ w) → ⊥
  no_line d w h = let f = h.closed in absurd (cc)

  peeled_close : (d : ℕ) (w : List ℕ) → Closes e d (93 ∷ w) → Peeled e d (93 ∷ w)
  peeled_close d w h = record {
    inner = [];
    rest = w;
    is = refl;
    written = nothing_in;
    behind = behind_close d w h;
  }

  -- what is peeled of up to k bytes
  abbrev Peels : ℕ → Type 0
  Peels k = (d : ℕ) (w : List ℕ) → length w ≤ k → Closes e d w → Peeled e d w

  peel_open : (k d : ℕ) (w : List ℕ) → Peels k → length w ≤ k → Closes e d (91 ∷ w) → Peeled e d (91 ∷ w)
  peel_open k d w go le h =
      let p = go (suc d) w le (behind_open d w h) in
      peeled_bracket d p.inner w p.rest p.written p.is (go d p.rest (part_le k w p.inner p.rest p.is le) p.behind)

  peel_escape : (k d : ℕ) (w : List ℕ) → Peels k → length w ≤ k → Closes e d (92 ∷ w) → Peeled e d (92 ∷ w)
  peel_escape k d [] go le h = none_escaped (is_escape [] h.escapes)
  peel_escape k d (l ∷ w) go le h =
      let f = front l w (is_escape (l ∷ w) h.escapes) in
      let here = subst (λ x. Closes e d (92 ∷ x)) f.is h in
      let less : length f.behind ≤ k = omega (arith, ap length f.is, length-append f.escaped f.behind) in
      let behind = behind_escape d f.char f.escaped f.behind (shape f.char f.escaped f.means) here in
      subst (λ x. Peeled e d (92 ∷ x)) (sym f.is)
      (peeled_escape d f.char f.escaped f.behind f.means (go d f.behind less behind))

  peel : (k d : ℕ) (w : List ℕ) → length w ≤ k → Closes e d w → Peeled e d w
  peel k d [] le h = let f = h.closed in absurd (cc)
  peel zero d (b ∷ w) le h = absurd (omega arith)
  peel (suc k) d (b ∷ w) le h = elim (cases_Bool (nat_eq b 10)) [
    | inl l ↦ absurd (no_line d w (here b 10 l h))
    | inr l ↦ elim (cases_Bool (nat_eq b 92)) [
      | inl s ↦ there b 92 s (peel_escape k d w (peel k) (omega arith) (here b 92 s h))
      | inr s ↦ elim (cases_Bool (nat_eq b 91)) [
        | inl o ↦ there b 91 o (peel_open k d w (peel k) (omega arith) (here b 91 o h))
        | inr o ↦ elim (cases_Bool (nat_eq b 93)) [
          | inl c ↦ there b 93 c (peeled_close d w (here b 93 c h))
          | inr c ↦
              let i = is_other b l s o c in
              peeled_inner d b w i (peel k d w (omega arith) (behind_inner d b w i h))
        ]
      ]
    ]
  ]
    where
      here : (b c : ℕ) → nat_eq b c ≡ true → Closes e d (b ∷ w) → Closes e d (c ∷ w)
      here b c t h = subst (λ x. Closes e d (x ∷ w)) (is_byte b c t) h

      there : (b c : ℕ) → nat_eq b c ≡ true → Peeled e d (c ∷ w) → Peeled e d (b ∷ w)
      there b c t p = subst (λ x. Peeled e d (x ∷ w)) (sym (is_byte b c t)) p

  made : (w rest : List ℕ) → w ≡ 91 ∷ rest → Closes e 0 rest → IsBracket w
  made w rest is h =
      let p = peel (length rest) 0 rest (omega arith) h in
      record {
        inner = p.inner;
        is = is ∙ ap (λ x. 91 ∷ x) (p.is ∙ ap (λ x. p.inner ++ 93 ∷ x) p.behind);
        written = p.written;
      }

-- ---- a token

pub bracket_form : (w : List ℕ) → Form K.Bracket w → IsBracket w
bracket_form w form =
    made Brackets (record { opening = λ b. refl; closing = λ b. refl }) w form.rest form.is
    (record { closed = form.closed; escapes = form.escapes })

pub bracket_written : (s : List ℕ) (t : Token) → t.kind ≡ K.Bracket → IsToken s t → IsBracket (span s t)
bracket_written s t is token =
    let fits = (longest (drop t.start s) t.kind (t.end - t.start) token.stands).fits in
    bracket_form (span s t) (subst (λ k. Form k (span s t)) is fits.form)
