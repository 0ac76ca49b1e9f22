-- What a text is made of that is closed and whose backslashes begin escapes.
use Rattle.std.proofs.Common.{◌≡◌, inl, inr, ℕ, zero, suc, ◌≤◌, List, [], ◌∷◌, ◌++◌, length, drop, Some, None}
use Rattle.std.proofs.Common.{refl, sym, ap, subst, ◌∙◌, arith, append_assoc, length-append}
use Rattle.std.specs.Prelude.{true, false, ◌-◌, is_some, nat_eq}
use Rattle.std.proofs.lemmas.Bool.{cases_Bool}
use Rattle.std.proofs.lemmas.Bool.Decides.{nat_tests}
use Rattle.std.specs.List.{list_all}
use Rattle.rpl_text.specs.Escapes.{escape}
use Rattle.rpl_lexer.specs.declared.token.TokenKind.TheVariants as K
use Rattle.rpl_lexer.specs.declared.token.Token.{Token}
use Rattle.rpl_lexer.specs.declared.enclosed.Enclosure.{Enclosure}
use Rattle.rpl_lexer.specs.declared.enclosed.Enclosure.TheVariants.{Quotes}
use Rattle.rpl_lexer.specs.Cut.{IsToken}
use Rattle.rpl_lexer.specs.Enclosed.{plus, opens, closes, close, bad}
use Rattle.rpl_lexer.specs.Forms.{Form}
use Rattle.rpl_lexer.specs.Payloads.{span}
use Rattle.rpl_lexer.proofs.Longest.{longest}
use Rattle.rpl_lexer.proofs.Quotes.{Shape, shape}
use Rattle.rpl_lexer.proofs.Spans.{left, right}
use Rattle.rpl_lexer.proofs.Escapes.{front, none_escaped}
use Rattle.rpl_lexer.proofs.Peeling.{empty, hidden_fine, is_byte, is_escape, none_less, one_less}
use Rattle.rpl_lexer.specs.Written.{is_bare, InText, IsText, bare_in, ending, escape_in}

record AreQuotes (e : Enclosure) : Type 0 where
  opening : (b : ℕ) → opens e b ≡ false
  closing : (b : ℕ) → closes e b ≡ nat_eq b 34

-- what stands in a text, and its last quote
record Ends (w : List ℕ) : Type 0 where
  inner : List ℕ
  is : w ≡ inner ++ 34 ∷ []
  written : InText inner

fine : (b : ℕ) (w : List ℕ) → is_bare b ≡ true → bad false (b ∷ w) ≡ plus 1 (bad false w)
fine b w h = let s : nat_eq b 92 ≡ false = grind (arith, nat_tests) in rw s refl

is_other : (b : ℕ) → nat_eq b 10 ≡ false → nat_eq b 92 ≡ false → nat_eq b 34 ≡ false → is_bare b ≡ true
is_other b l s q = rw (l, s, q) refl

module _ (e : Enclosure) (are : AreQuotes e) where
  -- the bytes close the text, and end with the quote
  record Closes (w : List ℕ) : Type 0 where
    closed : close e 0 false w ≡ Some (length w)
    escapes : bad false w ≡ None

  passed : (b : ℕ) (w : List ℕ) → is_bare b ≡ true → close e 0 false (b ∷ w) ≡ plus 1 (close e 0 false w)
  passed b w h =
      let l : nat_eq b 10 ≡ false = grind (arith, nat_tests) in
      let s : nat_eq b 92 ≡ false = grind (arith, nat_tests) in
      let q : nat_eq b 34 ≡ false = grind (arith, nat_tests) in
      rw (l, are.opening b, are.closing b, q, s) refl

  behind_bare : (b : ℕ) (w : List ℕ) → is_bare b ≡ true → Closes (b ∷ w) → Closes w
  behind_bare b w i h = record {
    closed = one_less (close e 0 false w) (length w) (sym (passed b w i) ∙ h.closed);
    escapes = none_less (bad false w) (sym (fine b w i) ∙ h.escapes);
  }

  behind_all : (ds w : List ℕ) → list_all is_bare ds ≡ true → Closes (ds ++ w) → Closes w
  behind_all [] w i h = h
  behind_all (b ∷ ds) w i h =
      behind_all ds w (right (is_bare b) (list_all is_bare ds) i)
      (behind_bare b (ds ++ w) (left (is_bare b) (list_all is_bare ds) i) h)

  hidden : (l : ℕ) (w : List ℕ) → nat_eq l 10 ≡ false
      → close e 0 false (92 ∷ l ∷ w) ≡ plus 1 (plus 1 (close e 0 false w))
  hidden l w h = rw (are.opening 92, are.closing 92, h) refl

  behind_hidden : (l : ℕ) (w : List ℕ) → nat_eq l 10 ≡ false → is_some (escape (l ∷ w)) ≡ true → Closes (92 ∷ l ∷ w)
      → Closes w
  behind_hidden l w n s h = record {
    closed =
        one_less (close e 0 false w) (length w)
        (one_less (plus 1 (close e 0 false w)) (suc (length w)) (sym (hidden l w n) ∙ h.closed));
    escapes = none_less (bad false w) (none_less (plus 1 (bad false w)) (sym (hidden_fine l w s) ∙ h.escapes));
  }

  behind_escape : (c : ℕ) (x w : List ℕ) → Shape c x → Closes (92 ∷ x ++ w) → Closes w
  behind_escape c x w s h =
      let front = ap (λ y. y ++ w) s.is in
      let some = ap is_some (ap escape (sym front) ∙ s.stays w) in
      behind_all s.digits w s.plain
      (behind_hidden s.letter (s.digits ++ w) s.line some (subst (λ x. Closes (92 ∷ x)) front h))

  -- ---- all bytes up to the quote

  with_bare : (b : ℕ) (w : List ℕ) → is_bare b ≡ true → Ends w → Ends (b ∷ w)
  with_bare b w i p = record {
    inner = b ∷ p.inner;
    is = ap (λ x. b ∷ x) p.is;
    written = bare_in b p.inner i p.written;
  }

  with_escape : (c : ℕ) (x w : List ℕ) → escape x ≡ Some (c, length x) → Ends w → Ends (92 ∷ x ++ w)
  with_escape c x w m p = record {
    inner = 92 ∷ x ++ p.inner;
    is = ap (λ y. 92 ∷ x ++ y) p.is ∙ ap (λ y. 92 ∷ y) (sym (append_assoc x p.inner (34 ∷ [])));
    written = escape_in c x p.inner m p.written;
  }

  no_line : (w : List ℕ) → Closes (10 ∷ w) → ⊥
  no_line w h = let f = h.closed in absurd (cc)

  shut : (w : List ℕ) → close e 0 false (34 ∷ w) ≡ Some 1
  shut w = rw (are.closing 34) refl

  at_quote : (w : List ℕ) → Closes (34 ∷ w) → Ends (34 ∷ w)
  at_quote w h =
      let f : 1 ≡ suc (length w) = let g = sym (shut w) ∙ h.closed in cc in
      record { inner = []; is = ap (λ x. 34 ∷ x) (empty w (omega (arith, f))); written = ending }

  abbrev Peels : ℕ → Type 0
  Peels k = (w : List ℕ) → length w ≤ k → Closes w → Ends w

  peel_escape : (k : ℕ) (w : List ℕ) → Peels k → length w ≤ k → Closes (92 ∷ w) → Ends (92 ∷ w)
  peel_escape k [] go le h = none_escaped (is_escape [] h.escapes)
  peel_escape k (l ∷ w) go le h =
      let f = front l w (is_escape (l ∷ w) h.escapes) in
      let here = subst (λ x. Closes (92 ∷ x)) f.is h in
      let less : length f.behind ≤ k = omega (arith, ap length f.is, length-append f.escaped f.behind) in
      let behind = behind_escape f.char f.escaped f.behind (shape f.char f.escaped f.means) here in
      subst (λ x. Ends (92 ∷ x)) (sym f.is) (with_escape f.char f.escaped f.behind f.means (go f.behind less behind))

  peel : (k : ℕ) (w : List ℕ) → length w ≤ k → Closes w → Ends w
  peel k [] le h = let f = h.closed in absurd (cc)
  peel zero (b ∷ w) le h = absurd (omega arith)
  peel (suc k) (b ∷ w) le h = elim (cases_Bool (nat_eq b 10)) [
    | inl l ↦ absurd (no_line w (here b 10 l h))
    | inr l ↦ elim (cases_Bool (nat_eq b 92)) [
      | inl s ↦ there b 92 s (peel_escape k w (peel k) (omega arith) (here b 92 s h))
      | inr s ↦ elim (cases_Bool (nat_eq b 34)) [
        | inl q ↦ there b 34 q (at_quote w (here b 34 q h))
        | inr q ↦
            let i = is_other b l s q in
            with_bare b w i (peel k w (omega arith) (behind_bare b w i h))
      ]
    ]
  ]
    where
      here : (b c : ℕ) → nat_eq b c ≡ true → Closes (b ∷ w) → Closes (c ∷ w)
      here b c t h = subst (λ x. Closes (x ∷ w)) (is_byte b c t) h

      there : (b c : ℕ) → nat_eq b c ≡ true → Ends (c ∷ w) → Ends (b ∷ w)
      there b c t p = subst (λ x. Ends (x ∷ w)) (sym (is_byte b c t)) p

  made : (w rest : List ℕ) → w ≡ 34 ∷ rest → Closes rest → IsText w
  made w rest is h =
      let p = peel (length rest) rest (omega arith) h in
      record { inner = p.inner; is = is ∙ ap (λ x. 34 ∷ x) p.is; written = p.written }

-- ---- a token

pub text_form : (w : List ℕ) → Form K.Text w → IsText w
text_form w form =
    made Quotes (record { opening = λ b. refl; closing = λ b. refl }) w form.rest form.is
    (record { closed = form.closed; escapes = form.escapes })

pub text_written : (s : List ℕ) (t : Token) → t.kind ≡ K.Text → IsToken s t → IsText (span s t)
text_written s t is token =
    let fits = (longest (drop t.start s) t.kind (t.end - t.start) token.stands).fits in
    text_form (span s t) (subst (λ k. Form k (span s t)) is fits.form)
