-- Walks over blanks and over names.
use Rattle.std.proofs.Common.{◌≡◌, ℕ, zero, suc, ◌+◌, ◌-◌, ◌<◌, ◌≤◌, List, [], ◌∷◌, ◌++◌, length, take, drop, get_or}
use Rattle.std.proofs.Common.{Some, refl, sym, ap, ◌∙◌, arith, append_assoc, append-nil, length-drop}
use Rattle.std.specs.Prelude.{Bool, true, false, if◌then◌else◌, slice_get, slice_range, chars, IsUtf8}
use Rattle.std.proofs.lemmas.List.{take_more, get_or-drop}
use Rattle.rpl_text.specs.Places.{index, IsPlace}
use Rattle.rpl_text.proofs.Walks.{at_le, at_end, get_below}
use Rattle.rpl_classes.specs.Symbols.{Placed, symbols_from, is_blank, past_blanks}
use Rattle.rpl_classes.specs.Lists.{char_of}
use Rattle.rpl_classes.specs.Brackets.{is_word, word, past_word}
use Rattle.rpl_classes.specs.inside.Scanned.{behind, GoesOn, Scanned}
use Rattle.rpl_classes.specs.declared.symbols.Symbol.{Symbol}
use Rattle.rpl_classes.specs.declared.symbols.Symbol.TheVariants.{Plain, Escaped, End}

-- the symbol x is at the place p, and the others begin at q
pub record Taken (t : List ℕ) (p : ℕ) (x : Symbol) (q : ℕ) : Type 0 where
  pub symbols : symbols_from t p ≡ (p, x) ∷ symbols_from t q
  pub next : IsPlace t q
  pub forward : p < q

-- a symbol that passes a test that the end doesn't
pub taken : (t : List ℕ) (p q : ℕ) (x : Symbol) (f : Symbol → Bool) → f End ≡ false → f x ≡ true → Scanned t p x q
    → Taken t p x q
taken t p q (Plain c) f e h s = record { symbols = s.symbols; next = s.next; forward = s.forward.0 }
taken t p q (Escaped c) f e h s = record { symbols = s.symbols; next = s.next; forward = s.forward }
taken t p q End f e h s = absurd (let g = sym e ∙ h in cc)

pub place_le : (bs : List ℕ) (p : ℕ) → IsUtf8 bs → IsPlace (chars bs) p → p ≤ length bs
place_le bs p u h = omega (arith, at_le (chars bs) (index (chars bs) p), at_end bs u)

pub past_blanks_cons : (x : Placed) (s : List Placed) → past_blanks (x ∷ s) ≡ (if is_blank x.1 then past_blanks s
    else x ∷ s)
unfolding past_blanks
past_blanks_cons x s = refl

pub blanks_taken : (t : List ℕ) (p q : ℕ) (x : Symbol) → is_blank x ≡ true → Taken t p x q
    → past_blanks (symbols_from t p) ≡ past_blanks (symbols_from t q)
blanks_taken t p q x b s =
    ap past_blanks s.symbols ∙ past_blanks_cons (p, x) (symbols_from t q)
    ∙ ap (λ c. if c then past_blanks (symbols_from t q) else (p, x) ∷ symbols_from t q) b

pub blanks_stop : (t : List ℕ) (p q : ℕ) (x : Symbol) → is_blank x ≡ false → Scanned t p x q
    → past_blanks (symbols_from t p) ≡ symbols_from t p
blanks_stop t p q x b s =
    ap past_blanks s.symbols ∙ past_blanks_cons (p, x) (behind t x q)
    ∙ ap (λ c. if c then past_blanks (behind t x q) else (p, x) ∷ behind t x q) b ∙ sym s.symbols

pub word_cons : (x : Placed) (s : List Placed) → word (x ∷ s) ≡ (if is_word x.1 then char_of x.1 ∷ word s else [])
unfolding word
word_cons x s = refl

pub past_word_cons : (x : Placed) (s : List Placed) → past_word (x ∷ s) ≡ (if is_word x.1 then past_word s else x ∷ s)
unfolding past_word
past_word_cons x s = refl

pub past_word_taken : (t : List ℕ) (p q : ℕ) (x : Symbol) → is_word x ≡ true → Taken t p x q
    → past_word (symbols_from t p) ≡ past_word (symbols_from t q)
past_word_taken t p q x b s =
    ap past_word s.symbols ∙ past_word_cons (p, x) (symbols_from t q)
    ∙ ap (λ c. if c then past_word (symbols_from t q) else (p, x) ∷ symbols_from t q) b

pub past_word_stop : (t : List ℕ) (p q : ℕ) (x : Symbol) → is_word x ≡ false → Scanned t p x q
    → past_word (symbols_from t p) ≡ symbols_from t p
past_word_stop t p q x b s =
    ap past_word s.symbols ∙ past_word_cons (p, x) (behind t x q)
    ∙ ap (λ c. if c then past_word (behind t x q) else (p, x) ∷ behind t x q) b ∙ sym s.symbols

-- a symbol of a name is the text's character
pub word_char : (t : List ℕ) (p q : ℕ) (x : Symbol) → is_word x ≡ true → GoesOn t x p q
    → (slice_get t (index t p) ≡ Some (char_of x)) × (index t q ≡ index t p + 1)
word_char t p q (Plain c) h g = (g.1, g.2)
word_char t p q (Escaped c) h g = absurd (cc)
word_char t p q End h g = absurd (cc)

get_read : (t : List ℕ) (j c : ℕ) → slice_get t j ≡ Some c → get_or t j 0 ≡ c
get_read [] j c e = absurd (cc)
get_read (d ∷ cs) zero c e = cc
get_read (d ∷ cs) (suc j) c e = get_read cs j c e

slice_more : (t : List ℕ) (a j c : ℕ) → a ≤ j → slice_get t j ≡ Some c
    → slice_range t a (j + 1) ≡ slice_range t a j ++ c ∷ []
slice_more t a j c le g =
    let b = get_below t j c g in
    let n : j + 1 - a ≡ j - a + 1 = omega arith in
    let m : a + (j - a) ≡ j = omega arith in
    ap (λ k. take k (drop a t)) n ∙ take_more (drop a t) (j - a) 0 (omega (arith, length-drop a t))
    ∙ ap (λ x. take (j - a) (drop a t) ++ x ∷ []) (get_or-drop a t (j - a) 0 ∙ ap (λ k. get_or t k 0) m
    ∙ get_read t j c g)

pub word_taken : (t : List ℕ) (o p q : ℕ) (x : Symbol) → is_word x ≡ true → index t o ≤ index t p → Scanned t p x q
    → Taken t p x q
    → word (symbols_from t o) ≡ slice_range t (index t o) (index t p) ++ word (symbols_from t p)
    → word (symbols_from t o) ≡ slice_range t (index t o) (index t q) ++ word (symbols_from t q)
word_taken t o p q x h le s k e =
    let w = word_char t p q x h s.forward in
    e ∙ ap (λ y. slice_range t (index t o) (index t p) ++ y)
    (ap word k.symbols ∙ word_cons (p, x) (symbols_from t q)
    ∙ ap (λ b. if b then char_of x ∷ word (symbols_from t q) else []) h)
    ∙ sym (append_assoc (slice_range t (index t o) (index t p)) (char_of x ∷ []) (word (symbols_from t q)))
    ∙ ap (λ y. y ++ word (symbols_from t q)) (sym (ap (slice_range t (index t o)) w.1
    ∙ slice_more t (index t o) (index t p) (char_of x) le w.0))

pub word_stop : (t : List ℕ) (o p q : ℕ) (x : Symbol) → is_word x ≡ false → Scanned t p x q
    → word (symbols_from t o) ≡ slice_range t (index t o) (index t p) ++ word (symbols_from t p)
    → word (symbols_from t o) ≡ slice_range t (index t o) (index t p)
word_stop t o p q x h s e =
    e ∙ ap (λ y. slice_range t (index t o) (index t p) ++ y)
    (ap word s.symbols ∙ word_cons (p, x) (behind t x q)
    ∙ ap (λ b. if b then char_of x ∷ word (behind t x q) else []) h)
    ∙ append-nil (slice_range t (index t o) (index t p))

slice_none : (t : List ℕ) (a : ℕ) → slice_range t a a ≡ []
slice_none t a = let n : a - a ≡ 0 = omega arith in ap (λ k. take k (drop a t)) n

pub word_start : (t : List ℕ) (p : ℕ) → word (symbols_from t p) ≡ slice_range t (index t p) (index t p)
    ++ word (symbols_from t p)
word_start t p = ap (λ y. y ++ word (symbols_from t p)) (sym (slice_none t (index t p)))
