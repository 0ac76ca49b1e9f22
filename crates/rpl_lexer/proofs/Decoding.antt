-- The reading of a text, character by character.
use Rattle.std.proofs.Common.{◌≡◌, ℕ, zero, suc, ◌+◌, ◌<◌, ◌≤◌, List, [], ◌∷◌, ◌++◌, length, drop, Option, Some, None}
use Rattle.std.proofs.Common.{refl, sym, ap, subst, ◌∙◌, arith, drop-drop, length-drop}
use Rattle.std.specs.Prelude.{nat_eq, if◌then◌else◌, chars, encode_utf8, encode_utf8_all, IsUtf8}
use Rattle.std.proofs.lemmas.Bool.{ne_eqb}
use Rattle.std.proofs.lemmas.Str.{len_utf8_ascii, chars-nil, encodes-chars, encodes-append, chars_from_encodes}
use Rattle.std.proofs.lemmas.List.{drop_all, append-nil}
use Rattle.rpl_text.specs.Places.{at, index, IsPlace, step_from}
use Rattle.rpl_text.specs.Escapes.{escape, placed, escape_from}
use Rattle.rpl_text.proofs.Walks.{none_step, index_at, place_at, at_suc, get_below, at_le, at_end}
use Rattle.rpl_text.proofs.Cuts.{at_drop}
use Rattle.rpl_text.proofs.Escaped.{escape_plain}
use Rattle.rpl_text.proofs.Stepped.{stepped}
use Rattle.rpl_lexer.specs.Payloads.{unescaped, decoded}
use Rattle.rpl_lexer.specs.inside.Decoding.{Decodes}

-- at the end of the bytes the characters end
pub decoded_nil : (k : ℕ) → decoded k [] ≡ []
unfolding decoded
decoded_nil k = refl

-- a character that belongs to an escape is passed over
pub decoded_skip : (k c : ℕ) (cs : List ℕ) → decoded (suc k) (c ∷ cs) ≡ decoded k cs
unfolding decoded
decoded_skip k c cs = refl

-- the characters of a text: its quote ends them, a backslash begins an escape, and any other stands for itself
pub decoded_cons : (c : ℕ) (cs : List ℕ)
    → decoded 0 (c ∷ cs) ≡ (if nat_eq c 34 then [] else (if nat_eq c 92 then unescaped (escape cs) (λ k. decoded k cs)
    else c ∷ decoded 0 cs))
unfolding decoded
decoded_cons c cs = refl

-- characters of an escape are passed over
pub skipped : (k : ℕ) (cs : List ℕ) → decoded k cs ≡ decoded 0 (drop k cs)
skipped zero cs = refl
skipped (suc k) [] = decoded_nil (suc k) ∙ sym (decoded_nil 0)
skipped (suc k) (c ∷ cs) = decoded_skip k c cs ∙ skipped k cs

-- at the end, at a quote, and at any other character that stands for itself
pub reads_end : (t : List ℕ) (p : ℕ) → None ≡ step_from t (index t p) → Decodes t p None
reads_end t p e = let n = none_step t (index t p) e in ap (decoded 0) (drop_all (index t p) t n.1) ∙ decoded_nil 0

pub reads_quote : (t : List ℕ) (p q : ℕ) → IsPlace t p → Some (34, q) ≡ step_from t (index t p) → Decodes t p None
reads_quote t p q h e = let s = stepped t p 34 q h e in ap (decoded 0) s.front
    ∙ decoded_cons 34 (drop (index t p + 1) t)

pub reads_plain : (t : List ℕ) (p c q : ℕ) → IsPlace t p → Some (c, q) ≡ step_from t (index t p) → (c ≡ 34 → ⊥)
    → (c ≡ 92 → ⊥) → Decodes t p (Some (c, q))
reads_plain t p c q h e n m =
    let s = stepped t p c q h e in
    let cs = drop (index t p + 1) t in (
      ap (decoded 0) s.front ∙ decoded_cons c cs
          ∙ ap (λ b. if b then [] else (if nat_eq c 92 then unescaped (escape cs) (λ k. decoded k cs)
          else c ∷ decoded 0 cs)) (ne_eqb c 34 n)
          ∙ ap (λ b. if b then unescaped (escape cs) (λ k. decoded k cs) else c ∷ decoded 0 cs) (ne_eqb c 92 m)
          ∙ ap (λ k. c ∷ decoded 0 (drop k t)) (sym s.number),
      s.place,
      s.forward,
    )

backslash : (t : List ℕ) (p q : ℕ) → IsPlace t p → Some (92, q) ≡ step_from t (index t p)
    → decoded 0 (drop (index t p) t) ≡ unescaped (escape (drop (index t p + 1) t))
    (λ k. decoded k (drop (index t p + 1) t))
backslash t p q h e = let s = stepped t p 92 q h e in ap (decoded 0) s.front ∙ decoded_cons 92 (drop (index t p + 1) t)

by_escape : (t : List ℕ) (p q : ℕ) (o : Option (ℕ × ℕ)) → IsPlace t p → Some (92, q) ≡ step_from t (index t p)
    → escape (drop (index t p + 1) t) ≡ o → Decodes t p (placed t (index t p + 1) o)
by_escape t p q None h e g = backslash t p q h e ∙ ap (λ o. unescaped o (λ k. decoded k (drop (index t p + 1) t))) g
by_escape t p q (Some (v, k)) h e g =
    let i = index t p in
    let s = stepped t p 92 q h e in
    let cs = drop (i + 1) t in
    let plain = escape_plain cs v k g in
    let b = get_below t i 92 s.get in
    let inside : i + 1 + k ≤ length t = omega (arith, length-drop (i + 1) t, plain.inside) in
    let r = at t (i + 1 + k) in
    let number : index t r ≡ i + 1 + k = index_at t (i + 1 + k) inside in
    let one = at_suc t i 92 s.get in
    let later : p < r = omega (arith, at_drop t (i + 1) k, len_utf8_ascii 92) in
    let same : drop k cs ≡ drop (index t r) t = drop-drop k (i + 1) t ∙ ap (λ n. drop n t) (sym number) in (
      backslash t p q h e ∙ ap (λ o. unescaped o (λ k. decoded k cs)) g
          ∙ ap (λ x. v ∷ x) (skipped k cs ∙ ap (decoded 0) same),
      place_at t (i + 1 + k) inside,
      later,
    )

pub reads_escape : (t : List ℕ) (p q : ℕ) (r : Option (ℕ × ℕ)) → IsPlace t p → Some (92, q) ≡ step_from t (index t p)
    → r ≡ escape_from t (index t p) → Decodes t p r
reads_escape t p q r h e g = subst (Decodes t p) (sym g) (by_escape t p q (escape (drop (index t p + 1) t)) h e refl)

-- a place is no greater than the length
pub place_le : (bs : List ℕ) (q : ℕ) → IsUtf8 bs → IsPlace (chars bs) q → q ≤ length bs
place_le bs q u h = let l = at_le (chars bs) (index (chars bs) q) in omega (arith, at_end bs u, h)

-- one more character at the end of a text
pub pushed : (old new : List ℕ) (c : ℕ) → IsUtf8 old → IsUtf8 new → new ≡ old ++ encode_utf8 c
    → chars new ≡ chars old ++ c ∷ []
pushed old new c u v e =
    sym (chars_from_encodes (chars old ++ c ∷ []) new v
    (encodes-append (chars old) (c ∷ []) ∙ ap (λ x. x ++ encode_utf8_all (c ∷ [])) (encodes-chars old u)
    ∙ ap (λ x. old ++ x) (append-nil (encode_utf8 c)) ∙ sym e))

-- the start
pub place_zero : (t : List ℕ) → IsPlace t 0
place_zero [] = refl
place_zero (c ∷ cs) = refl

index_zero : (t : List ℕ) → index t 0 ≡ 0
index_zero [] = refl
index_zero (c ∷ cs) = refl

drop_zero : (t : List ℕ) → drop 0 t ≡ t
drop_zero [] = refl
drop_zero (c ∷ cs) = refl

pub begun : (bs t : List ℕ) → bs ≡ [] → chars bs ++ decoded 0 (drop (index t 0) t) ≡ decoded 0 t
begun bs t e = ap (λ x. chars x ++ decoded 0 (drop (index t 0) t)) e
    ∙ ap (λ x. x ++ decoded 0 (drop (index t 0) t)) chars-nil ∙ ap (λ n. decoded 0 (drop n t)) (index_zero t)
    ∙ ap (decoded 0) (drop_zero t)
