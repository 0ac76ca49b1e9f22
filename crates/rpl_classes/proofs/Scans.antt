-- The steps of a scanner over byte places, and the symbols of the text.
use Rattle.std.proofs.Common.{◌≡◌, ℕ, zero, suc, ◌+◌, ◌≤◌, List, [], ◌∷◌, length, drop, Option, Some, None, refl, sym}
use Rattle.std.proofs.Common.{ap, subst, ◌∙◌, arith, drop-drop, length-drop, add_assoc}
use Rattle.std.specs.Prelude.{nat_eq, if◌then◌else◌}
use Rattle.std.specs.Char.{len_utf8}
use Rattle.std.proofs.lemmas.Bool.{ne_eqb}
use Rattle.std.proofs.lemmas.Str.{len_utf8_bounds, len_utf8_ascii}
use Rattle.std.proofs.lemmas.List.{drop_all}
use Rattle.rpl_text.specs.Places.{at, index, IsPlace, step_from}
use Rattle.rpl_text.specs.Escapes.{escape, placed, escape_from}
use Rattle.rpl_text.proofs.Walks.{none_step, index_at, place_at, at_suc, get_below, at_zero}
use Rattle.rpl_text.proofs.Cuts.{at_drop}
use Rattle.rpl_text.proofs.Escaped.{escape_plain}
use Rattle.rpl_text.proofs.Stepped.{stepped}
use Rattle.rpl_classes.specs.Symbols.{escaped, symbols, symbols_from}
use Rattle.rpl_classes.specs.inside.Scanned.{Scanned}
use Rattle.rpl_classes.specs.declared.symbols.Symbol.TheVariants.{Plain, Escaped, End}

pub symbols_nil : (p : ℕ) → symbols 0 p [] ≡ (p, End) ∷ []
unfolding symbols
symbols_nil p = refl

pub symbols_cons : (p c : ℕ) (cs : List ℕ)
    → symbols 0 p (c ∷ cs) ≡ (if nat_eq c 92 then escaped p (escape cs) (λ k. symbols k (p + 1) cs)
    else (p, Plain c) ∷ symbols 0 (p + len_utf8 c) cs)
unfolding symbols
symbols_cons p c cs = refl

symbols_skip : (k p c : ℕ) (cs : List ℕ) → symbols (suc k) p (c ∷ cs) ≡ symbols k (p + len_utf8 c) cs
unfolding symbols
symbols_skip k p c cs = refl

-- characters of an escape are passed over
skipped : (k p : ℕ) (cs : List ℕ) → k ≤ length cs → symbols k p cs ≡ symbols 0 (p + at cs k) (drop k cs)
skipped zero p cs le = let e : p ≡ p + at cs 0 = omega (arith, at_zero cs) in ap (λ x. symbols 0 x cs) e
skipped (suc k) p [] le = absurd (omega arith)
skipped (suc k) p (c ∷ cs) le =
    symbols_skip k p c cs ∙ skipped k (p + len_utf8 c) cs (omega arith)
    ∙ ap (λ x. symbols 0 x (drop k cs)) (add_assoc p (len_utf8 c) (at cs k))

pub scan_plain : (t : List ℕ) (p c q : ℕ) → IsPlace t p → Some (c, q) ≡ step_from t (index t p) → (c ≡ 92 → ⊥)
    → Scanned t p (Plain c) q
scan_plain t p c q h e n =
    let s = stepped t p c q h e in
    let b = len_utf8_bounds c in
    record {
      symbols = ap (symbols 0 p) s.front ∙ symbols_cons p c (drop (index t p + 1) t)
          ∙ ap (λ b. if b then escaped p (escape (drop (index t p + 1) t))
          (λ k. symbols k (p + 1) (drop (index t p + 1) t))
          else (p, Plain c) ∷ symbols 0 (p + len_utf8 c) (drop (index t p + 1) t)) (ne_eqb c 92 n)
          ∙ ap (λ x. (p, Plain c) ∷ symbols 0 x (drop (index t p + 1) t)) (sym s.next)
          ∙ ap (λ k. (p, Plain c) ∷ symbols 0 q (drop k t)) (sym s.number);
      next = s.place;
      forward = (omega (arith, s.next), s.get, s.number);
    }

pub scan_end : (t : List ℕ) (p : ℕ) → IsPlace t p → None ≡ step_from t (index t p) → Scanned t p End p
scan_end t p h e =
    let n = none_step t (index t p) e in
    record {
      symbols = ap (symbols 0 p) (drop_all (index t p) t n.1) ∙ symbols_nil p;
      next = h;
      forward = refl;
    }

-- the backslash of an escape, or of none
backslash : (t : List ℕ) (p q : ℕ) → IsPlace t p → Some (92, q) ≡ step_from t (index t p)
    → symbols_from t p ≡ escaped p (escape (drop (index t p + 1) t)) (λ k. symbols k (p + 1) (drop (index t p + 1) t))
backslash t p q h e =
    let s = stepped t p 92 q h e in
    ap (symbols 0 p) s.front ∙ symbols_cons p 92 (drop (index t p + 1) t)

no_escape : (t : List ℕ) (j : ℕ) (o : Option (ℕ × ℕ)) → None ≡ placed t j o → o ≡ None
no_escape t j None e = refl
no_escape t j (Some (c, k)) e = absurd (cc)

pub scan_bad : (t : List ℕ) (p q : ℕ) → IsPlace t p → Some (92, q) ≡ step_from t (index t p)
    → None ≡ escape_from t (index t p) → Scanned t p End p
scan_bad t p q h e n = record {
  symbols = backslash t p q h e
      ∙ ap (λ o. escaped p o (λ k. symbols k (p + 1) (drop (index t p + 1) t)))
      (no_escape t (index t p + 1) (escape (drop (index t p + 1) t)) n);
  next = h;
  forward = refl;
}

-- the escape that was found
record Found (t : List ℕ) (j v r : ℕ) : Type 0 where
  size : ℕ
  is : escape (drop j t) ≡ Some (v, size)
  next : r ≡ at t (j + size)

found : (t : List ℕ) (j v r : ℕ) (o : Option (ℕ × ℕ)) → escape (drop j t) ≡ o → Some (v, r) ≡ placed t j o
    → Found t j v r
found t j v r None h e = absurd (cc)
found t j v r (Some (c, k)) h e =
    let same : ◌≡◌ {A = ℕ × ℕ} (v, r) (c, at t (j + k)) = cc in
    record {
      size = k;
      is = h ∙ ap (λ x. Some (x, k)) (sym (ap (λ (x : ℕ × ℕ). x.0) same));
      next = ap (λ (x : ℕ × ℕ). x.1) same;
    }

pub scan_escape : (t : List ℕ) (p q v r : ℕ) → IsPlace t p → Some (92, q) ≡ step_from t (index t p)
    → Some (v, r) ≡ escape_from t (index t p) → Scanned t p (Escaped v) r
scan_escape t p q v r h e g =
    let i = index t p in
    let s = stepped t p 92 q h e in
    let cs = drop (i + 1) t in
    let f = found t (i + 1) v r (escape cs) refl g in
    let k = f.size in
    let plain = escape_plain cs v k f.is in
    let b = get_below t i 92 s.get in
    let inside : i + 1 + k ≤ length t = omega (arith, length-drop (i + 1) t, plain.inside) in
    let one = at_suc t i 92 s.get in
    let place : at t (i + 1 + k) ≡ p + 1 + at cs k = omega (arith, at_drop t (i + 1) k, len_utf8_ascii 92) in
    record {
      symbols = backslash t p q h e ∙ ap (λ o. escaped p o (λ k. symbols k (p + 1) cs)) f.is
          ∙ ap (λ x. (p, Escaped v) ∷ x) (skipped k (p + 1) cs plain.inside
          ∙ ap (λ x. symbols 0 x (drop k cs)) (sym (f.next ∙ place))
          ∙ ap (symbols 0 r) (drop-drop k (i + 1) t)
          ∙ ap (λ n. symbols 0 r (drop n t)) (sym (ap (index t) f.next ∙ index_at t (i + 1 + k) inside)));
      next = subst (IsPlace t) (sym f.next) (place_at t (i + 1 + k) inside);
      forward = omega (arith, f.next);
    }
