-- What a step over a character of a text says.
use Rattle.std.proofs.Common.{◌≡◌, ℕ, ◌+◌, ◌<◌, List, ◌∷◌, drop, Some, sym, ap, subst, ◌∙◌, arith}
use Rattle.std.specs.Prelude.{slice_get}
use Rattle.std.specs.Char.{len_utf8}
use Rattle.std.proofs.lemmas.Str.{len_utf8_bounds}
use Rattle.rpl_text.specs.Places.{index, IsPlace, step_from}
use Rattle.rpl_text.proofs.Escaped.{drop_front}
use Rattle.rpl_text.proofs.Walks.{some_step, index_at, place_at, at_suc, get_below}

pub record Stepped (t : List ℕ) (p c q : ℕ) : Type 0 where
  pub front : drop (index t p) t ≡ c ∷ drop (index t p + 1) t
  pub get : slice_get t (index t p) ≡ Some c
  pub next : q ≡ p + len_utf8 c
  pub forward : p < q
  pub place : IsPlace t q
  pub number : index t q ≡ index t p + 1

-- a step over a character gives the character, and the place after it
pub stepped : (t : List ℕ) (p c q : ℕ) → IsPlace t p → Some (c, q) ≡ step_from t (index t p) → Stepped t p c q
stepped t p c q h e =
    let i = index t p in
    let s = some_step t i c q e in
    let b = get_below t i c s.1 in
    let n : q ≡ p + len_utf8 c = s.0 ∙ at_suc t i c s.1 ∙ ap (λ x. x + len_utf8 c) h in
    record {
      front = drop_front t i c s.1;
      get = s.1;
      next = n;
      forward = let w = len_utf8_bounds c in omega (arith, n, w.0);
      place = subst (IsPlace t) (sym s.0) (place_at t (i + 1) (omega arith));
      number = ap (index t) s.0 ∙ index_at t (i + 1) (omega arith);
    }
