-- What a table shows of its rows.
use Rattle.std.proofs.Common.{◌≡◌, ℕ, zero, suc, ◌+◌, ◌<◌, take, List, [], ◌∷◌, ◌++◌, length, sym, ap, subst, ◌∙◌}
use Rattle.std.proofs.Common.{arith}
use Rattle.std.specs.Prelude.{encode_utf8, encode_utf8_all, map, slice_index_or}
use Rattle.std.specs.List.{All}
use Rattle.std.proofs.lemmas.List.{map-append, length-map, append-nil}
use Rattle.std.proofs.lemmas.Str.{encodes-append}
use Rattle.std.proofs.Math.Seq.{take-suc}

shown_at : {K A : Type 0} (f : K → A) (xs : List K) (i : ℕ) (x : K) → i < length xs → x ≡ slice_index_or xs i x
    → slice_index_or (map f xs) i (f x) ≡ f x
shown_at f [] i x lt e = absurd (omega arith)
shown_at f (y ∷ xs) zero x lt e = ap f (sym e)
shown_at f (y ∷ xs) (suc i) x lt e = shown_at f xs i x (omega arith) e

-- one element more
pub one_more : {A : Type 0} (xs : List A) (i : ℕ) (x : A) → i < length xs → x ≡ slice_index_or xs i x
    → take (i + 1) xs ≡ take i xs ++ x ∷ []
one_more xs i x lt e =
    let n : i + 1 ≡ suc i = omega arith in
    ap (λ k. take k xs) n ∙ take-suc xs i x lt ∙ ap (λ y. take i xs ++ y ∷ []) (sym e)

pub more_shown : {K A : Type 0} (f : K → A) (xs : List K) (i : ℕ) (x : K) → i < length xs → x ≡ slice_index_or xs i x
    → map f (take (i + 1) xs) ≡ map f (take i xs) ++ f x ∷ []
more_shown f xs i x lt e = ap (map f) (one_more xs i x lt e) ∙ map-append f (take i xs) (x ∷ [])

pub more_encoded : (xs : List ℕ) (i x : ℕ) → i < length xs → x ≡ slice_index_or xs i x
    → encode_utf8_all (take (i + 1) xs) ≡ encode_utf8_all (take i xs) ++ encode_utf8 x
more_encoded xs i x lt e = ap encode_utf8_all (one_more xs i x lt e) ∙ encodes-append (take i xs) (x ∷ [])
    ∙ ap (λ l. encode_utf8_all (take i xs) ++ l) (append-nil (encode_utf8 x))

-- what holds of all that is shown holds of one
pub holds_of : {K A : Type 0} (f : K → A) (P : A → Type 0) (xs : List K) (i : ℕ) (x : K) → i < length xs
    → x ≡ slice_index_or xs i x → All P (map f xs) → P (f x)
holds_of f P xs i x lt e all = subst P (shown_at f xs i x lt e) (all i (f x) (omega (arith, length-map xs f)))
