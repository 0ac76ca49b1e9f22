-- Parts, and the first of them.
use Rattle.std.proofs.Common.{◌≡◌, ◌-◌, ◌<◌, ◌≤◌, List, [], ◌∷◌, length, take, drop, get_or, refl, sym, ap, ◌∙◌, arith}
use Rattle.std.proofs.lemmas.List.{take_all}

pub rest_whole : {A : Type 0} (xs : List A) → take (length xs - 1) (drop 1 xs) ≡ drop 1 xs
rest_whole [] = refl
rest_whole (x ∷ xs) = take_all (length (x ∷ xs) - 1) xs (omega arith)

pub no_items : {A : Type 0} (xs : List A) → length xs < 1 → xs ≡ []
no_items [] h = refl
no_items (x ∷ xs) h = absurd (omega arith)

pub first_and_rest : {A : Type 0} (xs : List A) (x : A) (ys : List A) → 1 ≤ length xs → x ≡ get_or xs 0 x
    → ys ≡ drop 1 xs → xs ≡ x ∷ ys
first_and_rest [] x ys h e f = absurd (omega arith)
first_and_rest (y ∷ xs) x ys h e f = ap (λ z. z ∷ xs) (sym e) ∙ ap (λ zs. x ∷ zs) (sym f)

pub only_item : {A : Type 0} (xs : List A) (x : A) → length xs ≡ 1 → x ≡ get_or xs 0 x → xs ≡ x ∷ []
only_item [] x h e = absurd (omega arith)
only_item (y ∷ []) x h e = ap (λ z. z ∷ []) (sym e)
only_item (y ∷ z ∷ xs) x h e = absurd (omega arith)
