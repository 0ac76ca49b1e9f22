-- How many trees begin and end in a capture list, capture by capture.
use Rattle.std.proofs.Common.{◌≡◌, ℕ, ◌+◌, ◌<◌, List, [], ◌∷◌, ◌++◌, length, take, get_or, map, sym, ap, ◌∙◌, arith}
use Rattle.std.specs.Prelude.{unwrap_or, slice_get, None}
use Rattle.std.proofs.lemmas.List.{take_more, map-append}
use Rattle.std.proofs.lemmas.Option.{unwrap_or-slice_get}
use Rattle.rpl_core.specs.Forest as F
use Rattle.rpl_reference.specs.declared.machine.Caught.{Caught}
use Rattle.rpl_reference.specs.Answers.{caught_of}

pub begins_append : (xs ys : List F.Caught) → F.begins (xs ++ ys) ≡ F.begins xs + F.begins ys
begins_append [] ys = omega arith
begins_append (F.Begin c i ∷ xs) ys = omega (arith, begins_append xs ys)
begins_append (F.Finish i ∷ xs) ys = begins_append xs ys
begins_append (F.Mark x i ∷ xs) ys = begins_append xs ys

pub finishes_append : (xs ys : List F.Caught) → F.finishes (xs ++ ys) ≡ F.finishes xs + F.finishes ys
finishes_append [] ys = omega arith
finishes_append (F.Begin c i ∷ xs) ys = finishes_append xs ys
finishes_append (F.Finish i ∷ xs) ys = omega (arith, finishes_append xs ys)
finishes_append (F.Mark x i ∷ xs) ys = finishes_append xs ys

-- the captures before the index, and the one there
pub map_more : (xs : List Caught) (i : ℕ) (x : Caught) → i < length xs → x ≡ get_or xs i x
    → map caught_of (take (i + 1) xs) ≡ map caught_of (take i xs) ++ caught_of x ∷ []
map_more xs i x lt e =
    ap (map caught_of) (take_more xs i x lt) ∙ map-append caught_of (take i xs) (get_or xs i x ∷ [])
    ∙ ap (λ y. map caught_of (take i xs) ++ caught_of y ∷ []) (sym e)

-- what is read where nothing stands
pub read_none : {A : Type 0} → (xs : List A) (k : ℕ) (d : A) → slice_get xs k ≡ None → get_or xs k d ≡ d
read_none xs k d e = sym (unwrap_or-slice_get xs k d) ∙ ap (λ o. unwrap_or o d) e
