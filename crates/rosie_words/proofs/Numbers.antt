-- A number that is once too large stays so.
use Rattle.std.proofs.Common.{◌≡◌, ℕ, ◌+◌, ◌-◌, ◌*◌, ◌<◌, ◌≤◌, List, [], ◌∷◌, length, get_or, drop, None, refl, arith}
use Rattle.std.proofs.Common.{add-one}
use Rattle.std.proofs.Math.Seq.{drop-cons}
use Rattle.std.proofs.lemmas.Bool.Decides.{nat_tests}
use Rattle.rpl_text.specs.Numbers.{value}
use Rattle.rosie_words.specs.Values.{number_in}

grows : (n : ℕ) (bs : List ℕ) → n ≤ value n bs
grows n [] = omega arith
grows n (b ∷ bs) = let h = grows (n * 10 + (b - 48)) bs in omega arith

step : (s : List ℕ) (i n : ℕ) → i < length s
    → value n (drop i s) ≡ value (n * 10 + (get_or s i 0 - 48)) (drop (i + 1) s)
step s i n lt = rw (add-one, drop-cons s i 0) refl

is_over : (least most : ℕ) (w : List ℕ) → most < value 0 w → None ≡ number_in least most w
is_over least most w lt = grind (arith, nat_tests)

pub too_large : (least most : ℕ) (w s : List ℕ) (i n m : ℕ) → s ≡ w → i < length s
    → value n (drop i s) ≡ value 0 s → m ≡ n * 10 + (get_or s i 0 - 48) → most < m
    → None ≡ number_in least most w
too_large least most w s i n m same inside e is lt =
    let g = grows (n * 10 + (get_or s i 0 - 48)) (drop (i + 1) s) in
    let t = step s i n inside in
    let h : most < value 0 s = omega arith in
    is_over least most w (rw same at h)
