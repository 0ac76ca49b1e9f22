-- A number that is once too wide stays so.
use Rattle.std.proofs.Common.{◌≡◌, ℕ, ◌+◌, ◌-◌, ◌*◌, ◌^◌, ◌<◌, ◌≤◌, List, [], ◌∷◌, length, get_or, drop, Option, Some}
use Rattle.std.proofs.Common.{None, refl, sym, ap, ◌∙◌, arith, add-one}
use Rattle.std.proofs.Math.Seq.{drop-cons}
use Rattle.std.proofs.Math.ListN.{drop_of_length-le}
use Rattle.std.proofs.lemmas.Bool.Decides.{nat_tests}
use Rattle.std.proofs.lemmas.Bool.{le-ltb}
use Rattle.std.specs.Option.{SomeIff}
use Rattle.rpl_text.specs.Numbers.{value, narrow}

grows : (n : ℕ) (bs : List ℕ) → n ≤ value n bs
grows n [] = omega arith
grows n (b ∷ bs) = let h = grows (n * 10 + (b - 48)) bs in omega arith

step : (s : List ℕ) (i n : ℕ) → i < length s
    → value n (drop i s) ≡ value (n * 10 + (get_or s i 0 - 48)) (drop (i + 1) s)
step s i n lt = rw (add-one, drop-cons s i 0) refl

pub too_wide : (s : List ℕ) (i n v : ℕ) → i < length s → value n (drop i s) ≡ v → 2 ^ 64 ≤ n * 10 + (get_or s i 0 - 48)
    → None ≡ narrow v
too_wide s i n v lt e le =
    let g = grows (n * 10 + (get_or s i 0 - 48)) (drop (i + 1) s) in
    let w : 2 ^ 64 ≤ v = omega (arith, g, step s i n lt, e) in
    rw (le-ltb v (2 ^ 64) w) refl

pub fits : (n v : ℕ) → n < 2 ^ 64 → n ≡ v → Some n ≡ narrow v
fits n v lt e = rw (← e) (grind (arith, nat_tests))

pub none_wide : (r : Option ℕ) (a : ℕ) → SomeIff r (a < 2 ^ 64) a → r ≡ None → 2 ^ 64 ≤ a
none_wide None a h e = grind (arith, h)
none_wide (Some x) a h e = absurd (cc e)

pub some_value : (r : Option ℕ) (a x : ℕ) → SomeIff r (a < 2 ^ 64) a → r ≡ Some x → x ≡ a
some_value None a x h e = absurd (cc e)
some_value (Some y) a x h e = grind (arith, h)

pub all_read : (s : List ℕ) (i n v : ℕ) → length s ≤ i → value n (drop i s) ≡ v → n ≡ v
all_read s i n v le e = ap (value n) (sym (drop_of_length-le s le)) ∙ e
