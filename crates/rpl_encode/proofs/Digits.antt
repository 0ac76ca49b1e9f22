-- The digits of a number, counted, and written where they have room.
use Rattle.std.proofs.Common.{◌≡◌, ℕ, ◌+◌, ◌/◌, ◌%◌, ◌^◌, ◌<◌, ◌≤◌, List, [], ◌∷◌, ◌++◌, length, take, drop, ap, ◌∙◌}
use Rattle.std.proofs.Common.{arith, length-append}
use Rattle.std.specs.Prelude.{decimal}
use Rattle.std.proofs.Math.Seq.{take-add, take-append_seam}
use Rattle.std.proofs.lemmas.Fmt.{decimal_digit, decimal_step}

-- a number of one digit
pub one_digit : (n : ℕ) → n < 10 → length (decimal n) ≡ 1
one_digit n lt = ap length (decimal_digit n lt)

-- one digit more than a tenth of it has
pub more_digits : (n : ℕ) → 10 ≤ n → n < 2 ^ 64 → length (decimal n) ≡ length (decimal (n / 10)) + 1
more_digits n le fits = ap length (decimal_step n le fits) ∙ length-append (decimal (n / 10)) _

-- what ends at `to` is written after what stood before `from`
pub written_up_to : (was now ds behind : List ℕ) (from to : ℕ) → from + length ds ≡ to → take from now ≡ take from was
    → drop from now ≡ ds ++ behind → take to now ≡ take from was ++ ds
written_up_to was now ds behind from to long before written =
    rw (← long) (take-add from (length ds) now ∙ ap (λ xs. xs ++ take (length ds) (drop from now)) before
    ∙ ap (λ xs. take from was ++ take (length ds) xs) written
    ∙ ap (λ xs. take from was ++ xs) (take-append_seam ds behind))

-- a number of two digits
pub two_digits : (n : ℕ) → 10 ≤ n → n < 100 → decimal n ≡ (48 + n / 10) ∷ (48 + n % 10) ∷ []
two_digits n le lt = decimal_step n le (omega arith)
    ∙ ap (λ ds. ds ++ (48 + n % 10) ∷ []) (decimal_digit (n / 10) (omega arith))
