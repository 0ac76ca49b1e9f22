-- The text's members are characters.
use Rattle.std.proofs.Common.{◌≡◌, ℕ, zero, suc, List, [], ◌∷◌, arith}
use Rattle.std.specs.Prelude.{true, slice_get}
use Rattle.std.specs.Str.{all_scalars}
use Rattle.rpl_compile_laws.proofs.Heads.{IsCharThere}

-- what stands at a place of the text is a character
pub chars_there : (t : List ℕ) → all_scalars t ≡ true → (i : ℕ) → IsCharThere (slice_get t i)
chars_there [] h zero = tt
chars_there [] h (suc i) = tt
chars_there (c ∷ t) h zero = grind arith
chars_there (c ∷ t) h (suc i) = chars_there t (grind arith) i
