-- Ranges of characters in their one order.
use Rattle.std.specs.Prelude.{◌≡◌, ℕ, Bool, true, List}
use Rattle.rpl_text.specs.Characters.{is_char}
use Rattle.regex_class.specs.Ranges.{Range, in_ranges, IsCanonical}

-- the ranges rise, don't touch, and hold only characters
pub record IsNormal (s : List Range) : Type 0 where
  pub rises : IsCanonical s
  pub chars : (c : ℕ) → in_ranges s c ≡ true → is_char c ≡ true

-- of the characters the ranges hold just those that pass the test
abbrev pub HasJust : List Range → (ℕ → Bool) → Type 0
HasJust s p = (c : ℕ) → is_char c ≡ true → in_ranges s c ≡ p c

-- the ranges in their one order, with just the characters that pass the test
pub record IsListOf (p : ℕ → Bool) (s : List Range) : Type 0 where
  pub normal : IsNormal s
  pub members : HasJust s p
