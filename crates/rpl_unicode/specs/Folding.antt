-- Characters that are the same but for case: those with one simple folding (The Unicode Standard, section 3.13).
use Rattle.std.specs.Prelude.{ℕ, zero, suc, Bool, false, ◌&&◌, ◌||◌, ◌==◌}
use Rattle.unicode.specs.CaseFolding.{simple_fold}
use Rattle.rpl_text.specs.Characters.{is_char}

-- some number below n passes the test
unfoldable pub some_below : ℕ → (ℕ → Bool) → Bool
some_below zero p = false
some_below (suc n) p = p n || some_below n p

-- the number has the simple folding of some character that passes the test
unfoldable pub folds_with : (ℕ → Bool) → ℕ → Bool
folds_with p c = some_below 0x11_0000 (λ d. (is_char d && p d) && (simple_fold d == simple_fold c))
