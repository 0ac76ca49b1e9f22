-- The rules that each rule of a table reaches before a character.
use Rattle.std.specs.Prelude.{ℕ, Bool, List}
use Rattle.rpl_core.specs.Core.{Core}
use Rattle.rpl_facts.specs.Facts.{IsLeast, Follows}

-- each rule reaches just these before a character
abbrev pub Reach : List Core → (ℕ → Bool) → (ℕ → ℕ → Bool) → Type 0
Reach R m reach = (r : ℕ) → IsLeast (Follows R m r) (reach r)

-- whichever they are
abbrev pub OverReach : List Core → (ℕ → Bool) → ((ℕ → ℕ → Bool) → Type 0) → Type 0
OverReach R m P = (reach : ℕ → ℕ → Bool) → Reach R m reach → P reach
