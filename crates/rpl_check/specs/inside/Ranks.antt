-- Ranks of the rules of a block, which no call raises.
use Rattle.std.specs.Prelude.{◌≡◌, ℕ, suc, ◌-◌, ◌<◌, ◌≤◌, Bool, true, if◌then◌else◌, nat_lt, List, slice_index_or}
use Rattle.rpl_core.specs.Core.{Core}
use Rattle.rpl_facts.specs.Facts.{calls_at}

-- the rank of a rule, where the list has those of a block that begins at a: earlier rules are lower
abbrev pub rank_of : ℕ → List ℕ → ℕ → ℕ
rank_of a ranks t = if nat_lt t a then 0 else suc (slice_index_or ranks (t - a) 0)

-- no rule from a on and before e calls one of a higher rank before a character
abbrev pub Falls : List Core → (ℕ → Bool) → (a e : ℕ) → List ℕ → Type 0
Falls R m a e ranks =
    (q t : ℕ) → a ≤ q → q < e → calls_at m R q t ≡ true → rank_of a ranks t ≤ rank_of a ranks q
