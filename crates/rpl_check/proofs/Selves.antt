-- Which rules reach themselves, one after the other.
use Rattle.std.proofs.Common.{◌≡◌, ℕ, suc, ◌+◌, ◌-◌, ◌<◌, ◌∷◌, ap, ◌∙◌, arith}
use Rattle.std.specs.Prelude.{Bool, true, false, if◌then◌else◌}
use Rattle.rpl_check.specs.Blocks.{selves}

pub minus_step : (r e : ℕ) → r < e → e - r ≡ suc (e - (r + 1))
minus_step r e lt = omega arith

pub self_hit : (reach : ℕ → ℕ → Bool) (r e : ℕ) → r < e → reach r r ≡ true
    → selves reach r (e - r) ≡ r ∷ selves reach (r + 1) (e - (r + 1))
self_hit reach r e lt on = ap (selves reach r) (minus_step r e lt)
    ∙ ap (λ b. if b then r ∷ selves reach (r + 1) (e - (r + 1)) else selves reach (r + 1) (e - (r + 1))) on

pub self_miss : (reach : ℕ → ℕ → Bool) (r e : ℕ) → r < e → reach r r ≡ false
    → selves reach r (e - r) ≡ selves reach (r + 1) (e - (r + 1))
self_miss reach r e lt off = ap (selves reach r) (minus_step r e lt)
    ∙ ap (λ b. if b then r ∷ selves reach (r + 1) (e - (r + 1)) else selves reach (r + 1) (e - (r + 1))) off
