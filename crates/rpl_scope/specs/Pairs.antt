-- How contracts see a name that is lent, with what stands under it.
use Rattle.std.specs.Prelude.{ℕ, List, Option, Some, None, chars}
use Rattle.std.specs.Borrow.{Bor}

abbrev pub pair_found : {A : Type 0} → Option (Bor (List ℕ) × A) → Option (List ℕ × A)
pair_found None = None
pair_found (Some p) = Some (chars p.0.now, p.1)
