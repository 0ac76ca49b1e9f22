-- Steps of a walk over bytes.
use Rattle.std.proofs.Common.{◌≡◌, ℕ, ◌+◌, ◌<◌, List, ◌∷◌, length, get_or, drop, Option, Some, None, refl, ap, arith}
use Rattle.std.proofs.Common.{add-one}
use Rattle.std.proofs.Math.Seq.{drop-cons}
use Rattle.rpl_lexer.specs.Enclosed.{plus}

pub at_cons : (s : List ℕ) (i : ℕ) → i < length s → drop i s ≡ get_or s i 0 ∷ drop (i + 1) s
at_cons s i lt = rw (add-one, drop-cons s i 0) refl

pub plus_none : (o : Option ℕ) → plus 0 o ≡ o
plus_none None = refl
plus_none (Some k) = let e : 0 + k ≡ k = omega arith in ap (λ x. Some x) e
