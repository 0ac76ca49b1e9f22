-- What is written in two pieces.
use Rattle.std.proofs.Common.{◌≡◌, ℕ, List, ◌++◌, Result, Ok, Err, ap, ◌∙◌, append_assoc}
use Rattle.std.specs.Prelude.{OnOk, if◌then◌else◌}
use Rattle.std.specs.Result.{is_ok}

pub two_pieces : {T E : Type 0} (r : Result T E) (new mid old first last : List ℕ) → mid ≡ old ++ first →
    new ≡ (if is_ok r then mid ++ last else mid) → OnOk r (new ≡ old ++ (first ++ last))
two_pieces (Ok x) new mid old first last e f = f ∙ ap (λ y. y ++ last) e ∙ append_assoc old first last
two_pieces (Err x) new mid old first last e f = tt
