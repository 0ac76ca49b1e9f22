-- The writes of a piece, part by part.
use Rattle.std.proofs.Common.{ℕ, ◌≡◌, Bool, true, false, ◌||◌, List, ◌++◌, nat_eq, eqb-true, refl}
use Rattle.std.proofs.Common.{sym, not, Result, Ok, Err}
use Rattle.std.specs.Prelude.{IsErrAnd}
use Rattle.std.proofs.lemmas.Bool.{false≢true}
use Rattle.rosie_io.specs.Appending.{Appends}
use Rattle.rosie_run.specs.Outputs.{IsFront}
use Rattle.rosie_run.proofs.Pieces.{front_after, longer}

-- a front of a text is written, where an error says so
pub appends_err : {A E : Type 0} (result : Result A E) (P : E → Type 0) (old new given : List ℕ) → IsErrAnd result P
    → IsFront old new given → Appends result old new given
appends_err (Err e) P old new given is front = front
appends_err (Ok done) P old new given is front = absurd is

-- what is written of a part, after the parts before it
pub front_part : (w0 w w' front part rest all : List ℕ) → w ≡ w0 ++ front → IsFront w w' part
    → all ≡ front ++ (part ++ rest) → IsFront w0 w' all
front_part w0 w w' front part rest all before f split =
    front_after w0 w w' front (part ++ rest) all before (longer w w' part rest (part ++ rest) f refl) split

-- nothing is pending: nothing was before, and the part is empty
pub none_pending : (before empty : Bool) (n : ℕ) → (before || not empty) ≡ false → empty ≡ nat_eq n 0
    → (before ≡ false) × (n ≡ 0)
none_pending true empty n h e = absurd (false≢true (sym h))
none_pending false true n h e = (refl, eqb-true n 0 (sym e))
none_pending false false n h e = absurd (false≢true (sym h))
