-- What is asked of a source after it has answered that it is at its end.
use Rattle.std.specs.Prelude.{ℕ, ◌≡◌, Bool, if◌then◌else◌, true, false, List, [], ◌∷◌, ◌++◌}
use Rattle.rosie_io.specs.declared.outside.ReadAnswer.{ReadAnswer}
use Rattle.rosie_io.specs.declared.outside.ReadAnswer.TheVariants.{Took, End, Failed}

-- how such a read stands among the paths that were asked for: no path is written like it, since no byte is 256
abbrev pub read_past_end : List ℕ
read_past_end = 256 ∷ []

-- what was asked, after one more read: a read counts only where the end was answered before it
abbrev pub asked_after : Bool → List (List ℕ) → List (List ℕ)
asked_after ended asked = if ended then asked ++ read_past_end ∷ [] else asked

-- whether the end was answered, after one more read
abbrev pub ended_after : ReadAnswer → Bool → Bool
ended_after (Took n) ended = ended
ended_after End ended = true
ended_after Failed ended = ended

-- a reader that hasn't met the end reads from a source that hasn't answered it
abbrev pub Knows : Bool → Bool → Type 0
Knows met answered = met ≡ false → answered ≡ false
