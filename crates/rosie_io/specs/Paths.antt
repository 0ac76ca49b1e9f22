-- What the answer of opening a path says.
use Rattle.std.specs.Prelude.{ℕ, ◌≡◌, ◌≤◌, Bool, true, false, List, [], None, Some}
use Rattle.rosie_io.specs.Counts.{Rose}
use Rattle.rosie_io.specs.declared.outside.PathAnswer.{PathAnswer}
use Rattle.rosie_io.specs.declared.outside.PathAnswer.TheVariants.{Opened, Missing, Failed}
use Rattle.rosie_io.specs.Opening.{file_of}

-- the tree, and the rest after the call: all the bytes of the file, or nothing; the file is missing exactly where the
-- tree has no such path and the call didn't fail
abbrev pub Opens : PathAnswer → List ℕ → List (List ℕ × List ℕ) → List ℕ → Type 0
Opens Opened path tree rest = file_of path tree ≡ Some rest
Opens Missing path tree rest = (file_of path tree ≡ None) × (rest ≡ [])
Opens Failed path tree rest = rest ≡ []

-- whether a file is open after the call
abbrev pub is_opened : PathAnswer → Bool
is_opened Opened = true
is_opened Missing = false
is_opened Failed = false

-- an open fails only where the count of failed opens rose; any other answer leaves the count
abbrev pub HasOpenCause : PathAnswer → ℕ → ℕ → Type 0
HasOpenCause Opened before now = now ≡ before
HasOpenCause Missing before now = now ≡ before
HasOpenCause Failed before now = (before ≤ now) × Rose before now
