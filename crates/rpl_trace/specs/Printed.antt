-- The text of a trace: a line for each evaluation, with how deep it stands, what it is of, and where it starts and
-- ends. Places count bytes from 1.
use Rattle.std.specs.Prelude.{ℕ, ◌+◌, List, [], ◌∷◌, ◌++◌, codes, slice_index_or}
use Rattle.std.specs.Str.{encode_utf8_all}
use Rattle.std.specs.Fmt.{decimal}
use Rattle.rpl_text.specs.Places.{at}
use Rattle.rpl_print.specs.Quoted.{quoted}
use Rattle.rpl_print.specs.Sets.{set_text}
use Rattle.rpl_trace.specs.Evaluations.{Kind, Set, Seq, Choice, Many, Turn, Not, And, Behind, Length, Call, Capture}
use Rattle.rpl_trace.specs.Evaluations.{Note, Start, End, Halt, Ending, Unsaid, Fails, EndsAt, HaltsAt}
use Rattle.rpl_trace.specs.Evaluations.{Evaluations, NoneLeft, One}

-- what an evaluation is of, where `names` are the full names of the rules
abbrev pub kind_text : List (List ℕ) → Kind → List ℕ
kind_text names (Set s) = codes "set " ++ set_text s
kind_text names Seq = codes "seq"
kind_text names Choice = codes "choice"
kind_text names Many = codes "many"
kind_text names Turn = codes "turn"
kind_text names Not = codes "not"
kind_text names And = codes "and"
kind_text names (Behind l m) = codes "behind " ++ (decimal l ++ 32 ∷ decimal m)
kind_text names (Length k) = codes "length " ++ decimal k
kind_text names (Call r) = codes "call " ++ encode_utf8_all (slice_index_or names r [])
kind_text names (Capture c) = codes "capture " ++ encode_utf8_all c
kind_text names (Note x) = codes "note " ++ quoted (encode_utf8_all x)
kind_text names Start = codes "start"
kind_text names End = codes "end"
kind_text names Halt = codes "halt"

abbrev pub place_text : List ℕ → ℕ → List ℕ
place_text t i = decimal (at t i + 1)

-- how it ends; of a checked goal each evaluation says so
abbrev pub ending_text : List ℕ → Ending → List ℕ
ending_text t Unsaid = []
ending_text t Fails = codes "fail"
ending_text t (EndsAt j) = place_text t j
ending_text t (HaltsAt j) = codes "halt"

abbrev pub line_text : List (List ℕ) → List ℕ → ℕ → Kind → ℕ → Ending → List ℕ
line_text names t d k i e =
    decimal d ++ 32 ∷ (kind_text names k ++ 32 ∷ (place_text t i ++ 32 ∷ (ending_text t e ++ 10 ∷ [])))

-- the lines of evaluations side by side at the depth d
abbrev pub printed : List (List ℕ) → List ℕ → ℕ → Evaluations → List ℕ
printed names t d NoneLeft = []
printed names t d (One k i e f r) = line_text names t d k i e ++ (printed names t (d + 1) f ++ printed names t d r)
