-- What a result says about the reads that made it.
use Rattle.std.specs.Prelude.{◌≡◌, ◌++◌, ◌∷◌, ℕ, List, [], Result, Ok, Err, encode_utf8_all}
use Rattle.rosie_io.specs.declared.outside.Source.{Ghosts}
use Rattle.rosie_run.specs.Sources.{Moment, NoFewer, RoseIn, Still, moment_of}
use Rattle.rosie_run.specs.declared.unready.Unready.{Unready}
use Rattle.rosie_run.specs.declared.unready.Unready.TheVariants.{NoMemory, Refused, ReadFault}

-- ---- which paths a call asked to be opened

-- the paths ps were asked for, and then the call stopped: memory may run out on the way, and a read fails of the path
-- that was asked for last; a refusal comes when all the paths were asked for
abbrev pub AskedTill : Unready → (all ps : List (List ℕ)) → Type 0
AskedTill NoMemory all ps = (more : List (List ℕ)) × (all ≡ ps ++ more)
AskedTill (Refused line) all ps = ps ≡ all
AskedTill (ReadFault path) all ps =
    (front more : List (List ℕ)) × (ps ≡ front ++ encode_utf8_all path ∷ []) × (all ≡ ps ++ more)

-- the paths ps were asked for, and then came this result
abbrev pub AskedFor : {X : Type 0} → Result X Unready → (all ps : List (List ℕ)) → Type 0
AskedFor (Ok x) all ps = ps ≡ all
AskedFor (Err u) all ps = AskedTill u all ps

-- the paths that were asked to be opened before a call, and those after it: with those that it asked for, in order
abbrev pub HasAsked : {X : Type 0} → (before now : List (List ℕ)) → Result X Unready → (all : List (List ℕ)) → Type 0
HasAsked before now result all = (ps : List (List ℕ)) × (now ≡ before ++ ps) × AskedFor result all ps

-- the counts of the files: a read or an open failed only where one of them rose
abbrev pub Counts : Unready → Moment → Moment → Type 0
Counts NoMemory f0 f1 = NoFewer f0 f1
Counts (Refused line) f0 f1 = Still f0 f1
Counts (ReadFault path) f0 f1 = NoFewer f0 f1 × RoseIn f0 f1

abbrev pub HasCause : {X : Type 0} → Result X Unready → Moment → Moment → Type 0
HasCause (Ok x) f0 f1 = Still f0 f1
HasCause (Err u) f0 f1 = Counts u f0 f1

-- and so by the files before and after
abbrev pub CauseIn : {F X : Type 0} → Ghosts F → Result X Unready → F → F → Type 0
CauseIn F result a b = HasCause result (moment_of F a) (moment_of F b)
