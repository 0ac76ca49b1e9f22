-- Loading step by step: the paths that are asked for on the way, and what comes of it.
use Rattle.std.specs.Prelude.{◌≡◌, ◌⊎◌, ℕ, List, [], ◌∷◌, ◌++◌, map, encode_utf8_all, Result, Ok, Err}
use Rattle.std.specs.List.{Contains}
use Rattle.rpl_scope.specs.declared.fault.LoadFault.{LoadFault}
use Rattle.rpl_scope.specs.declared.fault.LoadKind.{LoadKind}
use Rattle.rpl_scope.specs.declared.fault.LoadKind.TheVariants.{NoMemory, ReadFault}
pub use Rattle.rpl_names.specs.Steps.{Outcome, at_once, asked_then, and_then, each_in_turn}

-- ---- what is told

-- what comes of some files is told: the files tell, or no path is asked for
abbrev pub IsTold : {P : Type 0} → (tells : Type 0) → (asked : List P) → Type 0
IsTold tells asked = tells ⊎ (asked ≡ [])

-- it holds of an outcome, where that is told
abbrev pub IfTold : {A : Type 0} → (tells : Type 0) → (Outcome A → Type 0) → Outcome A → Type 0
IfTold tells Holds o = IsTold tells o.asked → Holds o

-- ---- what a call may answer

-- a failed read is that of a path that is asked for; any other fault is the first one
abbrev pub Explains : {A : Type 0} → LoadKind → LoadFault → Outcome A → Type 0
Explains NoMemory f o = Unit {0}
Explains ReadFault f o = Contains o.asked f.file
Explains _ f o = o.answer ≡ Err f

-- ---- which paths a call asked to be opened

-- the second list begins with the first
abbrev pub IsFront : {A : Type 0} → List A → List A → Type 0
IsFront {A} xs ys = (more : List A) × (ys ≡ xs ++ more)

-- this stands last in the list
abbrev pub EndsWith : {A : Type 0} → A → List A → Type 0
EndsWith {A} x xs = (front : List A) × (xs ≡ front ++ x ∷ [])

-- paths as they are opened: in UTF-8
abbrev pub in_bytes : List (List ℕ) → List (List ℕ)
in_bytes = map encode_utf8_all

-- the paths ps were asked for, and then came a fault of this kind: memory may run out on the way, and a read fails of
-- the path that was asked for last; any other fault comes when all the paths were asked for
abbrev pub AskedTill : LoadKind → LoadFault → (all ps : List (List ℕ)) → Type 0
AskedTill NoMemory f all ps = IsFront ps all
AskedTill ReadFault f all ps = IsFront ps all × EndsWith f.file ps
AskedTill _ f all ps = ps ≡ all

-- the paths ps were asked for, and then came this answer
abbrev pub AskedFor : {X : Type 0} → Result X LoadFault → (all ps : List (List ℕ)) → Type 0
AskedFor (Ok x) all ps = ps ≡ all
AskedFor (Err f) all ps = AskedTill f.kind f all ps

-- the paths that were asked to be opened before a call, and those after it: with those that it asked for, in order
abbrev pub HasAsked : {X A : Type 0} → (before now : List (List ℕ)) → Result X LoadFault → Outcome A → Type 0
HasAsked before now result o =
    (ps : List (List ℕ)) × (now ≡ before ++ in_bytes ps) × AskedFor result o.asked ps
