-- Results that may be a first fault.
use Rattle.std.specs.Prelude.{ℕ, List, [], ◌∷◌, Option, Some, None, Result, Ok, Err}
use Rattle.rpl_scope.specs.declared.fault.LoadFault.{LoadFault}
use Rattle.rpl_scope.specs.declared.fault.LoadKind.{LoadKind}

abbrev pub Or : Type 0 → Type 0
Or A = Result A LoadFault

abbrev pub fault_at : List ℕ → ℕ → LoadKind → LoadFault
fault_at f at k = record { file = f; at = at; kind = k }

abbrev pub fault : {A : Type 0} → List ℕ → ℕ → LoadKind → Or A
fault f at k = Err (fault_at f at k)

infixl 10 ◌>>=◌
abbrev pub ◌>>=◌ : {A B : Type 0} → Or A → (A → Or B) → Or B
(Ok x) >>= f = f x
(Err e) >>= f = Err e

-- steps in turn, up to the first fault
abbrev pub in_turn : {A S : Type 0} → (A → S → Or S) → List A → S → Or S
in_turn step [] s = Ok s
in_turn step (x ∷ xs) s = step x s >>= in_turn step xs

-- the first of two checks that finds a fault
infixr 12 ◌orelse◌
abbrev pub ◌orelse◌ : Option LoadFault → Option LoadFault → Option LoadFault
(Some f) orelse g = Some f
None orelse g = g

-- the first fault of some checks, one after the other
abbrev pub first_fault : {A : Type 0} → (A → Option LoadFault) → List A → Option LoadFault
first_fault check [] = None
first_fault check (x ∷ xs) = check x orelse first_fault check xs

abbrev pub unless : {A : Type 0} → Option LoadFault → A → Or A
unless None x = Ok x
unless (Some f) x = Err f
