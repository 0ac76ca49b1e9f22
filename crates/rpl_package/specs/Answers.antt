-- What the public calls answer.
use Rattle.std.specs.Prelude.{◌≡◌, ◌≤◌, ◌⊎◌, ℕ, [], Result, Ok, Err}
use Rattle.rosie_io.specs.Counts.{Rose}
use Rattle.rpl_scope.specs.declared.fault.LoadFault.{LoadFault}
use Rattle.rpl_scope.specs.declared.fault.LoadKind.{LoadKind}
use Rattle.rpl_scope.specs.declared.fault.LoadKind.TheVariants.{NoMemory, ReadFault}
use Rattle.rpl_scope.specs.declared.fault.Stop.{Stop}
use Rattle.rpl_scope.specs.declared.fault.Stop.TheVariants.{Memory, Fault}
use Rattle.rpl_package.specs.Asking.{Outcome, Explains}

-- the answer, as it is seen; or the first fault; or a failed read of a path that is asked for; or out of memory
abbrev pub Answers : {X A : Type 0} → (X → A) → Result X LoadFault → Outcome A → Type 0
Answers view (Ok x) o = o.answer ≡ Ok (view x)
Answers view (Err f) o = Explains f.kind f o

-- out of memory has no file and no place
abbrev pub HasNoPlace : LoadFault → Type 0
HasNoPlace f = f.kind ≡ NoMemory → (f.file ≡ []) × (f.at ≡ 0)

-- a read fault comes only where the count of failed reads or that of failed opens rose; any other answer leaves both,
-- but because memory ran out, where neither falls
abbrev pub KindOf : LoadKind → (reads0 reads1 opens0 opens1 : ℕ) → Type 0
KindOf NoMemory r0 r1 o0 o1 = (r0 ≤ r1) × (o0 ≤ o1)
KindOf ReadFault r0 r1 o0 o1 = (r0 ≤ r1) × (o0 ≤ o1) × (Rose r0 r1 ⊎ Rose o0 o1)
KindOf _ r0 r1 o0 o1 = (r1 ≡ r0) × (o1 ≡ o0)

abbrev pub IsCaused : {X : Type 0} → Result X LoadFault → (reads0 reads1 opens0 opens1 : ℕ) → Type 0
IsCaused (Ok x) r0 r1 o0 o1 = (r1 ≡ r0) × (o1 ≡ o0)
IsCaused (Err f) r0 r1 o0 o1 = KindOf f.kind r0 r1 o0 o1

-- a stop as a fault
abbrev pub IsFault : Stop → LoadFault → Type 0
IsFault Memory f = f ≡ record { file = []; at = 0; kind = NoMemory }
IsFault (Fault g) f = f ≡ g
