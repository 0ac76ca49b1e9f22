-- Causes of a stop: a failed read, and nothing else, is a read fault.
use Rattle.std.proofs.Common.{arith, ◌≡◌, ◌≤◌, ℕ, ap, sym, subst, false, true≢false, ◌∙◌, ◌⊎◌}
use Rattle.rosie_io.specs.Counts.{Rose}
use Rattle.rosie_io.specs.Loading.{NotFewer}
use Rattle.std.specs.Prelude.{Result, Ok, Err, IfErr}
use Rattle.rpl_scope.specs.declared.fault.LoadFault.{LoadFault}
use Rattle.rpl_scope.specs.declared.fault.LoadKind.{LoadKind}
use Rattle.rpl_scope.specs.declared.fault.LoadKind.TheVariants as K
use Rattle.rpl_scope.specs.declared.fault.Stop.{Stop}
use Rattle.rpl_scope.specs.declared.fault.Stop.TheVariants.{Memory, Fault}
use Rattle.rpl_scope.specs.Faults.{Or, is_silent, StopIs, IsStop, Gives}
use Rattle.rpl_package.specs.inside.Reading.{KindCause, StopCause, IsLoud}

-- a call that reads nothing stops with no read fault
kind_cause : (k : LoadKind) (r0 r1 o0 o1 : ℕ) → is_silent k ≡ false → r1 ≡ r0 → o1 ≡ o0 → KindCause k r0 r1 o0 o1
kind_cause K.NoMemory r0 r1 o0 o1 h a b = absurd (true≢false h)
kind_cause K.ReadFault r0 r1 o0 o1 h a b = absurd (true≢false h)
kind_cause _ r0 r1 o0 o1 h a b = (a, b)

-- a stop for a failed read, where a count rose
pub read_cause : (s : Stop) (f : LoadFault) (r0 r1 o0 o1 : ℕ) → IsStop s f → f.kind ≡ K.ReadFault
    → (r0 ≤ r1) × (o0 ≤ o1) × (Rose r0 r1 ⊎ Rose o0 o1) → StopCause s r0 r1 o0 o1
read_cause Memory f r0 r1 o0 o1 h k c = (c.0, c.1)
read_cause (Fault g) f r0 r1 o0 o1 h k c = subst (λ x. KindCause x r0 r1 o0 o1) (sym (ap (λ x. x.kind) h ∙ k)) c

-- a call that reads nothing is loud
pub told_loud : (s : Stop) (f : LoadFault) → IsStop s f → is_silent f.kind ≡ false → IsLoud s
told_loud Memory f h l = tt
told_loud (Fault g) f h l = ap (λ x. is_silent x.kind) h ∙ l

pub loud_of : {A : Type 0} (s : Stop) (r : Or A) → StopIs s r → IsLoud s
loud_of Memory r h = tt
loud_of (Fault f) r h = h.0

pub all_loud : {X A : Type 0} (see : X → A) (res : Result X Stop) (r : Or A) → Gives see res r → IfErr res IsLoud
all_loud see (Ok x) r h = tt
all_loud see (Err s) r h = loud_of s r h

pub loud_cause : (s : Stop) (r0 r1 o0 o1 : ℕ) → IsLoud s → r1 ≡ r0 → o1 ≡ o0 → StopCause s r0 r1 o0 o1
loud_cause Memory r0 r1 o0 o1 h a b = (omega (arith, a), omega (arith, b))
loud_cause (Fault f) r0 r1 o0 o1 h a b = kind_cause f.kind r0 r1 o0 o1 h a b

-- ---- the bytes that were taken

pub fewer : (a b c : ℕ) → NotFewer a b → NotFewer b c → NotFewer a c
fewer a b c h k = λ lt. let j = k lt in let i = h (omega (arith, lt, j)) in omega (arith, i, j)
