-- Stops, and what follows them.
use Rattle.std.proofs.Common.{◌≡◌, ap, sym, subst, false, ◌∙◌}
use Rattle.std.specs.Prelude.{Result, Ok, Err, IsErrAnd}
use Rattle.rpl_scope.specs.declared.fault.LoadFault.{LoadFault}
use Rattle.rpl_scope.specs.declared.fault.Stop.{Stop}
use Rattle.rpl_scope.specs.declared.fault.Stop.TheVariants.{Memory, Fault}
use Rattle.rpl_scope.specs.Faults.{Or, ◌>>=◌, is_silent, StopIs, IsStop, Gives}

-- a stop with a fault, where that fault is what is defined
pub told : (A : Type 0) (s : Stop) (f : LoadFault) → IsStop s f → is_silent f.kind ≡ false → StopIs {A = A} s (Err f)
told A Memory f h l = tt
told A (Fault g) f h l = (ap (λ x. is_silent x.kind) h ∙ l, ap Err (sym h))

-- what stops stops all that follows
pub stops : {A B : Type 0} (s : Stop) (r : Or A) (k : A → Or B) → StopIs s r → StopIs s (r >>= k)
stops Memory r k h = tt
stops (Fault f) r k h = (h.0, ap (λ x. x >>= k) h.1)

-- what `?` returns stops as the call did
pub passed_on : {A X : Type 0} (view : X → A) (res : Result X Stop) (s : Stop) (r : Or A) → IsErrAnd res (λ t. t ≡ s)
    → StopIs s r → Gives view res r
passed_on view (Ok x) s r h k = absurd h
passed_on view (Err t) s r h k = subst (λ u. StopIs u r) (sym h) k
