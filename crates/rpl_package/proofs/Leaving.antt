-- What calls that come one after the other leave of the files.
use Rattle.std.proofs.Common.{arith, ◌≡◌, refl, sym, subst, ◌∙◌}
use Rattle.std.specs.Prelude.{Result, Ok, Err, IsErrAnd}
use Rattle.rosie_io.specs.declared.outside.Source.{Ghosts}
use Rattle.rpl_scope.specs.declared.fault.Stop.{Stop}
use Rattle.rpl_package.specs.inside.Reading.{IsLoud, StopCause}
use Rattle.rpl_package.specs.inside.Leaving.{LeavesFiles}
use Rattle.rpl_package.proofs.Causes.{fewer, loud_cause}

-- a call that stops and reads nothing
pub unread : {F X : Type 0} (S : Ghosts F) (s : Stop) (files : F) → IsLoud s → LeavesFiles {X = X} S (Err s) files files
unread S s files loud =
    record {
      cause = loud_cause s _ _ _ _ loud refl refl;
      taken = λ lt. omega arith;
      tree = refl;
      closed = λ h. h;
    }

-- two calls of which neither stops
pub after :
    {F X Y Z : Type 0} (S : Ghosts F) (x : X) (y : Y) (z : Z) (a b c : F)
    → LeavesFiles S (Ok x) a b → LeavesFiles S (Ok y) b c → LeavesFiles S (Ok z) a c
after S x y z a b c first last =
    record {
      cause = (last.cause.0 ∙ first.cause.0, last.cause.1 ∙ first.cause.1);
      taken = fewer _ _ _ first.taken last.taken;
      tree = last.tree ∙ first.tree;
      closed = λ h. last.closed (first.closed h);
    }

-- where nothing is done
pub still : {F X : Type 0} (S : Ghosts F) (x : X) (files : F) → LeavesFiles S (Ok x) files files
still S x files = record { cause = (refl, refl); taken = λ lt. omega arith; tree = refl; closed = λ h. h }

-- a stop that is passed on
pub passed : {F X Y : Type 0} (S : Ghosts F) (result : Result X Stop) (s : Stop) (a b : F)
    → IsErrAnd result (λ t. t ≡ s) → LeavesFiles {X = Y} S (Err s) a b → LeavesFiles S result a b
passed S (Ok x) s a b h l = absurd h
passed S (Err t) s a b h l =
    record {
      cause = subst (λ u. StopCause u (S.faults a) (S.faults b) (S.failed_opens a) (S.failed_opens b)) (sym h) l.cause;
      taken = l.taken;
      tree = l.tree;
      closed = l.closed;
    }
