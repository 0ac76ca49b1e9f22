-- What a loading leaves of the files.
use Rattle.std.specs.Prelude.{◌≡◌, false, Result}
use Rattle.rosie_io.specs.Loading.{NotFewer}
use Rattle.rosie_io.specs.declared.outside.Source.{Ghosts}
use Rattle.rpl_package.specs.inside.Reading.{HasCause}
use Rattle.rpl_scope.specs.declared.fault.Stop.{Stop}

-- the counts of failed reads and opens tell why the call stopped; the bytes that were taken are no fewer, the tree is
-- the same, and no file is left open where none was
pub record LeavesFiles {F X : Type 0} (S : Ghosts F) (result : Result X Stop) (old new : F) : Type 0 where
  pub cause : HasCause result (S.faults old) (S.faults new) (S.failed_opens old) (S.failed_opens new)
  pub taken : NotFewer (S.taken old) (S.taken new)
  pub tree : S.tree new ≡ S.tree old
  pub closed : S.is_open old ≡ false → S.is_open new ≡ false
