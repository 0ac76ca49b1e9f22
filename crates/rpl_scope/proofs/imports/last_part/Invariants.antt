use Rattle.std.proofs.Common.{◌≡◌, []}
use Rattle.std.specs.Prelude.{chars}
use Rattle.std.specs.String.{string_bytes}
use Rattle.rpl_scope.specs.Imports.{last_part}
use Rattle.rpl_scope.proofs.imports.last_part.Given as goal

abbrev pub invariant-loop-c : goal.invariant-loop-c
invariant-loop-c l = chars (string_bytes l.last) ≡ last_part [] l.yielded
