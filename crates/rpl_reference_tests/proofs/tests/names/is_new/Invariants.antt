use Rattle.std.proofs.Common.{◌≢◌, ℕ, ◌<◌, Some}
use Rattle.std.specs.Prelude.{slice_get}
use Rattle.rpl_core.specs.Listed.{rules_of}
use Rattle.rpl_core.specs.Table.{names_of}
use Rattle.rpl_reference_tests.proofs.tests.names.is_new.Given as goal

abbrev pub invariant-loop-number : goal.invariant-loop-number
invariant-loop-number l = (k : ℕ) → k < l.number → slice_get (names_of (rules_of l.rules)) k ≢ Some l.name
