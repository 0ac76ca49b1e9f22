use Rattle.std.proofs.Common.{◌≡◌, ℕ, ◌<◌, List, Some, None}
use Rattle.std.specs.Prelude.{slice_get}
use Rattle.rpl_scope.specs.Packages.{first_of}
use Rattle.rpl_scope.specs.declared.module.Entry.{Entry}
use Rattle.rpl_scope.proofs.names.has_none_of.Given as goal

abbrev pub invariant-loop-number : goal.invariant-loop-number
invariant-loop-number l = (i : ℕ) (q : List ℕ × Entry) → i < l.number → slice_get l.others i ≡ Some q
    → first_of q.0 l.names ≡ None
