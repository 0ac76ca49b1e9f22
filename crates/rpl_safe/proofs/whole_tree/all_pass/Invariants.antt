use Rattle.std.proofs.Common.{◌≡◌, ◌<◌, ℕ, Some}
use Rattle.std.specs.Prelude.{true, slice_get}
use Rattle.rpl_core.specs.Instr.{Instr}
use Rattle.rpl_core.specs.Program.{instructions}
use Rattle.rpl_safe.specs.declared.marks.Mark.{Mark}
use Rattle.rpl_safe.specs.inside.Marks.{marks_at, tree_test}
use Rattle.rpl_safe.proofs.whole_tree.all_pass.Given as goal

abbrev pub invariant-loop-address : goal.invariant-loop-address
invariant-loop-address l =
    (a : ℕ) (m : Mark) (i : Instr) → a < l.address → marks_at l.marks a ≡ Some m
    → slice_get (instructions l.program) a ≡ Some i → tree_test (marks_at l.marks) l.called i a m ≡ true
