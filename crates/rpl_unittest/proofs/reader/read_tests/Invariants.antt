use Rattle.std.proofs.Common.{◌≡◌, map, length}
use Rattle.rpl_unittest.specs.Comments.{AllSay}
use Rattle.rpl_unittest.proofs.reader.read_tests.Given as goal

abbrev pub invariant-loop-line : goal.invariant-loop-line
invariant-loop-line l =
    (goal.iterator-loop-line).can_next l.line-iterator ×
    (goal.iterator-loop-line).is_finite l.line-iterator ×
    (l.number ≡ length l.yielded) ×
    AllSay 1 (map (λ p. p.now) l.yielded) l.tests
