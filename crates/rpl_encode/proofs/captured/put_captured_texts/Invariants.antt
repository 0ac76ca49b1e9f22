use Rattle.std.proofs.Common.{◌++◌, length}
use Rattle.rpl_core.specs.Forest.{Forest}
use Rattle.rpl_tree.specs.Trees.{below_root, label_in}
use Rattle.rpl_encode.specs.Answer.{line_by_line}
use Rattle.rpl_encode.specs.inside.Captured.{BeginWith}
use Rattle.rpl_encode.specs.inside.Children.{is_some_text, printed_texts}
use Rattle.rpl_encode.proofs.FirstTrees.{Left}
use Rattle.rpl_encode.proofs.captured.put_captured_texts.Given as goal

-- of whatever trees the captures are: what is written and what is left
abbrev pub invariant-loop-node : goal.invariant-loop-node
invariant-loop-node l = (f : Forest) → BeginWith (label_in l.fronts) f l.captures
    → Left l.fronts l.line l.only_hits l.rest l.out
    (l.initial.out ++ line_by_line (printed_texts l.only_hits l.line (below_root f))) l.some
    (is_some_text (printed_texts l.only_hits l.line (below_root f)))

abbrev pub decreases-loop-node : goal.decreases-loop-node
decreases-loop-node l = length l.rest
