use Rattle.std.proofs.Common.{◌≡◌, ◌++◌}
use Rattle.std.specs.Prelude.{◌||◌}
use Rattle.rpl_encode.specs.Answer.{line_by_line}
use Rattle.rpl_tree.specs.Trees.{below_root, trees_in}
use Rattle.rpl_encode.specs.inside.Children.{is_some_text, printed_texts}
use Rattle.rpl_encode.proofs.Listing.{texts_left}
use Rattle.rpl_encode.proofs.children.put_texts.Given as goal

-- what is written, with the texts that are left, is the whole, and a text was written or is left where there is one
abbrev pub invariant-loop-node : goal.invariant-loop-node
invariant-loop-node l =
    (l.out ++ (line_by_line (texts_left l.fronts l.line l.only_hits l.forest l.index l.left))
    ≡ l.initial.out ++ (line_by_line (printed_texts l.only_hits l.line (below_root (trees_in l.fronts l.forest)))))
    × ((l.some || is_some_text (texts_left l.fronts l.line l.only_hits l.forest l.index l.left))
    ≡ is_some_text (printed_texts l.only_hits l.line (below_root (trees_in l.fronts l.forest))))

abbrev pub decreases-loop-node : goal.decreases-loop-node
decreases-loop-node l = l.left
