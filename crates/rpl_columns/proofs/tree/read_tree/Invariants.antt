use Rattle.std.proofs.Common.{◌≡◌, ◌≤◌, ◌-◌, suc, length, drop, map}
use Rattle.rpl_columns.specs.Nodes.{nodes_in, seen, tree_in, with_front}
use Rattle.rpl_columns.proofs.tree.read_tree.Given as goal

-- the tree's nodes are those that were found, and those that are left
abbrev pub invariant-loop-node : goal.invariant-loop-node
invariant-loop-node l = (l.reached.at ≤ length l.line) × (l.reached.depth ≤ l.reached.at)
    × (length l.nodes.items ≤ l.reached.at)
    × (tree_in l.line ≡ with_front (map (seen l.line) l.nodes.items)
    (nodes_in (suc (length l.line - length l.nodes.items)) l.reached.depth (drop l.reached.at l.line)))

abbrev pub decreases-loop-node : goal.decreases-loop-node
decreases-loop-node l = length l.line - l.reached.at
