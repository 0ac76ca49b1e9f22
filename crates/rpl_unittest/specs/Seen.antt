-- The nodes of a match of one tree.
use Rattle.std.specs.Prelude.{◌≡◌, List, [], ◌∷◌, length, All, None}
use Rattle.rpl_tree.specs.Trees.{IsLeaf}
use Rattle.rpl_tree.specs.declared.node.Node.{Node}

-- the nodes are those of one tree: the first is its root, and all others are below it
abbrev pub AreOneTree : List Node → Type 0
AreOneTree [] = ⊥
AreOneTree (n ∷ ns) = (n.note ≡ None) × (n.below ≡ length ns) × All IsLeaf (n ∷ ns)
