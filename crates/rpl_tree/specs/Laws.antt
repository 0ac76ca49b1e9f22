-- The trees of a flat list, said by its first node alone.
use Rattle.std.specs.Prelude.{◌≡◌, ℕ, List, [], ◌∷◌, take, drop}
use Rattle.rpl_core.specs.Forest.{NoTree}
use Rattle.rpl_tree.specs.Trees.{node_as, forest_of}
use Rattle.rpl_tree.specs.declared.node.Node.{Node}

-- No nodes are no trees. Else the first node stands over the trees of the next nodes, as many as it counts below it,
-- and the trees of all others come after it.
pub record AreTreesByFirstNode : Type 0 where
  pub none : (name : ℕ → List ℕ) → forest_of name [] ≡ NoTree
  pub first : (name : ℕ → List ℕ) (n : Node) (others : List Node)
      → forest_of name (n ∷ others)
      ≡ node_as name n n.note (forest_of name (take n.below others)) (forest_of name (drop n.below others))
