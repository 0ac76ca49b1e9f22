-- What holds of the tests of all files, and of all trees.
use Rattle.std.specs.Prelude.{◌≡◌, ◌⊎◌, ℕ, List}
use Rattle.rpl_core.specs.Forest.{Forest, NoTree, Tree}
use Rattle.rpl_core.specs.declared.caught.Caught.{Caught}
use Rattle.rpl_tree.specs.Trees.{Builds}
use Rattle.rpl_tree.specs.declared.node.Node.{Node}
use Rattle.rpl_unittest.specs.Comments.{HasTests, HasBad}
use Rattle.rpl_unittest.specs.Seen.{AreOneTree}
use Rattle.rpl_unittest.specs.declared.test.Test.{Test}

-- a text has its tests, or a first bad line, one of the two alone, and never both
pub record OneAnswer (text : List ℕ) : Type 0 where
  pub some : ((tests : List Test) × HasTests text tests) ⊎ ((k : ℕ) × HasBad text k)
  pub tests : (a b : List Test) → HasTests text a → HasTests text b → a ≡ b
  pub bad : (j k : ℕ) → HasBad text j → HasBad text k → j ≡ k
  pub apart : (a : List Test) (k : ℕ) → HasTests text a → HasBad text k → ⊥

abbrev pub OneAnswerLaw : Type 0
OneAnswerLaw = (text : List ℕ) → OneAnswer text

-- the nodes that were made of the captures of one tree are one tree, whatever the names of its numbers
abbrev pub BuiltAsOneTree : Type 0
BuiltAsOneTree =
    (caught : List Caught) (nodes : List Node) (name : ℕ → List ℕ) (label : List ℕ) (start end : ℕ) (below : Forest) →
    Builds caught nodes name (Tree label start end below NoTree) → AreOneTree nodes
