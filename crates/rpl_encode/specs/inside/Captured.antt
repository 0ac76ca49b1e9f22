-- The trees that stand at the front of captures.
use Rattle.std.specs.Prelude.{◌≡◌, ℕ, List, [], ◌∷◌, ◌++◌}
use Rattle.rpl_core.specs.Captures.{all_named}
use Rattle.rpl_core.specs.Forest as F
use Rattle.rpl_core.specs.Forest.{Forest, flat}
use Rattle.rpl_core.specs.declared.caught.Caught.{Caught}
use Rattle.rpl_tree.specs.Trees.{node_as}
use Rattle.rpl_tree.specs.declared.node.Node.{Node}

-- no tree begins here: the captures end, or the tree around them does
abbrev pub IsAtEnd : List F.Caught → Type 0
IsAtEnd [] = Unit {0}
IsAtEnd (F.Begin label place ∷ more) = ⊥
IsAtEnd (F.Finish place ∷ more) = Unit {0}
IsAtEnd (F.Mark text place ∷ more) = ⊥

-- the captures begin with those of these trees, and no other tree begins after them
pub record BeginWith (name : ℕ → List ℕ) (f : Forest) (captures : List Caught) : Type 0 where
  pub more : List F.Caught
  pub ends : IsAtEnd more
  pub caught : all_named name captures ≡ flat f ++ more

-- the first of the trees has this node, and the captures begin with those of the other trees
pub record IsFirst (name : ℕ → List ℕ) (f : Forest) (node : Node) (captures : List Caught) : Type 0 where
  pub below : Forest
  pub after : Forest
  pub is : f ≡ node_as name node node.note below after
  pub others : BeginWith name after captures

-- the tree around the captures ends at this place, before the other captures
abbrev pub EndsAt : List Caught → ℕ → List Caught → Type 0
EndsAt captures end others =
    (name : ℕ → List ℕ) (f : Forest) (place : ℕ) (more : List F.Caught)
    → all_named name captures ≡ flat f ++ F.Finish place ∷ more → (end ≡ place) × (all_named name others ≡ more)

abbrev pub NeverEnds : List Caught → Type 0
NeverEnds captures =
    (name : ℕ → List ℕ) (f : Forest) (place : ℕ) (more : List F.Caught)
    → all_named name captures ≡ flat f ++ F.Finish place ∷ more → ⊥
