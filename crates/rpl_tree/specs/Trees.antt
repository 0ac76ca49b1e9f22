-- The trees that a flat list of nodes stands for, where a number stands for the text that it names.
use Rattle.std.specs.Prelude.{◌≡◌, ℕ, zero, suc, List, [], ◌∷◌, ◌++◌, take, drop, length, All, Option, None, Some}
use Rattle.std.specs.Prelude.{IsSome, slice_index_or}
use Rattle.rpl_core.specs.Forest.{Forest, NoTree, Tree, Noted, flat}
use Rattle.rpl_core.specs.Captures.{all_named}
use Rattle.rpl_core.specs.declared.caught.Caught.{Caught}
use Rattle.rpl_core.specs.declared.caught.Caught.TheVariants.{Begin, Finish, Note}
use Rattle.rpl_tree.specs.declared.node.Node.{Node}

-- one node over the trees below it, and the trees after it; a note has nothing below
abbrev pub node_as : (ℕ → List ℕ) → Node → Option ℕ → Forest → Forest → Forest
node_as name n None below behind = Tree (name n.label) n.start n.end below behind
node_as name n (Some text) below behind = Noted (name text) n.start behind

-- the trees of the nodes, of which there are at most so many
abbrev pub trees_of : ℕ → (ℕ → List ℕ) → List Node → Forest
trees_of zero name nodes = NoTree
trees_of (suc most) name [] = NoTree
trees_of (suc most) name (n ∷ nodes) =
    node_as name n n.note (trees_of most name (take n.below nodes)) (trees_of most name (drop n.below nodes))

-- the first node's tree has the next `below` nodes under it, and the trees of the others come after it
abbrev pub forest_of : (ℕ → List ℕ) → List Node → Forest
forest_of name nodes = trees_of (length nodes) name nodes

-- the text with this number
abbrev pub label_in : List (List ℕ) → ℕ → List ℕ
label_in labels number = slice_index_or labels number []

-- the trees of nodes whose numbers are those of these texts
abbrev pub trees_in : List (List ℕ) → List Node → Forest
trees_in labels = forest_of (label_in labels)

-- the trees inside the first one, which is the root
abbrev pub below_root : Forest → Forest
below_root (Tree label start end below behind) = below
below_root _ = NoTree

-- The nodes write out the captures, number by number: a tree's node has its label, its places and the number of the
-- nodes below it, which are those directly after it; a note's has its text, its place twice, and nothing below.
pub data Write : List Node → List Caught → Type 0 where
  nothing : Write [] []
  a_tree :
      (label start end : ℕ) (below behind : List Node) (inside after : List Caught) →
      Write below inside → Write behind after →
      Write
      (record { label = label; note = None; start = start; end = end; below = length below } ∷ (below ++ behind))
      (Begin label start ∷ (inside ++ Finish end ∷ after))
  a_note :
      (text place : ℕ) (behind : List Node) (after : List Caught) →
      Write behind after →
      Write
      (record { label = text; note = Some text; start = place; end = place; below = 0 } ∷ behind)
      (Note text place ∷ after)

-- where it is a note, it has nothing below
abbrev pub IsLeaf : Node → Type 0
IsLeaf n = IsSome n.note → n.below ≡ 0

-- the nodes stand for just these trees under the names of the numbers, and for just these captures
pub record Builds (caught : List Caught) (nodes : List Node) (name : ℕ → List ℕ) (f : Forest) : Type 0 where
  pub trees : forest_of name nodes ≡ f
  pub captures : Write nodes caught
  pub leaves : All IsLeaf nodes

-- Where the captures are the list of some trees, under any names of the numbers, the nodes stand for these trees.
abbrev pub BuildsEach : List Caught → List Node → Type 0
BuildsEach caught nodes =
    (name : ℕ → List ℕ) (f : Forest) → all_named name caught ≡ flat f → Builds caught nodes name f
