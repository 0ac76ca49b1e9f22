-- The lines that are trees: exactly those that `rosie` writes.
use Rattle.std.specs.Prelude.{ℕ, suc, ◌≡◌, Bool, true, false, List, [], ◌∷◌, ◌++◌, length, flat_map, codes, Some}
use Rattle.rpl_columns.specs.Nodes.{Seen, tree_in}
use Rattle.rpl_columns.specs.Spelling.{number_count}
use Rattle.json.specs.Print.{escape, quoted}

-- A node, the nodes below it, and those after it in the same list. A place is as its digits spell it.
pub data Trees : Type 0 where
  no_tree : Trees
  tree : (label start end text : List ℕ) (below after : Trees) → Trees

-- digits of a number that isn't 0, and nothing else
abbrev pub IsPlace : List ℕ → Type 0
IsPlace digits = number_count digits ≡ Some (length digits)

unfoldable pub HavePlaces : Trees → Type 0
HavePlaces no_tree = Unit {0}
HavePlaces (tree label start end text below after) =
    IsPlace start × IsPlace end × HavePlaces below × HavePlaces after

-- the objects below a node
abbrev pub subs : List (List ℕ) → List ℕ
subs [] = []
subs (first ∷ more) = codes ",\"subs\":[" ++ (first ++ (flat_map (λ o. 44 ∷ o) more ++ codes "]"))

-- the object of a node
abbrev pub object : (label start end text : List ℕ) → (below : List (List ℕ)) → List ℕ
object label start end text below =
    codes "{\"type\":" ++ (quoted label
    ++ (codes ",\"s\":" ++ (start
    ++ (codes ",\"e\":" ++ (end
    ++ (codes ",\"data\":" ++ (quoted text ++ (subs below ++ codes "}"))))))))

-- the object of each tree
unfoldable pub objects : Trees → List (List ℕ)
objects no_tree = []
objects (tree label start end text below after) =
    object label start end text (objects below) ∷ objects after

abbrev pub is_empty : Trees → Bool
is_empty no_tree = true
is_empty (tree label start end text below after) = false

-- the nodes in the order in which they are written; the outermost are in so many nodes
unfoldable pub in_order : ℕ → Trees → List Seen
in_order depth no_tree = []
in_order depth (tree label start end text below after) =
    record {
      spelled = record { label = escape label; start = start; end = end; text = escape text };
      depth = depth;
      leaf = is_empty below;
    } ∷ (in_order (suc depth) below ++ in_order depth after)

-- The law: the nodes of a line are found exactly if the line is the object of a tree, and are those of that tree.
pub record IsOneTree (line : List ℕ) (nodes : List Seen) : Type 0 where
  pub trees : Trees
  pub places : HavePlaces trees
  pub one : objects trees ≡ line ∷ []
  pub nodes_are : in_order 0 trees ≡ nodes

abbrev pub ReadsTrees : Type 0
ReadsTrees =
    ((line : List ℕ) (nodes : List Seen) → tree_in line ≡ Some nodes → IsOneTree line nodes)
    × ((line : List ℕ) (nodes : List Seen) → IsOneTree line nodes → tree_in line ≡ Some nodes)
