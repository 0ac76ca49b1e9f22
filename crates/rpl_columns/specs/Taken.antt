-- Which nodes of a tree a column takes, defined on the tree itself.
use Rattle.std.specs.Prelude.{◌≡◌, if◌then◌else◌, List, [], ◌∷◌, ◌++◌, Option, None, Some, ℕ}
use Rattle.json.specs.Print.{escape}
use Rattle.rpl_columns.specs.Columns.{is_named, picked, piece_of}
use Rattle.rpl_columns.specs.Nodes.{Spelled}
use Rattle.rpl_columns.specs.Trees.{Trees, in_order, no_tree, tree}
use Rattle.rpl_columns.specs.declared.column.Column.{Column}

-- a node as it is spelled
abbrev pub node : (label start end text : List ℕ) → Spelled
node label start end text = record { label = escape label; start = start; end = end; text = escape text }

-- all nodes of trees, and those that are inside a node of this name
abbrev pub nodes_of : Trees → List Spelled
nodes_of no_tree = []
nodes_of (tree label start end text below after) = node label start end text ∷ (nodes_of below ++ nodes_of after)

abbrev pub inside : List ℕ → Trees → List Spelled
inside name no_tree = []
inside name (tree label start end text below after) =
    (if is_named (escape label) name then nodes_of below else inside name below) ++ inside name after

-- what a column takes from nodes: the part that it asks for, of each node of its type
abbrev pub parts_in : Column → List Spelled → List (List ℕ)
parts_in c [] = []
parts_in c (n ∷ ns) = if is_named n.label c.label then piece_of c.part n ∷ parts_in c ns else parts_in c ns

-- the nodes among which it looks
abbrev pub among : Option (List ℕ) → Trees → List Spelled
among None t = nodes_of t
among (Some outer) t = inside outer t

-- the law: these are the nodes that a column takes from a line that is a tree
abbrev pub TakesNodes : Type 0
TakesNodes = (c : Column) (t : Trees) → picked c None (in_order 0 t) ≡ parts_in c (among c.outer t)
