-- How nodes are taken from a list.
use Rattle.std.specs.Prelude.{◌≡◌, ℕ, List, [], ◌∷◌, ◌++◌, drop, Option, None}
use Rattle.regex_class.specs.Ranges.{Range}
use Rattle.rpl_codegen.specs.declared.size.Node.{Node}
use Rattle.rpl_codegen.specs.declared.size.Nodes.{Nodes}

-- the nodes that aren't taken
abbrev pub left : Nodes → List Node
left ns = drop ns.next ns.list.items

-- the size of the first node, its number in a sequence, and its head
abbrev pub size_at : List Node → ℕ
size_at [] = 0
size_at (n ∷ ns) = n.size

abbrev pub part_at : List Node → ℕ
part_at [] = 0
part_at (n ∷ ns) = n.part

abbrev pub head_at : List Node → Option (List Range)
head_at [] = None
head_at (n ∷ ns) = n.head

-- the list begins with the other
pub record Begins (xs ys : List Node) : Type 0 where
  pub rest : List Node
  pub is : xs ≡ ys ++ rest

-- just these nodes are taken
pub record Takes (old new : Nodes) (xs : List Node) : Type 0 where
  pub same : new.list.items ≡ old.list.items
  pub taken : left old ≡ xs ++ left new
