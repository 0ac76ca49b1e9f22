-- What one capture does to the nodes so far, and to the places of those that are open, the innermost first.
use Rattle.std.specs.Prelude.{ℕ, ◌-◌, List, [], ◌∷◌, ◌++◌, length, Option, None, Some, slice_get, slice_set}
use Rattle.rpl_core.specs.declared.caught.Caught.{Caught}
use Rattle.rpl_core.specs.declared.caught.Caught.TheVariants.{Begin, Finish, Note}
use Rattle.rpl_tree.specs.declared.node.Node.{Node}

pub record Built : Type 0 where
  pub nodes : List Node
  pub open_at : List ℕ

abbrev pub opened : ℕ → ℕ → Node
opened label place = record { label = label; note = None; start = place; end = place; below = 0 }

abbrev pub noted : ℕ → ℕ → Node
noted text place = record { label = text; note = Some text; start = place; end = place; below = 0 }

abbrev pub close_node : ℕ → ℕ → Option Node → List Node → List Node
close_node at place None nodes = nodes
close_node at place (Some n) nodes = slice_set nodes at (record n { end = place; below = length nodes - at - 1 })

abbrev pub closed : ℕ → Built → List ℕ → Built
closed place b [] = b
closed place b (at ∷ more) = record { nodes = close_node at place (slice_get b.nodes at) b.nodes; open_at = more }

abbrev pub taken_in : Built → Caught → Built
taken_in b (Begin label place) =
    record { nodes = b.nodes ++ opened label place ∷ []; open_at = length b.nodes ∷ b.open_at }
taken_in b (Finish place) = closed place b b.open_at
taken_in b (Note text place) = record { nodes = b.nodes ++ noted text place ∷ []; open_at = b.open_at }
