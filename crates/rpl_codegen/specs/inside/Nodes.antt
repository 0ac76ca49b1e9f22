-- What is known of each core in a core before the code is written, in the order in which the code is.
use Rattle.std.specs.Prelude.{ℕ, zero, suc, ◌+◌, ◌-◌, List, [], ◌∷◌, ◌++◌, Option, None}
use Rattle.regex_class.specs.Ranges.{Range}
use Rattle.rpl_core.specs.Core.{Core, Set, Seq, Choice, Many, Not, And, Behind, Call, Capture, Note, Start, End, Halt}
use Rattle.rpl_core.specs.Core.{Cores, NoMore, Then}
use Rattle.rpl_core.specs.Head as H
use Rattle.rpl_codegen.specs.declared.size.Node.{Node}
use Rattle.rpl_codegen.specs.inside.Sizes.{capped_len, len}

-- a core's size, and the head that is tested before it, if one is
abbrev pub node : Core → Option (List Range) → Node
node p h = record { size = capped_len p; part = 0; head = h }

-- the size of a part of a sequence, and its number there
abbrev pub part_node : ℕ → Core → Node
part_node k p = record { size = capped_len p; part = k; head = None }

-- a part of n instructions has these nodes, and one that makes no code has none
abbrev pub part_nodes : ℕ → List Node → List Node
part_nodes zero ns = []
part_nodes (suc n) ns = ns

-- a look-behind has its body's nodes where there is a length to try
abbrev pub behind_nodes : ℕ → List Node → List Node
behind_nodes zero ns = []
behind_nodes (suc n) ns = ns

-- the nodes of the cores in a core, each before those in it
abbrev mutual
  pub inner_nodes : Core → List Node
  inner_nodes (Set s) = []
  inner_nodes (Seq ps) = parts_nodes 0 ps
  inner_nodes (Choice ps) = choice_nodes ps
  inner_nodes (Many p) = node p None ∷ inner_nodes p
  inner_nodes (Not p) = node p None ∷ inner_nodes p
  inner_nodes (And p) = node p None ∷ inner_nodes p
  inner_nodes (Behind least most p) = behind_nodes (most + 1 - least) (node p None ∷ inner_nodes p)
  inner_nodes (Call r) = []
  inner_nodes (Capture c p) = node p None ∷ inner_nodes p
  inner_nodes (Note x) = []
  inner_nodes Start = []
  inner_nodes End = []
  inner_nodes Halt = []

  -- those of the parts that make code; the first part has the number k
  pub parts_nodes : ℕ → Cores → List Node
  parts_nodes k NoMore = []
  parts_nodes k (Then p ps) = part_nodes (len p) (part_node k p ∷ inner_nodes p) ++ parts_nodes (k + 1) ps

  -- those of the parts of a choice: a part that others follow is tested
  pub choice_nodes : Cores → List Node
  choice_nodes NoMore = []
  choice_nodes (Then p NoMore) = node p None ∷ inner_nodes p
  choice_nodes (Then p (Then q ps)) = node p (H.head p) ∷ (inner_nodes p ++ choice_nodes (Then q ps))

-- the nodes of a core and of those in it
abbrev pub nodes_in : Core → List Node
nodes_in p = node p None ∷ inner_nodes p

-- the nodes of a core that is tested, and of those in it
abbrev pub tested_nodes : Core → List Node
tested_nodes p = node p (H.head p) ∷ inner_nodes p

-- the nodes of a part of a sequence, and of those in it
abbrev pub numbered_nodes : ℕ → Core → List Node
numbered_nodes k p = part_node k p ∷ inner_nodes p
