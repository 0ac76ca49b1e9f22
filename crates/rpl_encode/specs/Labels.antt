-- What is printed of the trees that a flat list of nodes stands for, over the texts of a program.
use Rattle.std.specs.Prelude.{◌≡◌, ℕ, List, Option, option_map}
use Rattle.rpl_core.specs.Captures.{all_named}
use Rattle.rpl_core.specs.Forest.{Forest, flat}
use Rattle.rpl_core.specs.declared.caught.Caught.{Caught}
use Rattle.rpl_encode.specs.Answer.{IgnoresTrees, answer, line_by_line, parts}
use Rattle.rpl_encode.specs.declared.style.Style.{Style}
use Rattle.rpl_tree.specs.Trees.{label_in, trees_in}
use Rattle.rpl_tree.specs.declared.node.Node.{Node}

-- the text of a match, of these nodes
abbrev pub match_text : Style → List ℕ → List (List ℕ) → List Node → List ℕ
match_text style line labels nodes = line_by_line (parts style line (trees_in labels nodes))

-- the text of an outcome, of these nodes or of none
abbrev pub answer_text : Style → List ℕ → List (List ℕ) → Option (List Node) → List ℕ
answer_text style line labels found = answer style line (option_map (trees_in labels) found)

-- the captures suffice to print these trees in the style: where it doesn't ignore trees, they are the list of these
abbrev pub Suffice : Style → List (List ℕ) → List Caught → Forest → Type 0
Suffice style labels captures f = (IgnoresTrees style → ⊥) → all_named (label_in labels) captures ≡ flat f
