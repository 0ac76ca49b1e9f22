-- The texts of the nodes directly under the root of a flat list.
use Rattle.std.specs.Prelude.{ℕ, Bool, true, false, not, ◌||◌, List, [], ◌∷◌, codes, Option, None, Some}
use Rattle.std.specs.Str.{encode_utf8_all, bytes_eq}
use Rattle.rpl_core.specs.Forest.{Forest}
use Rattle.rpl_tree.specs.declared.node.Node.{Node}
use Rattle.rpl_encode.specs.Answer.{hits}
use Rattle.rpl_tree.specs.Trees.{label_in}
use Rattle.rpl_encode.specs.Texts.{texts}

-- the node is a hit of a search
abbrev pub is_hit_by : List (List ℕ) → Node → Option ℕ → Bool
is_hit_by labels n None = bytes_eq (encode_utf8_all (label_in labels n.label)) (codes "find.*")
is_hit_by labels n (Some text) = false

-- its text is printed, among those of hits alone or of all nodes
abbrev pub is_printed : List (List ℕ) → Bool → Node → Bool
is_printed labels only_hits n = not only_hits || is_hit_by labels n n.note

-- the texts that are printed
abbrev pub printed_texts : Bool → List ℕ → Forest → List (List ℕ)
printed_texts true line f = hits line f
printed_texts false line f = texts line f

abbrev pub is_some_text : List (List ℕ) → Bool
is_some_text [] = false
is_some_text (t ∷ ts) = true

-- the number of nodes below the first
abbrev pub below_by : Node → Option ℕ → ℕ
below_by n None = n.below
below_by n (Some text) = 0

abbrev pub below_of_first : List Node → ℕ
below_of_first [] = 0
below_of_first (n ∷ ns) = below_by n n.note
