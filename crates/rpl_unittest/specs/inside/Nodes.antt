-- The types of nodes in a flat list.
use Rattle.std.specs.Prelude.{ℕ, Bool, false, List, Option, Some, None, codes}
use Rattle.std.specs.Str.{encode_utf8_all}
use Rattle.rpl_core.specs.Program.{labels_of}
use Rattle.rpl_core.specs.declared.program.Program.{Program}
use Rattle.rpl_unittest.specs.Verdicts.{is_type}
use Rattle.rpl_tree.specs.Trees.{label_in}
use Rattle.rpl_tree.specs.declared.node.Node.{Node}

-- the type of a node, in bytes
abbrev pub type_by : List (List ℕ) → Node → Option ℕ → List ℕ
type_by labels n None = encode_utf8_all (label_in labels n.label)
type_by labels n (Some text) = codes "message"

abbrev pub type_at : List (List ℕ) → Node → List ℕ
type_at labels n = type_by labels n n.note

-- the type of a node is the part, or the part of this package
abbrev pub has_part : Program → (prefix part : List ℕ) → Node → Bool
has_part program prefix part n = is_type prefix part (type_at (labels_of program) n)

-- there is a node, and it passes
abbrev pub passes : (Node → Bool) → Option Node → Bool
passes p None = false
passes p (Some n) = p n
