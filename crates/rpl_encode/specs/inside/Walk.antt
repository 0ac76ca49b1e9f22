-- What is written of the nodes of a flat list, one after the other.
use Rattle.std.specs.Prelude.{ℕ, Bool, true, false, List, [], ◌∷◌, ◌++◌, take, drop, slice_range, flat_map, codes}
use Rattle.std.specs.Prelude.{Option, None, Some}
use Rattle.std.specs.Str.{encode_utf8_all}
use Rattle.rpl_tree.specs.declared.node.Node.{Node}
use Rattle.rpl_tree.specs.Trees.{forest_of, label_in}
use Rattle.rpl_encode.specs.Texts.{fields, objects}

abbrev pub text_by : List (List ℕ) → List ℕ → Node → Option ℕ → List ℕ
text_by labels line n None = slice_range line n.start n.end
text_by labels line n (Some text) = encode_utf8_all (label_in labels text)

-- the text of a node
abbrev pub text_at : List (List ℕ) → List ℕ → Node → List ℕ
text_at labels line n = text_by labels line n n.note

abbrev pub fields_by : List (List ℕ) → List ℕ → Node → Option ℕ → List ℕ
fields_by labels line n None =
    fields (encode_utf8_all (label_in labels n.label)) n.start n.end (text_by labels line n None)
fields_by labels line n (Some text) = fields (codes "message") n.start n.start (text_by labels line n (Some text))

-- the object of a node up to what is below it
abbrev pub fields_at : List (List ℕ) → List ℕ → Node → List ℕ
fields_at labels line n = fields_by labels line n n.note

-- what stands before the object of a node: nothing before the first one
abbrev pub comma : Bool → List ℕ
comma true = []
comma false = codes ","

-- what stands after its fields, whether there are nodes below it or not
abbrev pub ending : Bool → List ℕ
ending true = codes ",\"subs\":["
ending false = codes "}"

-- objects side by side, the first of which is the first of all or not
abbrev pub joined : Bool → List (List ℕ) → List ℕ
joined first [] = []
joined first (o ∷ os) = comma first ++ (o ++ flat_map (λ p. 44 ∷ p) os)

-- The rest of the text, from a node on, where lists of objects are open, the innermost first, and so many nodes are
-- still to come in each.
abbrev pub rest_of : List (List ℕ) → List ℕ → List Node → List ℕ → Bool → List ℕ
rest_of labels line nodes [] first = []
rest_of labels line nodes (left ∷ pending) first =
    joined first (objects line (forest_of (label_in labels) (take left nodes)))
    ++ (codes "]}" ++ rest_of labels line (drop left nodes) pending false)
