-- All fields of a tree, as a JSON object: the nodes below the root that contain no node.
use Rattle.std.specs.Prelude.{ℕ, Bool, false, if◌then◌else◌, ◌&&◌, ◌||◌, not, nat_eq, List, [], ◌∷◌, ◌++◌, drop}
use Rattle.std.specs.Prelude.{length, map, codes}
use Rattle.std.specs.Str.{bytes_eq}
use Rattle.rpl_columns.specs.Cells.{between}
use Rattle.rpl_columns.specs.Nodes.{Seen, part_of}
use Rattle.rpl_columns.specs.declared.node.Node.{Node}

-- the last part of a type: what stands after its last dot, or all; `best` is what stands after the last dot so far
abbrev pub part_by : List ℕ → List ℕ → List ℕ
part_by best [] = best
part_by best (b ∷ bs) = if nat_eq b 46 then part_by bs bs else part_by best bs

abbrev pub last_part : List ℕ → List ℕ
last_part label = part_by label label

-- the names of the fields, each once, in the order in which they first come; so many are known
abbrev pub is_known : List ℕ → List (List ℕ) → Bool
is_known key [] = false
is_known key (first ∷ more) = bytes_eq key first || is_known key more

abbrev pub is_new : List (List ℕ) → Bool → List ℕ → Bool
is_new known leaf key = leaf && not (is_known key known)

abbrev pub with_key : List (List ℕ) → Bool → List ℕ → List (List ℕ)
with_key known leaf key = if is_new known leaf key then known ++ key ∷ [] else known

unfoldable pub keys : List (List ℕ) → List Seen → List (List ℕ)
keys known [] = known
keys known (n ∷ ns) = keys (with_key known n.leaf (last_part n.spelled.label)) ns

-- the texts of a field
abbrev pub is_field : List ℕ → Bool → List ℕ → Bool
is_field key leaf label = leaf && bytes_eq (last_part label) key

unfoldable pub values : List ℕ → List Seen → List (List ℕ)
values key [] = []
values key (n ∷ ns) =
    if is_field key n.leaf n.spelled.label then n.spelled.text ∷ values key ns else values key ns

-- a string, and a list of strings where there are several
abbrev pub in_quotes : List ℕ → List ℕ
in_quotes text = codes "\"" ++ (text ++ codes "\"")

abbrev pub values_text : List (List ℕ) → List ℕ
values_text texts = between 44 (map in_quotes texts)

abbrev pub value_text : List (List ℕ) → List ℕ
value_text texts =
    if nat_eq (length texts) 1 then values_text texts else codes "[" ++ (values_text texts ++ codes "]")

abbrev pub field : List Seen → List ℕ → List ℕ
field nodes key = in_quotes key ++ (codes ":" ++ value_text (values key nodes))

abbrev pub fields_by : List Seen → List ℕ
fields_by nodes = codes "{" ++ (between 44 (map (field nodes) (keys [] nodes)) ++ codes "}\n")

-- the root is the first node
unfoldable pub fields_row : List Seen → List ℕ
fields_row nodes = fields_by (drop 1 nodes)

-- ---- for private clauses

-- the name of the field that a node of a line is of
abbrev pub key_of : List ℕ → Node → List ℕ
key_of line n = last_part (part_of line n.parts.label)
