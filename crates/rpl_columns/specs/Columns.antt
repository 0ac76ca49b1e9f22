-- Columns: how a word describes one, and which nodes of a tree it takes.
use Rattle.std.specs.Prelude.{ℕ, ◌-◌, Bool, true, false, if◌then◌else◌, ◌&&◌, ◌||◌, nat_eq, nat_le, nat_lt, get_or}
use Rattle.std.specs.Prelude.{List, [], ◌∷◌, length, drop, take, codes, Option, None, Some, is_some}
use Rattle.std.specs.List.{list_any, before_first, after_first}
use Rattle.std.specs.Str.{bytes_eq}
use Rattle.rpl_print.specs.Quoted.{quoted}
use Rattle.rpl_columns.specs.Nodes.{Seen, Spelled}
use Rattle.rpl_columns.specs.declared.column.Column.{Column}
use Rattle.rpl_columns.specs.declared.column.Part.{Part}
use Rattle.rpl_columns.specs.declared.column.Part.TheVariants.{Text, Start, End}
use Rattle.rpl_columns.specs.declared.node.Parts.{Parts}
use Rattle.rpl_columns.specs.declared.node.Span.{Span}

-- a string of JSON without its quotes, and a text as JSON spells it between them
abbrev pub unquoted : List ℕ → List ℕ
unquoted string = drop 1 (take (length string - 1) string)

unfoldable pub spelled : List ℕ → List ℕ
spelled text = unquoted (quoted text)

-- what stands before the first such sign, or all, and what stands after it, if there is one
abbrev pub before : ℕ → List ℕ → List ℕ
before sign word = before_first (λ b. nat_eq b sign) word

abbrev pub rest_after : ℕ → List ℕ → Option (List ℕ)
rest_after sign word =
    if list_any (λ b. nat_eq b sign) word then Some (after_first (λ b. nat_eq b sign) word) else None

-- a byte that a type may have
abbrev pub is_of_type : ℕ → Bool
is_of_type b =
    (nat_le 97 b && nat_le b 122) || ((nat_le 65 b && nat_le b 90) || ((nat_le 48 b && nat_le b 57)
    || (nat_eq b 95 || (nat_eq b 46 || (nat_eq b 42 || (nat_eq b 60 || nat_eq b 62))))))

abbrev pub are_of_type : List ℕ → Bool
are_of_type [] = true
are_of_type (b ∷ bs) = is_of_type b && are_of_type bs

-- a type, or the last part of one
abbrev pub is_type : List ℕ → Bool
is_type [] = false
is_type (b ∷ bs) = are_of_type (b ∷ bs)

-- which part of its nodes a column takes, by what stands after the `@`
abbrev pub part_named : Option (List ℕ) → Option Part
part_named None = Some Text
part_named (Some word) =
    if bytes_eq word (codes "s") then Some Start else (if bytes_eq word (codes "e") then Some End else None)

-- the column of the types before and after the `/`
abbrev pub column_at : List ℕ → Part → List ℕ → Option (List ℕ) → Option Column
column_at name part first None =
    if is_type first then Some (record { name = spelled name; outer = None; label = first; part = part }) else None
column_at name part first (Some label) =
    if is_type first && is_type label
    then Some (record { name = spelled name; outer = Some first; label = label; part = part }) else None

abbrev pub column_by : List ℕ → List ℕ → Option Part → Option Column
column_by name path None = None
column_by name path (Some part) = column_at name part (before 47 path) (rest_after 47 path)

abbrev pub column_from : List ℕ → List ℕ → Option Column
column_from name type = column_by name (before 64 type) (part_named (rest_after 64 type))

-- the column of a word: what stands before the first `=` is its name, if there is one
abbrev pub column_named : List ℕ → Option (List ℕ) → Option Column
column_named word None = column_from word word
column_named word (Some type) = column_from (before 61 word) type

unfoldable pub column_of : List ℕ → Option Column
column_of word = column_named word (rest_after 61 word)

-- the type is this name, or ends with a dot and this name
abbrev pub is_named : List ℕ → List ℕ → Bool
is_named label name =
    if nat_lt (length label) (length name) then false
    else ((nat_eq (length label - length name) 0 || nat_eq (get_or label (length label - length name - 1) 0) 46)
    && bytes_eq (drop (length label - length name) label) name)

-- the depth of the outer node that a node of this depth is in
abbrev pub still_enclosing : Option ℕ → ℕ → Option ℕ
still_enclosing None depth = None
still_enclosing (Some outer) depth = if nat_lt outer depth then Some outer else None

-- where the column has an outer node, the nodes in it alone are its
abbrev pub is_inside : Option (List ℕ) → Option ℕ → ℕ → Bool
is_inside None enclosing depth = true
is_inside (Some name) enclosing depth = is_some (still_enclosing enclosing depth)

-- the column takes a node of this type and depth
abbrev pub takes : Column → Option ℕ → List ℕ → ℕ → Bool
takes c enclosing label depth = is_inside c.outer enclosing depth && is_named label c.label

-- the outer node that is open after it: the outermost
abbrev pub entered : List ℕ → List ℕ → ℕ → Option ℕ → Option ℕ
entered name label depth (Some outer) = Some outer
entered name label depth None = if is_named label name then Some depth else None

abbrev pub next_enclosing : Option (List ℕ) → Option ℕ → List ℕ → ℕ → Option ℕ
next_enclosing None enclosing label depth = enclosing
next_enclosing (Some name) enclosing label depth = entered name label depth (still_enclosing enclosing depth)

-- the part of a node that a column takes
abbrev pub piece_of : Part → Spelled → List ℕ
piece_of Text n = n.text
piece_of Start n = n.start
piece_of End n = n.end

abbrev pub span_of : Part → Parts → Span
span_of Text p = p.text
span_of Start p = p.start
span_of End p = p.end

-- what a column takes of these nodes, in the order in which they are written
unfoldable pub picked : Column → Option ℕ → List Seen → List (List ℕ)
picked c enclosing [] = []
picked c enclosing (n ∷ ns) =
    if takes c enclosing n.spelled.label n.depth
    then piece_of c.part n.spelled ∷ picked c (next_enclosing c.outer enclosing n.spelled.label n.depth) ns
    else picked c (next_enclosing c.outer enclosing n.spelled.label n.depth) ns
