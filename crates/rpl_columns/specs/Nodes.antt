-- The nodes of a line, read from its start. `Trees` defines which lines are read in this way.
use Rattle.std.specs.Prelude.{ℕ, zero, suc, List, [], ◌∷◌, ◌++◌, length, take, drop, codes, slice_range}
use Rattle.std.specs.Prelude.{Option, None, Some, option_map, option_and_then, Bool, true, false}
use Rattle.rpl_columns.specs.Spelling.{after, string_count, number_count}
use Rattle.rpl_columns.specs.declared.node.Node.{Node}
use Rattle.rpl_columns.specs.declared.node.Parts.{Parts}
use Rattle.rpl_columns.specs.declared.node.Span.{Span}
use Rattle.rpl_columns.specs.declared.tree.Reached.{Reached}

-- the parts of a node as the line spells them: its type and its text without their quotes, and its two places
pub record Spelled : Type 0 where
  pub label : List ℕ
  pub start : List ℕ
  pub end : List ℕ
  pub text : List ℕ

-- a node: how many nodes enclose it, and whether it encloses none
pub record Seen : Type 0 where
  pub spelled : Spelled
  pub depth : ℕ
  pub leaf : Bool

-- a string, and what is left of the line after this word, which follows it
abbrev pub string_in : List ℕ → List ℕ → Option (List ℕ × List ℕ)
string_in word rest =
    option_map (λ left. (take (string_count 0 rest) rest, left)) (after word (drop (string_count 0 rest) rest))

-- a number, and what is left after this word
abbrev pub number_in : List ℕ → List ℕ → Option (List ℕ × List ℕ)
number_in word rest =
    option_and_then (λ n. option_map (λ left. (take n rest, left)) (after word (drop n rest))) (number_count rest)

-- the parts of a node one after the other, and what is left after its text
abbrev pub from_text : List ℕ → List ℕ → List ℕ → List ℕ × List ℕ → Option (Spelled × List ℕ)
from_text label start end t = Some (record { label = label; start = start; end = end; text = t.0 }, t.1)

abbrev pub from_end : List ℕ → List ℕ → List ℕ × List ℕ → Option (Spelled × List ℕ)
from_end label start e = option_and_then (from_text label start e.0) (string_in (codes "\"") e.1)

abbrev pub from_start : List ℕ → List ℕ × List ℕ → Option (Spelled × List ℕ)
from_start label s = option_and_then (from_end label s.0) (number_in (codes ",\"data\":\"") s.1)

abbrev pub from_label : List ℕ × List ℕ → Option (Spelled × List ℕ)
from_label l = option_and_then (from_start l.0) (number_in (codes ",\"e\":") l.1)

abbrev pub from_type : List ℕ → Option (Spelled × List ℕ)
from_type rest = option_and_then from_label (string_in (codes "\",\"s\":") rest)

unfoldable pub node_in : List ℕ → Option (Spelled × List ℕ)
node_in rest = option_and_then from_type (after (codes "{\"type\":\"") rest)

-- how many lists are open, and what is left, after the ends of lists; so many were open before
abbrev pub close_by : (List ℕ → ℕ × List ℕ) → ℕ → List ℕ → Option (List ℕ) → ℕ × List ℕ
close_by go depth rest None = (depth, rest)
close_by go depth rest (Some left) = go left

unfoldable pub closed : ℕ → List ℕ → ℕ × List ℕ
closed zero rest = (zero, rest)
closed (suc depth) rest = close_by (closed depth) (suc depth) rest (after (codes "]}") rest)

-- where the reading goes on after a node: how many lists are open, and what is left
abbrev pub next_by : ℕ × List ℕ → Option (ℕ × List ℕ)
next_by (zero, rest) = Some (zero, rest)
next_by (suc depth, rest) = option_map (λ left. (suc depth, left)) (after (codes ",") rest)

-- and after the text of a node that no node is in
unfoldable pub next_in : ℕ → List ℕ → Option (ℕ × List ℕ)
next_in depth rest = option_and_then (λ left. next_by (closed depth left)) (after (codes "}") rest)

-- a node by what follows its text: the begin of a list, or the end of the node
abbrev pub step_by : ℕ → Spelled × List ℕ → Option (List ℕ) → Option (Seen × (ℕ × List ℕ))
step_by depth r None =
    option_map (λ next. (record { spelled = r.0; depth = depth; leaf = true }, next)) (next_in depth r.1)
step_by depth r (Some below) = Some (record { spelled = r.0; depth = depth; leaf = false }, (suc depth, below))

-- a node, and where the reading goes on: where no list is open the tree ends there
unfoldable pub step_in : ℕ → List ℕ → Option (Seen × (ℕ × List ℕ))
step_in depth rest = option_and_then (λ r. step_by depth r (after (codes ",\"subs\":[") r.1)) (node_in rest)

abbrev pub with_first : Seen → Option (List Seen) → Option (List Seen)
with_first n more = option_map (λ ns. n ∷ ns) more

-- the end of a tree is the end of the line
abbrev pub at_end : List ℕ → Option (List Seen)
at_end [] = Some []
at_end (b ∷ bs) = None

abbrev pub go_on : (ℕ → List ℕ → Option (List Seen)) → ℕ → List ℕ → Option (List Seen)
go_on read zero rest = at_end rest
go_on read (suc depth) rest = read (suc depth) rest

-- the nodes that are left, at most so many, where so many lists are open
unfoldable pub nodes_in : ℕ → ℕ → List ℕ → Option (List Seen)
nodes_in zero depth rest = None
nodes_in (suc most) depth rest =
    option_and_then (λ s. with_first s.0 (go_on (nodes_in most) s.1.0 s.1.1)) (step_in depth rest)

-- the nodes of the tree that a line is, in the order in which they are written
unfoldable pub tree_in : List ℕ → Option (List Seen)
tree_in line = nodes_in (suc (length line)) 0 line

-- what stands in a line between two places
abbrev pub part_of : List ℕ → Span → List ℕ
part_of line s = slice_range line s.from s.to

abbrev pub parts_of : List ℕ → Parts → Spelled
parts_of line p = record {
  label = part_of line p.label;
  start = part_of line p.start;
  end = part_of line p.end;
  text = part_of line p.text;
}

abbrev pub seen : List ℕ → Node → Seen
seen line n = record { spelled = parts_of line n.parts; depth = n.depth; leaf = n.is_leaf }

-- what was found, and what is left of the line
abbrev pub span_seen : List ℕ → Span × ℕ → List ℕ × List ℕ
span_seen line r = (part_of line r.0, drop r.1 line)

abbrev pub parts_seen : List ℕ → Parts × ℕ → Spelled × List ℕ
parts_seen line r = (parts_of line r.0, drop r.1 line)

abbrev pub reached_seen : List ℕ → Reached → ℕ × List ℕ
reached_seen line r = (r.depth, drop r.at line)

abbrev pub step_seen : List ℕ → Node × Reached → Seen × (ℕ × List ℕ)
step_seen line r = (seen line r.0, reached_seen line r.1)

-- the nodes, where the line is a tree
abbrev pub if_found : Bool → List Seen → Option (List Seen)
if_found true nodes = Some nodes
if_found false nodes = None

-- after these nodes
abbrev pub with_front : List Seen → Option (List Seen) → Option (List Seen)
with_front front more = option_map (λ ns. front ++ ns) more
