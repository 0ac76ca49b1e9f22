-- What `rosie match` prints for a match is read as the tree of that match.
use Rattle.std.specs.Prelude.{ℕ, ◌≡◌, ◌+◌, ◌<◌, ◌^◌, List, [], ◌∷◌, codes, decimal, slice_range}
use Rattle.std.specs.Str.{encode_utf8_all}
use Rattle.rosie_run.specs.Report.{text_piece}
use Rattle.rpl_columns.specs.Rows.{row}
use Rattle.rpl_columns.specs.Trees.{Trees, in_order, no_tree, tree}
use Rattle.rpl_columns.specs.declared.row.Sheet.{Sheet}
use Rattle.rpl_core.specs.Forest.{Forest, NoTree, Tree, Noted}
use Rattle.rpl_encode.specs.Answer.{parts}
use Rattle.rpl_encode.specs.declared.style.Style.TheVariants.{Json}
use Rattle.rosie_columns_cli.specs.Lines.{makes}

-- the trees of a match on a line, with the texts of their nodes; places are printed one higher
abbrev pub trees_of : List ℕ → Forest → Trees
trees_of line NoTree = no_tree
trees_of line (Tree label start end below behind) =
    tree (encode_utf8_all label) (decimal (start + 1)) (decimal (end + 1)) (slice_range line start end)
    (trees_of line below) (trees_of line behind)
trees_of line (Noted text place behind) =
    tree (codes "message") (decimal (place + 1)) (decimal (place + 1)) (encode_utf8_all text) no_tree
    (trees_of line behind)

-- the first tree of a match, which is the one that is printed
abbrev pub first : Forest → Forest
first NoTree = NoTree
first (Tree label start end below behind) = Tree label start end below NoTree
first (Noted text place behind) = Noted text place NoTree

-- each place can be printed
abbrev pub FitPlaces : Forest → Type 0
FitPlaces NoTree = Unit {0}
FitPlaces (Tree label start end below behind) =
    (start + 1 < 2 ^ 64) × (end + 1 < 2 ^ 64) × FitPlaces below × FitPlaces behind
FitPlaces (Noted text place behind) = (place + 1 < 2 ^ 64) × FitPlaces behind

-- the law: of a line that matches with these trees, `rosie match` prints one line, and what is made of it is the row of
-- the first of these trees
abbrev pub Piped : Type 0
Piped =
    (sheet : Sheet) (file : List ℕ) (n : ℕ) (line printed : List ℕ) (f : Forest) → FitPlaces f
    → parts Json line f ≡ printed ∷ []
    → makes sheet file n printed ≡ text_piece (row sheet (in_order 0 (trees_of line (first f))))
