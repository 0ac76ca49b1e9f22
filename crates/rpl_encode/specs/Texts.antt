-- The texts and the JSON objects of the trees of a match, over the bytes of the line. The places of the trees are
-- numbers of bytes.
use Rattle.std.specs.Prelude.{ℕ, ◌+◌, List, [], ◌∷◌, ◌++◌, slice_range, flat_map, decimal, codes}
use Rattle.std.specs.Str.{encode_utf8_all}
use Rattle.rpl_core.specs.Forest.{Forest, NoTree, Tree, Noted}
use Rattle.rpl_print.specs.Quoted.{quoted}

-- the text of each tree: its part of the line, empty where its end is before its start, or what a note says
abbrev pub texts : List ℕ → Forest → List (List ℕ)
texts line NoTree = []
texts line (Tree label start end below behind) = slice_range line start end ∷ texts line behind
texts line (Noted text place behind) = encode_utf8_all text ∷ texts line behind

-- the objects below a node
abbrev pub subs : List (List ℕ) → List ℕ
subs [] = []
subs (first ∷ more) = codes ",\"subs\":[" ++ (first ++ (flat_map (λ o. 44 ∷ o) more ++ codes "]"))

-- the object of a node up to what is below it; places are printed one higher
abbrev pub fields : List ℕ → ℕ → ℕ → List ℕ → List ℕ
fields label start end text =
    codes "{\"type\":" ++ (quoted label
    ++ (codes ",\"s\":" ++ (decimal (start + 1)
    ++ (codes ",\"e\":" ++ (decimal (end + 1)
    ++ (codes ",\"data\":" ++ quoted text))))))

abbrev pub object : List ℕ → ℕ → ℕ → List ℕ → List (List ℕ) → List ℕ
object label start end text below = fields label start end text ++ (subs below ++ codes "}")

-- the object of each tree, over those of the trees inside it; a note has the type `message`
abbrev pub objects : List ℕ → Forest → List (List ℕ)
objects line NoTree = []
objects line (Tree label start end below behind) =
    object (encode_utf8_all label) start end (slice_range line start end) (objects line below) ∷ objects line behind
objects line (Noted text place behind) =
    object (codes "message") place place (encode_utf8_all text) [] ∷ objects line behind
