-- The text of an answer in each style.
use Rattle.std.specs.Prelude.{ℕ, if◌then◌else◌, List, [], ◌∷◌, ◌++◌, flat_map, take, slice_range, codes, Option}
use Rattle.std.specs.Prelude.{◌≡◌, ◌<◌, length, Result, Err}
use Rattle.std.specs.Option.{option_map_or}
use Rattle.std.specs.Str.{encode_utf8_all, bytes_eq}
use Rattle.rpl_core.specs.Forest.{Forest, NoTree, Tree, Noted}
use Rattle.rpl_tree.specs.Trees.{below_root}
use Rattle.rpl_encode.specs.Texts.{texts, objects}
use Rattle.rpl_encode.specs.declared.fault.EncodeFault.{EncodeFault}
use Rattle.rpl_encode.specs.declared.fault.EncodeFault.TheVariants.{AnswerTooLong}
use Rattle.rpl_encode.specs.declared.style.Style.{Style}
use Rattle.rpl_encode.specs.declared.style.Style.TheVariants.{Json, Line, Matches, Subs, Plain, Bool as TrueOrFalse}

-- the texts of the hits of a search, which have the type `find.*`
abbrev pub hits : List ℕ → Forest → List (List ℕ)
hits line NoTree = []
hits line (Tree label start end below behind) =
    if bytes_eq (encode_utf8_all label) (codes "find.*") then slice_range line start end ∷ hits line behind
    else hits line behind
hits line (Noted text place behind) = hits line behind

abbrev pub or_else : List (List ℕ) → List (List ℕ) → List (List ℕ)
or_else [] others = others
or_else (first ∷ more) others = first ∷ more

-- the parts that are printed of a match, whose root is the first tree
abbrev pub parts : Style → List ℕ → Forest → List (List ℕ)
parts Json line f = take 1 (objects line f)
parts Line line f = line ∷ []
parts Matches line f = or_else (hits line (below_root f)) (take 1 (texts line f))
parts Subs line f = texts line (below_root f)
parts Plain line f = take 1 (texts line f)
parts TrueOrFalse line f = codes "true" ∷ []

-- the parts that are printed where there is no match
abbrev pub none : Style → List (List ℕ)
none TrueOrFalse = codes "false" ∷ []
none _ = []

-- whatever the trees of a match are, the same is printed of it
abbrev pub IgnoresTrees : Style → Type 0
IgnoresTrees style = (line : List ℕ) (f g : Forest) → parts style line f ≡ parts style line g

-- each part with a line feed
abbrev pub line_by_line : List (List ℕ) → List ℕ
line_by_line = flat_map (λ part. part ++ 10 ∷ [])

abbrev pub answer : Style → List ℕ → Option Forest → List ℕ
answer style line found = line_by_line (option_map_or (parts style line) found (none style))

-- the greatest number of bytes of an answer
abbrev pub max_answer_bytes : ℕ
max_answer_bytes = 67108864

-- where a text is refused as too long, it is longer than that
abbrev pub IsTooLong : {T : Type 0} → Result T EncodeFault → List ℕ → Type 0
IsTooLong result text = result ≡ Err AnswerTooLong → max_answer_bytes < length text
