-- The marks of the columns: from column to column, and from line to line.
use Rattle.std.proofs.Common.{◌≡◌, ℕ, Bool, true, false, ◌||◌, not, cond, ◌+◌, ◌<◌, ◌≤◌, List, [], ◌∷◌, ◌++◌}
use Rattle.std.proofs.Common.{length, get_or, drop, take, set, replicate, min, refl, sym, ap, ◌∙◌, arith, append_assoc}
use Rattle.std.proofs.Common.{Some, None, inl, inr}
use Rattle.std.proofs.lemmas.Bool.{cases_lt}
use Rattle.std.proofs.lemmas.List.{append-nil, drop_all, drop_more, drop-drop, drop-set-lt, take-append-drop, take_all}
use Rattle.std.proofs.lemmas.List.{take_more, take_more_set}
use Rattle.rpl_columns.specs.Nodes.{Seen, tree_in}
use Rattle.rpl_columns.specs.Rows.{occurs}
use Rattle.rpl_columns.specs.declared.column.Column.{Column}
use Rattle.rosie_columns_cli.specs.Absent.{has_node, is_found, never_found}
use Rattle.rosie_columns_cli.specs.inside.Marks.{marked, noted, unfound}

-- ---- from column to column

module _ (nodes : List Seen) where
  -- the marks so far, and those that are left
  abbrev pub so_far : List Column → List Bool → ℕ → List Bool
  so_far cs marks i = take i marks ++ noted (drop i cs) (drop i marks) nodes

  noted_next : (cs : List Column) (marks : List Bool) (i : ℕ) (c : Column) (d : Bool) → i < length cs → i < length marks
      → c ≡ get_or cs i c
      → noted (drop i cs) (drop i marks) nodes
      ≡ (get_or marks i d || occurs c nodes) ∷ noted (drop (i + 1) cs) (drop (i + 1) marks) nodes
  noted_next cs marks i c d lt lm is =
      ap (λ x. noted x (drop i marks) nodes) (drop_more cs i c lt)
      ∙ ap (λ x. noted (get_or cs i c ∷ drop (i + 1) cs) x nodes) (drop_more marks i d lm)
      ∙ ap (λ x. (get_or marks i d || occurs x nodes) ∷ noted (drop (i + 1) cs) (drop (i + 1) marks) nodes) (sym is)

  one_more : (xs ys zs : List Bool) (b : Bool) → xs ≡ ys ++ b ∷ [] → xs ++ zs ≡ ys ++ b ∷ zs
  one_more xs ys zs b e = ap (λ x. x ++ zs) e ∙ append_assoc ys (b ∷ []) zs

  -- a column that has its mark
  kept_first : (cs : List Column) (marks : List Bool)
      → noted cs (true ∷ marks) nodes ≡ true ∷ noted (drop 1 cs) marks nodes
  kept_first [] marks = refl
  kept_first (c ∷ cs) marks = refl

  pub kept_next : (cs : List Column) (marks : List Bool) (i : ℕ) (d : Bool) → i < length marks → get_or marks i d ≡ true
      → so_far cs marks (i + 1) ≡ so_far cs marks i
  kept_next cs marks i d lm mark =
      let tail : drop 1 (drop i cs) ≡ drop (i + 1) cs = drop-drop 1 i cs ∙ ap (λ n. drop n cs) (omega arith) in
      let next : noted (drop i cs) (drop i marks) nodes ≡ true ∷ noted (drop (i + 1) cs) (drop (i + 1) marks) nodes =
      ap (λ x. noted (drop i cs) x nodes) (drop_more marks i d lm)
      ∙ ap (λ b. noted (drop i cs) (b ∷ drop (i + 1) marks) nodes) mark
      ∙ kept_first (drop i cs) (drop (i + 1) marks)
      ∙ ap (λ x. true ∷ noted x (drop (i + 1) marks) nodes) tail in
      one_more (take (i + 1) marks) (take i marks) (noted (drop (i + 1) cs) (drop (i + 1) marks) nodes)
      (get_or marks i d)
      (take_more marks i d lm)
      ∙ ap (λ b. take i marks ++ b ∷ noted (drop (i + 1) cs) (drop (i + 1) marks) nodes) mark
      ∙ ap (λ xs. take i marks ++ xs) (sym next)

  -- and one that is given it, or not
  pub given_next : (cs : List Column) (marks : List Bool) (i : ℕ) (c : Column) (d b : Bool) → i < length cs
      → i < length marks → c ≡ get_or cs i c → get_or marks i d ≡ false → b ≡ occurs c nodes
      → so_far cs (set marks i b) (i + 1) ≡ so_far cs marks i
  given_next cs marks i c d b lt lm is mark new =
      let rest = noted (drop (i + 1) cs) (drop (i + 1) marks) nodes in
      ap (λ xs. take (i + 1) (set marks i b) ++ noted (drop (i + 1) cs) xs nodes)
      (drop-set-lt (i + 1) marks i b (omega arith))
      ∙ one_more (take (i + 1) (set marks i b)) (take i marks) rest b (take_more_set marks i b lm)
      ∙ ap (λ x. take i marks ++ x ∷ rest) (new ∙ ap (λ x. x || occurs c nodes) (sym mark))
      ∙ ap (λ xs. take i marks ++ xs) (sym (noted_next cs marks i c d lt lm is))

  noted_none : (cs : List Column) → noted cs [] nodes ≡ []
  noted_none [] = refl
  noted_none (c ∷ cs) = refl

  -- no column is left
  pub noted_end : (cs : List Column) (marks : List Bool) (i : ℕ) → min (length marks) (length cs) ≤ i
      → so_far cs marks i ≡ marks
  noted_end cs marks i le = elim (cases_lt i (length cs)) [
    | inl lt ↦
        let all : length marks ≤ i = omega (arith, le, lt) in
        ap (λ xs. take i marks ++ noted (drop i cs) xs nodes) (drop_all i marks all)
        ∙ ap (λ xs. take i marks ++ xs) (noted_none (drop i cs)) ∙ append-nil (take i marks) ∙ take_all i marks all
    | inr ge ↦
        ap (λ xs. take i marks ++ noted xs (drop i marks) nodes) (drop_all i cs ge) ∙ take-append-drop i marks
  ]

-- marks that are written back to where they are held
pub written_back : (n : ℕ) (xs ys : List Bool) → length xs ≡ length ys → n ≡ length ys
    → take n (xs ++ drop (length xs) ys) ≡ xs
written_back n xs ys same len =
    ap (λ zs. take n (xs ++ zs)) (drop_all (length xs) ys (omega (arith, same)))
    ∙ ap (take n) (append-nil xs) ∙ take_all n xs (omega (arith, same, len))

-- ---- from line to line

or_assoc : (a b d : Bool) → ((a || b) || d) ≡ (a || (b || d))
or_assoc true b d = refl
or_assoc false b d = refl

or_false : (a : Bool) → (a || false) ≡ a
or_false true = refl
or_false false = refl

-- the next line is a tree with these nodes, or none
pub marked_tree : (cs : List Column) (marks : List Bool) (nodes : List Seen) (line : List ℕ) (more : List (List ℕ))
    → tree_in line ≡ Some nodes → marked cs (noted cs marks nodes) more ≡ marked cs marks (line ∷ more)
marked_tree [] marks nodes line more is = refl
marked_tree (c ∷ cs) [] nodes line more is = refl
marked_tree (c ∷ cs) (mark ∷ marks) nodes line more is =
    ap (λ b. b ∷ marked cs (noted cs marks nodes) more)
    (or_assoc mark (occurs c nodes) (is_found c more)
    ∙ ap (λ t. mark || (has_node c t || is_found c more)) (sym is))
    ∙ ap (λ bs. (mark || is_found c (line ∷ more)) ∷ bs) (marked_tree cs marks nodes line more is)

pub marked_other : (cs : List Column) (marks : List Bool) (line : List ℕ) (more : List (List ℕ))
    → tree_in line ≡ None → marked cs marks more ≡ marked cs marks (line ∷ more)
marked_other [] marks line more is = refl
marked_other (c ∷ cs) [] line more is = refl
marked_other (c ∷ cs) (mark ∷ marks) line more is =
    ap (λ t. (mark || (has_node c t || is_found c more)) ∷ marked cs marks more) (sym is)
    ∙ ap (λ bs. (mark || is_found c (line ∷ more)) ∷ bs) (marked_other cs marks line more is)

-- no line is left
pub marked_end : (cs : List Column) (marks : List Bool) → marked cs marks [] ≡ marks
marked_end [] marks = refl
marked_end (c ∷ cs) [] = refl
marked_end (c ∷ cs) (mark ∷ marks) =
    ap (λ b. b ∷ marked cs marks []) (or_false mark) ∙ ap (λ bs. mark ∷ bs) (marked_end cs marks)

found_by : (c : Column) (b : Bool) (xs ys : List Column) → xs ≡ ys → cond b xs (c ∷ xs) ≡ cond (not b) (c ∷ ys) ys
found_by c true xs ys e = e
found_by c false xs ys e = ap (λ zs. c ∷ zs) e

-- before the first no column has a mark
pub marked_first : (cs : List Column) (lines : List (List ℕ))
    → unfound cs (marked cs (replicate (length cs) false) lines) ≡ never_found cs lines
marked_first [] lines = refl
marked_first (c ∷ cs) lines =
    found_by c (is_found c lines) (unfound cs (marked cs (replicate (length cs) false) lines)) (never_found cs lines)
    (marked_first cs lines)
