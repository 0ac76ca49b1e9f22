-- What a column takes, node by node, and the cells of a row.
use Rattle.std.proofs.Common.{◌≡◌, ℕ, zero, suc, Bool, true, false, ◌+◌, ◌<◌, ◌≤◌, List, [], ◌∷◌, ◌++◌, length, get_or}
use Rattle.std.proofs.Common.{take, drop, map, flat_map, Option, Some, refl, sym, ap, ◌∙◌, arith, append_assoc}
use Rattle.std.proofs.Common.{append-nil}
use Rattle.std.proofs.Math.Seq.{drop-cons, take-append_seam, drop-append_seam}
use Rattle.std.proofs.lemmas.List.{drop_all}
use Rattle.rpl_columns.specs.Nodes.{Seen, seen, part_of, parts_of}
use Rattle.rpl_columns.specs.Cells.{between, later, before}
use Rattle.rpl_columns.specs.Columns.{next_enclosing, picked, piece_of, span_of, takes}
use Rattle.rpl_columns.specs.Fields.{fields_row}
use Rattle.rpl_columns.specs.Rows.{onto, added, cells, found_text, row, row_by, row_text}
use Rattle.rpl_columns.specs.declared.row.Sheet.{Sheet}
use Rattle.rpl_columns.specs.declared.node.Node.{Node}
use Rattle.rpl_columns.specs.declared.node.Parts.{Parts}
use Rattle.rpl_columns.specs.declared.column.Column.{Column}
use Rattle.rpl_columns.specs.declared.column.Part.{Part}
use Rattle.rpl_columns.specs.declared.column.Part.TheVariants.{Text, Start, End}

picked_hit : (c : Column) (enclosing : Option ℕ) (n : Seen) (ns : List Seen)
    → takes c enclosing n.spelled.label n.depth ≡ true
    → picked c enclosing (n ∷ ns) ≡ piece_of c.part n.spelled
    ∷ picked c (next_enclosing c.outer enclosing n.spelled.label n.depth) ns
unfolding picked
picked_hit c enclosing n ns h = rw h refl

picked_miss : (c : Column) (enclosing : Option ℕ) (n : Seen) (ns : List Seen)
    → takes c enclosing n.spelled.label n.depth ≡ false
    → picked c enclosing (n ∷ ns) ≡ picked c (next_enclosing c.outer enclosing n.spelled.label n.depth) ns
unfolding picked
picked_miss c enclosing n ns h = rw h refl

pub picked_none : (c : Column) (enclosing : Option ℕ) (line : List ℕ) (nodes : List Node) (i : ℕ) → length nodes ≤ i
    → picked c enclosing (map (seen line) (drop i nodes)) ≡ []
unfolding picked
picked_none c enclosing line nodes i h = ap (λ ns. picked c enclosing (map (seen line) ns)) (drop_all i nodes h)

pub piece_is : (part : Part) (line : List ℕ) (p : Parts)
    → part_of line (span_of part p) ≡ piece_of part (parts_of line p)
piece_is Text line p = refl
piece_is Start line p = refl
piece_is End line p = refl

drop_next : {Z : Type 0} (xs : List Z) (i : ℕ) (d : Z) → i < length xs → drop i xs ≡ get_or xs i d ∷ drop (i + 1) xs
drop_next xs i d lt =
    let one : i + 1 ≡ suc i = omega arith in
    rw one (drop-cons xs i d lt)

-- a node that the column takes, and one that it doesn't
pub hit_at : (c : Column) (enclosing : Option ℕ) (line : List ℕ) (nodes : List Node) (i : ℕ) (d : Node) (label text :
    List ℕ) → i < length nodes → label ≡ part_of line (get_or nodes i d).parts.label
    → takes c enclosing label (get_or nodes i d).depth ≡ true
    → text ≡ part_of line (span_of c.part (get_or nodes i d).parts)
    → picked c enclosing (map (seen line) (drop i nodes))
    ≡ text ∷ picked c (next_enclosing c.outer enclosing label (get_or nodes i d).depth)
    (map (seen line) (drop (i + 1) nodes))
hit_at c enclosing line nodes i d label text lt is h says =
    let n = get_or nodes i d in
    let more = map (seen line) (drop (i + 1) nodes) in
    ap (λ ns. picked c enclosing (map (seen line) ns)) (drop_next nodes i d lt)
    ∙ picked_hit c enclosing (seen line n) more (ap (λ l. takes c enclosing l n.depth) (sym is) ∙ h)
    ∙ ap (λ l. piece_of c.part (parts_of line n.parts) ∷ picked c (next_enclosing c.outer enclosing l n.depth) more)
    (sym is)
    ∙ ap (λ t. t ∷ picked c (next_enclosing c.outer enclosing label n.depth) more) (sym (says
    ∙ piece_is c.part line n.parts))

pub miss_at : (c : Column) (enclosing : Option ℕ) (line : List ℕ) (nodes : List Node) (i : ℕ) (d : Node) (label :
    List ℕ) → i < length nodes → label ≡ part_of line (get_or nodes i d).parts.label
    → takes c enclosing label (get_or nodes i d).depth ≡ false → picked c enclosing (map (seen line) (drop i nodes))
    ≡ picked c (next_enclosing c.outer enclosing label (get_or nodes i d).depth) (map (seen line) (drop (i + 1) nodes))
miss_at c enclosing line nodes i d label lt is h =
    let n = get_or nodes i d in
    let more = map (seen line) (drop (i + 1) nodes) in
    ap (λ ns. picked c enclosing (map (seen line) ns)) (drop_next nodes i d lt)
    ∙ picked_miss c enclosing (seen line n) more (ap (λ l. takes c enclosing l n.depth) (sym is) ∙ h)
    ∙ ap (λ l. picked c (next_enclosing c.outer enclosing l n.depth) more) (sym is)

pub onto_hit : (joint : List ℕ) (found : Bool) (cell t : List ℕ) (ts : List (List ℕ)) → (found ≡ false → cell ≡ [])
    → onto joint found cell (t ∷ ts) ≡ onto joint true (added joint found cell t) ts
onto_hit joint false cell t ts h = ap (λ x. Some ((x ++ t) ++ flat_map (λ u. joint ++ u) ts)) (sym (h refl))
onto_hit joint true cell t ts h = ap Some (sym (append_assoc cell (joint ++ t) (flat_map (λ u. joint ++ u) ts)))

pub onto_end : (joint : List ℕ) (found : Bool) (cell : List ℕ) → onto joint found cell [] ≡ found_text found cell
onto_end joint false cell = refl
onto_end joint true cell = ap Some (append-nil cell)

-- a column more
pub columns_next : (f : Column → List ℕ) (xs : List Column) (i : ℕ) (x : Column) → i < length xs → x ≡ get_or xs i x
    → map f (drop i xs) ≡ f x ∷ map f (drop (i + 1) xs)
columns_next f xs i x lt is = ap (map f) (drop_next xs i x lt) ∙ ap (λ y. f y ∷ map f (drop (i + 1) xs)) (sym is)

pub columns_none : (f : Column → List ℕ) (xs : List Column) (i : ℕ) → length xs ≤ i → map f (drop i xs) ≡ []
columns_none f xs i h = ap (map f) (drop_all i xs h)

later_next : (separator i : ℕ) (c : List ℕ) (cs : List (List ℕ)) → later separator i (c ∷ cs) ≡ before separator i
    ++ (c ++ later separator (i + 1) cs)
unfolding between
later_next separator zero c cs = refl
later_next separator (suc i) c cs =
    let one : suc i + 1 ≡ suc (suc i) = omega arith in
    rw one refl

later_none : (separator i : ℕ) → later separator i [] ≡ []
unfolding between
later_none separator zero = refl
later_none separator (suc i) = refl

pub row_on : (separator i : ℕ) (out out1 out2 whole : List ℕ) (c : List ℕ) (left cs : List (List ℕ)) → left ≡ c ∷ cs
    → out1 ≡ out ++ before separator i → out2 ≡ out1 ++ c → out ++ later separator i left ≡ whole
    → out2 ++ later separator (i + 1) cs ≡ whole
row_on separator i out out1 out2 whole c left cs is first then h =
    ap (λ o. o ++ later separator (i + 1) cs) (then ∙ ap (λ o. o ++ c) first)
    ∙ append_assoc (out ++ before separator i) c (later separator (i + 1) cs)
    ∙ append_assoc out (before separator i) (c ++ later separator (i + 1) cs)
    ∙ ap (λ r. out ++ r) (sym (ap (later separator i) is ∙ later_next separator i c cs))
    ∙ h

pub row_end : (separator i : ℕ) (out whole : List ℕ) (left : List (List ℕ)) → left ≡ []
    → out ++ later separator i left ≡ whole → out ≡ whole
row_end separator i out whole left none h =
    sym (append-nil out) ∙ sym (ap (λ r. out ++ r) (ap (later separator i) none ∙ later_none separator i)) ∙ h

-- the whole row
pub row_whole : (old begins out1 cells out2 : List ℕ) (start : ℕ) (f : List ℕ → List ℕ) → out1 ≡ old ++ begins
    → start ≡ length out1 → out2 ≡ out1 ++ cells → take start out2 ++ f (drop start out2) ≡ old ++ (begins ++ f cells)
row_whole old begins out1 cells out2 start f first size then =
    ap (λ o. take start o ++ f (drop start o)) then
    ∙ ap (λ n. take n (out1 ++ cells) ++ f (drop n (out1 ++ cells))) size
    ∙ ap (λ o. o ++ f (drop (length out1) (out1 ++ cells))) (take-append_seam out1 cells)
    ∙ ap (λ r. out1 ++ f r) (drop-append_seam out1 cells)
    ∙ ap (λ o. o ++ f cells) first
    ∙ append_assoc old begins (f cells)

-- without columns all fields are written
pub row_none : (sheet : Sheet) (nodes : List Seen) → length sheet.columns ≡ 0 → fields_row nodes ≡ row sheet nodes
unfolding row
row_none sheet nodes h = by sheet.columns h
  where
    by : (cs : List Column) → length cs ≡ 0 → fields_row nodes ≡ row_by sheet nodes cs
    by [] e = refl
    by (c ∷ cs) e = absurd (omega arith)

pub row_some : (sheet : Sheet) (nodes : List Seen) → (length sheet.columns ≡ 0 → ⊥)
    → row_text sheet.format (cells sheet nodes sheet.columns) ≡ row sheet nodes
unfolding row
row_some sheet nodes h = by sheet.columns h
  where
    by : (cs : List Column) → (length cs ≡ 0 → ⊥) → row_text sheet.format (cells sheet nodes cs) ≡ row_by sheet nodes cs
    by [] e = absurd (e refl)
    by (c ∷ cs) e = refl
