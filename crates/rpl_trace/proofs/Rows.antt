-- The text of the lines of evaluations is the text that is printed of them.
use Rattle.std.proofs.Common.{◌≡◌, ℕ, ◌+◌, ◌<◌, List, [], ◌∷◌, ◌++◌, length, refl, sym, ap, ◌∙◌, append_assoc, arith}
use Rattle.std.proofs.Common.{length-append}
use Rattle.std.specs.Prelude.{map}
use Rattle.std.specs.Fmt.{decimal}
use Rattle.rpl_text.specs.Places.{index, IsPlace}
use Rattle.rpl_trace.specs.Evaluations.{Evaluations, NoneLeft, One}
use Rattle.rpl_trace.specs.Kinds.{kind_seen}
use Rattle.rpl_trace.specs.Left.{end_text, offset_text, text_of_line, text_of_lines}
use Rattle.rpl_trace.specs.Printed.{ending_text, kind_text, line_text, place_text, printed}
use Rattle.rpl_trace.specs.declared.event.End.{End}
use Rattle.rpl_trace.specs.declared.event.End.TheVariants as E
use Rattle.rpl_trace.specs.declared.lines.Line.{Line}
use Rattle.rpl_trace.specs.inside.Lines.{LineStands, LinesStand, Row, row_seen, rows, row_text, rows_text}
use Rattle.rpl_trace.specs.inside.Seen.{EndStands, end_seen}

text_append : (names : List (List ℕ)) (t : List ℕ) (xs ys : List Row)
    → rows_text names t (xs ++ ys) ≡ rows_text names t xs ++ rows_text names t ys
text_append names t [] ys = refl
text_append names t (x ∷ xs) ys =
    let a = line_text names t x.depth x.kind x.start x.ending in
    ap (λ y. a ++ y) (text_append names t xs ys) ∙ sym (append_assoc a (rows_text names t xs) (rows_text names t ys))

pub rows_printed : (names : List (List ℕ)) (t : List ℕ) (d : ℕ) (f : Evaluations)
    → rows_text names t (rows d f) ≡ printed names t d f
rows_printed names t d NoneLeft = refl
rows_printed names t d (One k i e f r) =
    let a = line_text names t d k i e in
    ap (λ y. a ++ y) (text_append names t (rows (d + 1) f) (rows d r)
    ∙ ap (λ y. y ++ rows_text names t (rows d r)) (rows_printed names t (d + 1) f)
    ∙ ap (λ y. printed names t (d + 1) f ++ y) (rows_printed names t d r))

-- the text of a line by its byte offsets
place_same : (t : List ℕ) (place : ℕ) → IsPlace t place → offset_text place ≡ place_text t (index t place)
place_same t place h = ap offset_text (sym h)

end_same : (t : List ℕ) (end : End) → EndStands t end → end_text end ≡ ending_text t (end_seen t end)
end_same t E.Fails h = refl
end_same t (E.At place) h = place_same t place h
end_same t (E.Halts place) h = refl

line_same : (names : List (List ℕ)) (t : List ℕ) (x : Line) → LineStands t x
    → text_of_line names x ≡ row_text names t (row_seen t x)
line_same names t x h =
    let head : (place end : List ℕ) → List ℕ = λ place end. decimal x.depth ++ 32
    ∷ (kind_text names (kind_seen x.kind) ++ 32 ∷ (place ++ 32 ∷ (end ++ 10 ∷ []))) in
    ap (λ place. head place (end_text x.end)) (place_same t x.start h.0)
    ∙ ap (head (place_text t (index t x.start))) (end_same t x.end h.1)

pub lines_same : (names : List (List ℕ)) (t : List ℕ) (xs : List Line) → LinesStand t xs
    → text_of_lines names xs ≡ rows_text names t (map (row_seen t) xs)
lines_same names t [] h = refl
lines_same names t (x ∷ xs) h =
    ap (λ y. y ++ text_of_lines names xs) (line_same names t x h.0)
    ∙ ap (λ y. row_text names t (row_seen t x) ++ y) (lines_same names t xs h.1)

-- the next line is printed
pub next_line : (names : List (List ℕ)) (old new : List ℕ) (x : Line) (xs all : List Line) → all ≡ x ∷ xs
    → new ≡ old ++ text_of_line names x → old ++ text_of_lines names all ≡ new ++ text_of_lines names xs
next_line names old new x xs all e n =
    ap (λ ys. old ++ text_of_lines names ys) e
    ∙ sym (append_assoc old (text_of_line names x) (text_of_lines names xs))
    ∙ ap (λ y. y ++ text_of_lines names xs) (sym n)

pub line_grows : (names : List (List ℕ)) (old new : List ℕ) (x : Line) → new ≡ old ++ text_of_line names x
    → length old < length new
line_grows names old new x n =
    let tail = kind_text names (kind_seen x.kind) ++ 32 ∷ (offset_text x.start ++ 32 ∷ (end_text x.end ++ 10 ∷ [])) in
    let l = ap length n in
    omega (arith, length-append old (text_of_line names x), length-append (decimal x.depth) (32 ∷ tail))
