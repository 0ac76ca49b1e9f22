-- What `sample` prints: it matches the lines of a sample, and reports how many there are, how many match, and how many
-- bytes their answers have.
use Rattle.std.specs.Prelude.{ℕ, cond, false, ◌+◌, List, [], ◌∷◌, ◌++◌, length, map, codes}
use Rattle.std.specs.Fmt.{decimal}
use Rattle.rosie_jobs.specs.Lines.{line_reading}
use Rattle.rosie_run.specs.Lines.{Makes, pieces_from}
use Rattle.rosie_run.specs.Report.{Piece, outs, is_hit}
use Rattle.rosie_run.specs.declared.mark.Mark.TheVariants.{Miss}
use Rattle.rosie_jobs.specs.SampleLines.{sample}

-- the rules of its run, and the pattern
abbrev pub sample_rules : List ℕ
sample_rules = codes "alias d = [:digit:]\ndate = {d{4} \"-\" d{2} \"-\" d{2}}\nlevel = [:upper:]+\n"

abbrev pub sample_pattern : List ℕ
sample_pattern = codes "date level"

-- the pieces of its lines, which are those of a standard input
abbrev pub line_pieces : Makes → (seed lines : ℕ) → List Piece
line_pieces makes seed lines = pieces_from makes (line_reading false) (codes "-") 0 (sample seed lines)

-- nothing is written to `out` for them
abbrev pub muted : Piece → Piece
muted p = record { out = []; err = p.err; mark = p.mark; cost = p.cost }

-- how many are hits
unfoldable pub hits : List Piece → ℕ
hits [] = 0
hits (p ∷ ps) = cond (is_hit p.mark) 1 0 + hits ps

-- the last piece says what they come to
abbrev pub counts_text : (lines matched bytes : ℕ) → List ℕ
counts_text lines matched bytes =
    codes "lines " ++ (decimal lines ++ (codes "\nmatched " ++ (decimal matched
    ++ (codes "\nbytes " ++ (decimal bytes ++ codes "\n")))))

abbrev pub counts_piece : ℕ → List Piece → Piece
counts_piece lines ps =
    record { out = counts_text lines (hits ps) (length (outs ps)); err = []; mark = Miss; cost = 0 }

unfoldable pub sample_pieces : Makes → (seed lines : ℕ) → List Piece
sample_pieces makes seed lines =
    map muted (line_pieces makes seed lines) ++ counts_piece lines (line_pieces makes seed lines) ∷ []
