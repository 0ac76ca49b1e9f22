-- The report of a run: its pieces, what they write, and the status that they end with.
use Rattle.rosie_run.specs.declared.mark.Mark.{Mark}
use Rattle.rosie_run.specs.declared.mark.Mark.TheVariants.{Fault, Hit, Stop}
use Rattle.rosie_run.specs.declared.status.Status.{Status}
use Rattle.rosie_run.specs.declared.status.Status.TheVariants.{LineFault, Matched, NoMatch, Refused}
use Rattle.std.specs.List.{list_any}
use Rattle.std.specs.Prelude.{if◌then◌else◌, ◌++◌, ◌+◌, ◌∷◌, Bool, List, [], false, true, ℕ}

-- a part of a run: what is written on `out` and on `err`, how it counts, and the machine's steps for it
pub record Piece : Type 0 where
  pub out : List ℕ
  pub err : List ℕ
  pub mark : Mark
  pub cost : ℕ

unfoldable pub outs : List Piece → List ℕ
outs [] = []
outs (p ∷ ps) = p.out ++ outs ps

unfoldable pub errs : List Piece → List ℕ
errs [] = []
errs (p ∷ ps) = p.err ++ errs ps

unfoldable pub costs : List Piece → ℕ
costs [] = 0
costs (p ∷ ps) = p.cost + costs ps

abbrev pub is_hit : Mark → Bool
is_hit Hit = true
is_hit _ = false

abbrev pub is_fault : Mark → Bool
is_fault Fault = true
is_fault _ = false

abbrev pub is_stop : Mark → Bool
is_stop Stop = true
is_stop _ = false

-- some piece has such a mark
unfoldable pub has : (Mark → Bool) → List Piece → Bool
has test ps = list_any (λ p. test p.mark) ps

-- the pieces up to the first that ends the run: nothing follows it
unfoldable pub up_to_stop : List Piece → List Piece
up_to_stop [] = []
up_to_stop (p ∷ ps) = p ∷ (if is_stop p.mark then [] else up_to_stop ps)

-- the status of a run that came to its end: whether it was refused, whether some piece has no answer, and whether some
-- piece is a hit
abbrev pub flags_status : Bool → Bool → Bool → Status
flags_status true fault hit = Refused
flags_status false true hit = LineFault
flags_status false false true = Matched
flags_status false false false = NoMatch

-- and of these pieces
abbrev pub status_of : List Piece → Status
status_of ps = flags_status (has is_stop ps) (has is_fault ps) (has is_hit ps)

-- the end of a run, with the text that says why
abbrev pub stop_piece : List ℕ → Piece
stop_piece text = record { out = []; err = text; mark = Stop; cost = 0 }

-- a line that has no answer, and was not run
abbrev pub fault_piece : List ℕ → Piece
fault_piece text = record { out = []; err = text; mark = Fault; cost = 0 }

-- a text that is the whole answer
abbrev pub text_piece : List ℕ → Piece
text_piece text = record { out = text; err = []; mark = Hit; cost = 0 }
