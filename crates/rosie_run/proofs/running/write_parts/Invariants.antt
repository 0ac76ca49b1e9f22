use Rattle.std.proofs.Common.{◌≡◌, ◌+◌, ◌++◌, [], List, false, length, ℕ}
use Rattle.rosie_io.specs.Counts.{capped}
use Rattle.rosie_run.specs.Going.{Going}
use Rattle.rosie_run.specs.Parts.{whole_of}
use Rattle.rosie_run.specs.inside.Writing.{KeepsPiece}
use Rattle.rosie_run.proofs.running.write_parts.Given as goal

-- a front of the text is written, and the part that was made last and the rest follow it
abbrev pub invariant-parts : goal.invariant-parts
invariant-parts g l = record {
  front : List ℕ;
  keeps : KeepsPiece g.P.PieceSource Going l.initial.pieces l.pieces;
  split : whole_of (g.P.PieceSource.out_text l.initial.pieces) (g.P.PieceSource.out_rest l.initial.pieces)
      ≡ front ++ (g.P.PieceSource.out_text l.pieces ++ g.P.PieceSource.out_rest l.pieces);
  out : g.O.Sink.tells → g.O.Sink.written l.out ≡ g.O.Sink.written l.initial.out ++ front;
  number : g.O.Sink.counts → capped (g.O.Sink.number l.initial.out
      + length (whole_of (g.P.PieceSource.out_text l.initial.pieces) (g.P.PieceSource.out_rest l.initial.pieces)))
      ≡ capped (g.O.Sink.number l.out
      + length (g.P.PieceSource.out_text l.pieces ++ g.P.PieceSource.out_rest l.pieces));
  pending : l.pending ≡ false → (l.initial.pending ≡ false) × (front ≡ [])
      × (g.P.PieceSource.out_text l.pieces ≡ [] → g.P.PieceSource.out_text l.initial.pieces ≡ []);
  faults : g.O.Sink.faults l.out ≡ g.O.Sink.faults l.initial.out;
}

-- what is still to be made
abbrev pub decreases-parts : goal.decreases-parts
decreases-parts g l = length (g.P.PieceSource.out_rest l.pieces)
