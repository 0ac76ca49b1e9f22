use Rattle.std.proofs.Common.{◌≡◌, ℕ, List, false}
use Rattle.rosie_run.specs.Devices.{SameOutputs}
use Rattle.rosie_run.specs.Going.{Going}
use Rattle.rosie_run.specs.Outputs.{telling, texts}
use Rattle.rosie_run.specs.Report.{Piece}
use Rattle.rosie_run.specs.inside.Going.{Went}
use Rattle.rosie_run.proofs.running.run_pieces.Given as goal

-- the pieces so far were made, and just these are written
abbrev pub invariant-run : goal.invariant-run
invariant-run g l = record {
  same_outputs : SameOutputs l.initial.outputs l.outputs;
  same : g.P.PieceSource.same l.initial.pieces l.pieces;
  goes_on : g.P.PieceSource.goes_on l.pieces;
  tool : g.P.PieceSource.tool l.pieces ≡ g.P.PieceSource.tool l.initial.pieces;
  idle : g.P.PieceSource.idle → l.outputs.steps.now ≡ l.initial.outputs.steps.now;
  went : (k : ℕ) × g.P.PieceSource.leaves Going l.initial.pieces l.pieces k
      × ((ps : List Piece) → g.P.PieceSource.comes l.initial.pieces ps
      → Went (telling (g.P.PieceSource.tool l.initial.pieces) g.O.Sink g.E.Sink) ps (g.P.PieceSource.comes l.pieces) k
      l.tally
      (texts g.O.Sink.written g.O.Sink.number g.E.Sink.written l.initial.outputs.out.now l.initial.outputs.err.now
      l.initial.outputs.steps.now)
      (texts g.O.Sink.written g.O.Sink.number g.E.Sink.written l.outputs.out.now l.outputs.err.now
      l.outputs.steps.now));
  no_stop : l.tally.stop ≡ false;
  out_faults : g.O.Sink.faults l.outputs.out.now ≡ g.O.Sink.faults l.initial.outputs.out.now;
  err_faults : g.E.Sink.faults l.outputs.err.now ≡ g.E.Sink.faults l.initial.outputs.err.now;
}

-- the pieces that may still come
abbrev pub decreases-run : goal.decreases-run
decreases-run g l = g.P.PieceSource.bound l.pieces
