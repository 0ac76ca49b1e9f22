use Rattle.std.proofs.Common.{refl, ap, subst, ◌∙◌, ◌+◌}
use Rattle.rosie_run.specs.Going.{IsSaidBy}
use Rattle.rosie_run.specs.Outputs.{texts}
use Rattle.rosie_run.specs.declared.tally.Tally.{Tally}
use Rattle.rosie_run.proofs.Asking.{cut_none, cut_said}
use Rattle.rosie_run.proofs.Going.{breaks_writing, broke_leaves, leaves_writing, went_broke, went_end, went_fault}
use Rattle.rosie_run.proofs.Going.{went_front, went_later, went_on, went_start, went_still, went_stop}
use Rattle.rosie_run.proofs.Pieces.{has_nil}
use Rattle.rosie_run.specs.Report.{is_stop}
use Rattle.rosie_run.proofs.running.run_pieces.Goals as goal

pub run-init : goal.run-init
run-init g c = record {
  same_outputs = (refl, refl, refl);
  same = (g.met.P.PieceSource.begins c.args.pieces.now).0;
  goes_on = c.requires;
  tool = refl;
  idle = λ _. refl;
  went = (
    0,
    (g.met.P.PieceSource.begins c.args.pieces.now).1,
    λ ps comes. went_start _ ps _ _ _ _ refl (g.met.O.Sink.number_fits c.args.outputs.now.out.now) c.new-tally.ensures
        comes,
  );
  no_stop = ap (λ (t : Tally). t.stop) c.new-tally.ensures ∙ has_nil is_stop;
  out_faults = refl;
  err_faults = refl;
}

pub run-preserved : goal.run-preserved
run-preserved g c =
    let i = c.run.invariant in
    let f = c.in-Ok.ensures in
    let e = c.in-Ok-Some.ensures in
    let w = c.in-Ok-write_piece.ensures in
    let keeps = w.keeps in
    let left = rw c.in-Ok-Some.field-0-is at (e.left c.args.pieces.now i.went.0 i.went.1) in record {
      same_outputs = i.same_outputs;
      same = keeps.same c.args.pieces.now (e.same c.args.pieces.now i.same);
      goes_on = keeps.goes_on (rw c.in-Ok-Some.field-0-is at e.goes_on);
      tool = keeps.tool ∙ e.tool ∙ i.tool;
      idle = λ x. e.idle x ∙ i.idle x;
      went = (
        i.went.0 + 1,
        keeps.left c.args.pieces.now (i.went.0 + 1) left,
        λ ps comes.
            let a = texts g.O.Sink.written g.O.Sink.number g.E.Sink.written c.flush_before_wait.new.out
            c.flush_before_wait.new.err c.run.outputs.steps.now in
            let b = texts g.O.Sink.written g.O.Sink.number g.E.Sink.written c.write_piece.new.out c.write_piece.new.err
            c.next.new.steps in
            let still = went_still _ ps _ _ _ _ _ (i.went.2 ps comes) a (record {
              out = f.out;
              err = f.err;
              number = f.number;
              steps = refl;
            }) in
            went_later _ _ _ _ _ _ _ _
            (went_on _ ps _ _ _ _ _ still _ _ _ _ b (λ todo h. rw c.in-Ok-Some.field-0-is at (e.gives todo h)) _
            c.with-tally.ensures w.out w.err w.number c.if-tally.false) keeps.comes,
      );
      no_stop = c.if-tally.false;
      out_faults = w.cause.0 ∙ f.cause.0 ∙ i.out_faults;
      err_faults = w.cause.1 ∙ f.cause.1 ∙ i.err_faults;
    }

pub returns-in-Err-clause-runs : goal.returns-in-Err-clause-runs
returns-in-Err-clause-runs g c = λ ps comes.
    let f = c.in-Err.ensures in
    went_front _ ps _ _ _ _ _ (went_still _ ps _ _ _ _ _ (c.run.invariant.went.2 ps comes) _ (record {
      out = f.out;
      err = f.err;
      number = f.number;
      steps = refl;
    }))

pub returns-in-Err-next-clause-runs : goal.returns-in-Err-next-clause-runs
returns-in-Err-next-clause-runs g c = λ ps comes.
    let i = c.run.invariant in
    let f = c.in-Ok.ensures in
    let e = c.in-Err-next.ensures in
    let a = texts g.O.Sink.written g.O.Sink.number g.E.Sink.written c.flush_before_wait.new.out
    c.flush_before_wait.new.err c.run.outputs.steps.now in
    let b = texts g.O.Sink.written g.O.Sink.number g.E.Sink.written c.flush_before_wait.new.out
    c.flush_before_wait.new.err c.next.new.steps in
    let still = went_still _ ps _ _ _ _ _ (i.went.2 ps comes) a (record {
      out = f.out;
      err = f.err;
      number = f.number;
      steps = refl;
    }) in
    went_broke _ ps _ _ _ _ _ still b (λ _. refl) (λ _. refl) (λ _. refl) c.in-Err-next.ended _
    (λ how k. g.P.PieceSource.leaves how c.args.pieces.now c.next.new.self k)
    (subst (λ x. IsSaidBy x (g.P.PieceSource.source_name c.next.new.self) c.in-Err-next.ended) i.tool e.says)
    (λ todo h. e.gives todo h) (e.left c.args.pieces.now i.went.0 i.went.1)

pub returns-in-Err-next-clause-left : goal.returns-in-Err-next-clause-left
returns-in-Err-next-clause-left g c =
    let i = c.run.invariant in
    let e = c.in-Err-next.ensures in
    broke_leaves c.in-Err-next.ended _ _ _ i.went.0 e.says (e.left c.args.pieces.now i.went.0 i.went.1)

pub returns-in-Ok-None-clause-runs : goal.returns-in-Ok-None-clause-runs
returns-in-Ok-None-clause-runs g c = λ ps comes.
    let i = c.run.invariant in
    let f = c.in-Ok.ensures in
    let e = c.in-Ok-None.ensures in
    let a = texts g.O.Sink.written g.O.Sink.number g.E.Sink.written c.flush_before_wait.new.out
    c.flush_before_wait.new.err c.run.outputs.steps.now in
    let b = texts g.O.Sink.written g.O.Sink.number g.E.Sink.written c.flush_before_wait.new.out
    c.flush_before_wait.new.err c.next.new.steps in
    let still = went_still _ ps _ _ _ _ _ (i.went.2 ps comes) a (record {
      out = f.out;
      err = f.err;
      number = f.number;
      steps = refl;
    }) in
    went_end _ ps _ _ _ _ _ still b (λ _. refl) (λ _. refl) (λ _. refl)
    (λ todo h. rw c.in-Ok-None.field-0-is at (e.gives todo h))

pub returns-in-Err-write_piece-clause-runs : goal.returns-in-Err-write_piece-clause-runs
returns-in-Err-write_piece-clause-runs g c = λ ps comes.
    let i = c.run.invariant in
    let f = c.in-Ok.ensures in
    let e = c.in-Ok-Some.ensures in
    let w = c.in-Err-write_piece.ensures in
    let a = texts g.O.Sink.written g.O.Sink.number g.E.Sink.written c.flush_before_wait.new.out
    c.flush_before_wait.new.err c.run.outputs.steps.now in
    let b = texts g.O.Sink.written g.O.Sink.number g.E.Sink.written c.write_piece.new.out c.write_piece.new.err
    c.next.new.steps in
    let still = went_still _ ps _ _ _ _ _ (i.went.2 ps comes) a (record {
      out = f.out;
      err = f.err;
      number = f.number;
      steps = refl;
    }) in
    breaks_writing c.in-Err-write_piece.ended _ _ _ _ _ w.no_cut
    (went_fault _ ps _ _ _ _ _ still _ _ _ _ b (λ todo h. rw c.in-Ok-Some.field-0-is at (e.gives todo h)) w.out w.err)

pub returns-in-Err-write_piece-clause-left : goal.returns-in-Err-write_piece-clause-left
returns-in-Err-write_piece-clause-left g c =
    let i = c.run.invariant in
    let e = c.in-Ok-Some.ensures in
    let w = c.in-Err-write_piece.ensures in
    let left = rw c.in-Ok-Some.field-0-is at (e.left c.args.pieces.now i.went.0 i.went.1) in
    leaves_writing c.in-Err-write_piece.ended _ _ w.no_cut (w.keeps.left c.args.pieces.now (i.went.0 + 1) left)

pub returns-then-tally-clause-runs : goal.returns-then-tally-clause-runs
returns-then-tally-clause-runs g c = λ ps comes.
    let i = c.run.invariant in
    let f = c.in-Ok.ensures in
    let e = c.in-Ok-Some.ensures in
    let w = c.in-Ok-write_piece.ensures in
    let a = texts g.O.Sink.written g.O.Sink.number g.E.Sink.written c.flush_before_wait.new.out
    c.flush_before_wait.new.err c.run.outputs.steps.now in
    let b = texts g.O.Sink.written g.O.Sink.number g.E.Sink.written c.write_piece.new.out c.write_piece.new.err
    c.next.new.steps in
    let still = went_still _ ps _ _ _ _ _ (i.went.2 ps comes) a (record {
      out = f.out;
      err = f.err;
      number = f.number;
      steps = refl;
    }) in
    went_stop _ ps _ _ _ _ _ still _ _ _ _ b (λ todo h. rw c.in-Ok-Some.field-0-is at (e.gives todo h)) _
    c.with-tally.ensures w.out w.err w.number c.if-tally.true

pub returns-in-Err-next-clause-says : goal.returns-in-Err-next-clause-says
returns-in-Err-next-clause-says g c =
    cut_said c.in-Err-next.ended _ _ (subst (λ x. IsSaidBy x (g.P.PieceSource.source_name c.next.new.self)
    c.in-Err-next.ended) c.run.invariant.tool c.in-Err-next.ensures.says)

pub returns-in-Err-write_piece-clause-says : goal.returns-in-Err-write_piece-clause-says
returns-in-Err-write_piece-clause-says g c = cut_none c.in-Err-write_piece.ended _ _ c.in-Err-write_piece.ensures.no_cut
