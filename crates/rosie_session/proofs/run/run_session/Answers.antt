use Rattle.std.proofs.Common.{◌∙◌, ap, sym, refl}
use Rattle.rosie_io.specs.Reader.{Reader}
use Rattle.rosie_repl.specs.States.{session_of}
use Rattle.rosie_run.specs.Going.{StoodAt}
use Rattle.rosie_run.specs.Sources.{moment_of}
use Rattle.rosie_run.proofs.Breaking.{memory_runs, runs_weaken}
use Rattle.rosie_run.proofs.FromLines.{some_left}
use Rattle.rosie_session.specs.Replay.{pieces_of, replay}
use Rattle.rosie_session.specs.Where.{InSession}
use Rattle.rosie_session.specs.declared.run.SessionMemory.{SessionMemory}
use Rattle.rosie_session.specs.inside.Passing.{IsOver, LeavesSession, name_of, turns_left}
use Rattle.rosie_session.proofs.Passing.{none_ran, session_asks, session_cause, session_rest, session_stood}
use Rattle.rosie_session.proofs.Passing.{turns_begun}
use Rattle.rosie_session.proofs.run.run_session.Goals as goal

pub returns-clause-runs : goal.returns-clause-runs
returns-clause-runs g c = λ it w is t.
    let n = c.new-lines.ensures in
    let k = c.in_ok-kept.ensures in
    let s = c.new-lines.result in
    let z = c.run_pieces.new.pieces in
    let e = ap (λ (x : SessionMemory). x.reader) n.kept ∙ k.reader in
    let fresh = ap (λ (r : Reader). r.held) e in
    let parts = ap (λ (r : Reader). r.whole) e in
    let all = turns_begun g.I.Source w s _ e refl refl (ap (λ (x : SessionMemory). session_of x.state) n.kept
    ∙ k.state) in
    let over : IsOver g.F.Source g.I.Source w s =
    record { input = it; loads = rw (n.files, n.folders) is; told = rw (all, n.input) t } in
    let ran = runs_weaken _ c.run_pieces.result _
    (StoodAt (λ how i. LeavesSession g.F.Source g.I.Source how s z i) (name_of z.kept.now.unread))
    (InSession w (g.I.Source.rest s.input.now) (moment_of g.I.Source s.input.now) (moment_of g.I.Source z.input.now)
    (moment_of g.F.Source s.files.now) (moment_of g.F.Source z.files.now)) _ _
    (session_stood g.F.Source g.I.Source s z fresh parts w over all)
    (c.run_pieces.ensures.runs (replay w (g.I.Source.rest s.input.now))
    (record { loading = w; over = over; is = ap pieces_of (sym all) })) in
    rw (n.input, n.files) at ran

pub returns-clause-cause : goal.returns-clause-cause
returns-clause-cause g c =
    let n = c.new-lines.ensures in
    let e = ap (λ (x : SessionMemory). x.reader) n.kept ∙ c.in_ok-kept.ensures.reader in
    rw (n.input, n.files) at (session_cause g.F.Source g.I.Source c.new-lines.result c.run_pieces.new.pieces
    (ap (λ (r : Reader). r.held) e) (ap (λ (r : Reader). r.whole) e) c.run_pieces.result c.run_pieces.ensures.left)

pub returns-clause-rest : goal.returns-clause-rest
returns-clause-rest g c = λ it.
    let e = ap (λ (x : SessionMemory). x.reader) c.new-lines.ensures.kept ∙ c.in_ok-kept.ensures.reader in
    session_rest g.F.Source g.I.Source c.new-lines.result c.run_pieces.new.pieces (ap (λ (r : Reader). r.held) e)
    (ap (λ (r : Reader). r.whole) e) c.run_pieces.result it c.run_pieces.ensures.left

pub returns-clause-tree : goal.returns-clause-tree
returns-clause-tree g c =
    rw c.new-lines.ensures.files at (some_left c.run_pieces.result _ c.run_pieces.ensures.left).2.tree

pub returns-in_err-kept-clause-runs : goal.returns-in_err-kept-clause-runs
returns-in_err-kept-clause-runs g c = λ it w is t. memory_runs _ _ _ _ _ c.from_residual.ensures.1

pub returns-clause-asked : goal.returns-clause-asked
returns-clause-asked g c = λ it w is t.
    let n = c.new-lines.ensures in
    let k = c.in_ok-kept.ensures in
    let s = c.new-lines.result in
    let z = c.run_pieces.new.pieces in
    let e = ap (λ (x : SessionMemory). x.reader) n.kept ∙ k.reader in
    let fresh = ap (λ (r : Reader). r.held) e in
    let parts = ap (λ (r : Reader). r.whole) e in
    let all = turns_begun g.I.Source w s _ e refl refl (ap (λ (x : SessionMemory). session_of x.state) n.kept
    ∙ k.state) in
    let over : IsOver g.F.Source g.I.Source w s =
    record { input = it; loads = rw (n.files, n.folders) is; told = rw (all, n.input) t } in
    let asks = session_asks g.F.Source g.I.Source s z fresh parts c.run_pieces.result _ _ _ w over
    c.run_pieces.ensures.left (c.run_pieces.ensures.never_stops tt)
    (c.run_pieces.ensures.runs (pieces_of (turns_left g.I.Source w s))
    (record { loading = w; over = over; is = refl })) in
    rw (n.input, n.files) at (rw all at asks)

pub returns-in_err-kept-clause-asked : goal.returns-in_err-kept-clause-asked
returns-in_err-kept-clause-asked g c = λ it w is t.
    none_ran _ _ _ _ _ _ _ c.from_residual.ensures.1 refl

pub returns-clause-past_end : goal.returns-clause-past_end
returns-clause-past_end g c = λ fresh.
    let quiet = (some_left c.run_pieces.result _ c.run_pieces.ensures.left).2.past_end in
    (rw c.new-lines.ensures.input at quiet) (λ _. fresh)
