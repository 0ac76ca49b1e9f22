use Rattle.std.proofs.Common.{◌≤◌, refl, ◌∙◌, arith}
use Rattle.std.specs.Prelude.{string_bytes}
use Rattle.rosie_jobs.proofs.SampleOnward.{gives_last, gives_line, left_by}
use Rattle.rosie_jobs.proofs.sample_run.SampleRunPieceSource.next.Goals as goal

pub returns-then-self-clause-gives : goal.returns-then-self-clause-gives
returns-then-self-clause-gives g c = λ ps comes.
    let e = c.in_ok-mark.ensures in
    let z = c.next_line.new.self in
    gives_line z.text (e.same.1 ∙ c.in-None.is) z ps c.in_ok-mark.mark (string_bytes z.job.line.texts.told) _ _
    (e.gives ps (left_by c.args.self.now.text c.in-None.is c.args.self.now ps comes))

pub returns-clause-gives : goal.returns-clause-gives
returns-clause-gives g c = λ ps comes.
    let past = c.if-self.false in
    let behind : c.args.self.now.lines ≤ c.args.self.now.passed = omega arith in
    gives_last c.args.self.now ps _ _ _ (left_by c.args.self.now.text c.in-None.is c.args.self.now ps comes) behind
    c.in_ok-text.ensures refl
