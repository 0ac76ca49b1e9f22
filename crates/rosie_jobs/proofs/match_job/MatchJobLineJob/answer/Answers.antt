use Rattle.std.proofs.Common.{ap, ◌∙◌}
use Rattle.std.specs.Prelude.{string_bytes}
use Rattle.rpl_core.specs.Program.{instructions}
use Rattle.rosie_jobs.specs.Lines.{ran}
use Rattle.rosie_jobs.proofs.OneLine.{made_ok, ran_cost}
use Rattle.rosie_jobs.proofs.Shown.{known_outcome, known_piece, made_merely, shown_known, steps_cost}
use Rattle.rosie_jobs.proofs.match_job.MatchJobLineJob.answer.Goals as goal

pub returns-clause-made : goal.returns-clause-made
returns-clause-made g c =
    let w = c.args.self.now in
    let s = w.line.settings in
    let code = instructions w.program in
    let line = c.args.line.text.now in
    let kept = c.answer.new.self.texts.answer in
    let told = string_bytes c.answer.new.self.texts.told in
    made_merely c.answer.result kept told _ w.known
    (λ known. made_ok c.answer.result kept told _ _ (known_piece w.goal s code c.args.line.file.now c.args.line.number
    line)
    (c.answer.ensures.made (known_outcome w.goal s code line)
    (shown_known w.goal s code line c.answer.ensures.text known)))

pub returns-clause-steps : goal.returns-clause-steps
returns-clause-steps g c =
    let w = c.args.self.now in
    let s = w.line.settings in
    let code = instructions w.program in
    let file = c.args.line.file.now in
    let n = c.args.line.number in
    let line = c.args.line.text.now in
    steps_cost c.answer.result c.args.steps.now c.answer.new.steps _ _
    (ap (λ p. p.cost) (known_piece w.goal s code file n line)
    ∙ ran_cost s file n line (known_outcome w.goal s code line) (ran s code line))
    c.answer.ensures.steps
