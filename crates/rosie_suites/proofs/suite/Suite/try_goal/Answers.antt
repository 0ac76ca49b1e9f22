use Rattle.std.proofs.Common.{refl, ap, ◌∙◌}
use Rattle.rpl_core.specs.Program.{labels_of}
use Rattle.rpl_core.specs.Table.{bodies_of}
use Rattle.rpl_core.specs.Run.{Failed, Unfinished}
use Rattle.rosie_jobs.specs.Lines.{budget_or}
use Rattle.rosie_jobs.proofs.OneLine.{on_ok}
use Rattle.rosie_suites.specs.Seen.{bench_of}
use Rattle.rosie_suites.specs.inside.Entries.{job_of}
use Rattle.rosie_suites.proofs.Judged.{at_on, ran_on, match_tree, match_verdicts, none_verdict, over_verdict}
use Rattle.rosie_suites.proofs.Judged.{steps_by, text_spelled}
use Rattle.rosie_suites.proofs.suite.Suite.try_goal.Goals as goal

pub judge_match-requires : goal.judge_match-requires
judge_match-requires g c =
    let b = bench_of c.args.self.now in
    let job = job_of (bodies_of c.args.self.now.rules) c.args.compiled.now in
    let a = rw c.in-At.is at (c.in-Ok.ensures.answer (labels_of c.args.compiled.now.program)) in
    let at = at_on b c.args.test.now job _ _ _ _ _ _ _ _ c.requires.text c.text_of-text.ensures c.new.ensures
    c.budget_or-budget.ensures refl a.0 a.2 in
    match_tree b c.args.test.now job c.requires.text c.requires.ready _ _ _ _ at.0 at.1

pub returns-in-At-clause-verdict : goal.returns-in-At-clause-verdict
returns-in-At-clause-verdict g c =
    let b = bench_of c.args.self.now in
    let t = c.args.test.now in
    let job = job_of (bodies_of c.args.self.now.rules) c.args.compiled.now in
    let a = rw c.in-At.is at (c.in-Ok.ensures.answer (labels_of c.args.compiled.now.program)) in
    let at = at_on b t job _ _ _ _ _ _ _ _ c.requires.text c.text_of-text.ensures c.new.ensures
    c.budget_or-budget.ensures refl a.0 a.2 in
    match_verdicts b t job c.judge_match.result c.requires.text c.requires.ready _ _ _ _ at.0 at.1
    (rw c.text_of-prefix.ensures at c.judge_match.ensures)

pub returns-in-At-clause-steps : goal.returns-in-At-clause-steps
returns-in-At-clause-steps g c =
    let b = bench_of c.args.self.now in
    let t = c.args.test.now in
    let job = job_of (bodies_of c.args.self.now.rules) c.args.compiled.now in
    let a = rw c.in-At.is at (c.in-Ok.ensures.answer (labels_of c.args.compiled.now.program)) in
    let k = rw c.in-At.is at c.in-Ok.ensures.steps in
    let ran = at_on b t job _ _ _ _ _ _ _ _ c.requires.text c.text_of-text.ensures c.new.ensures
    c.budget_or-budget.ensures refl a.0 a.2 in
    on_ok c.judge_match.result (steps_by b t job _ _ _ _ ran.0 refl k)

pub returns-in-Fail-clause-verdict : goal.returns-in-Fail-clause-verdict
returns-in-Fail-clause-verdict g c =
    let b = bench_of c.args.self.now in
    let t = c.args.test.now in
    let job = job_of (bodies_of c.args.self.now.rules) c.args.compiled.now in
    let a = rw c.in-Fail.is at (c.in-Ok.ensures.answer (labels_of c.args.compiled.now.program)) in
    none_verdict b t job c.requires.text c.requires.ready c.in-Fail.steps c.judge_none.result
    (ran_on b t job _ _ _ _ (Failed c.in-Fail.steps) c.requires.text c.text_of-text.ensures c.new.ensures
    c.budget_or-budget.ensures refl a) (rw c.text_of-prefix.ensures at c.judge_none.ensures)

pub returns-in-Fail-clause-steps : goal.returns-in-Fail-clause-steps
returns-in-Fail-clause-steps g c =
    let b = bench_of c.args.self.now in
    let t = c.args.test.now in
    let job = job_of (bodies_of c.args.self.now.rules) c.args.compiled.now in
    let ran = Failed c.in-Fail.steps in
    let a = rw c.in-Fail.is at (c.in-Ok.ensures.answer (labels_of c.args.compiled.now.program)) in
    steps_by b t job ran _ _ _
    (ran_on b t job _ _ _ _ ran c.requires.text c.text_of-text.ensures c.new.ensures c.budget_or-budget.ensures refl a)
    refl (rw c.in-Fail.is at c.in-Ok.ensures.steps)

pub returns-in-Budget-clause-verdict : goal.returns-in-Budget-clause-verdict
returns-in-Budget-clause-verdict g c =
    let b = bench_of c.args.self.now in
    let t = c.args.test.now in
    let job = job_of (bodies_of c.args.self.now.rules) c.args.compiled.now in
    let a = rw c.in-Budget.is at (c.in-Err.ensures.answer (labels_of c.args.compiled.now.program)) in
    over_verdict b t job (ran_on b t job _ _ _ _ Unfinished c.requires.text c.text_of-text.ensures c.new.ensures
    c.budget_or-budget.ensures refl a)

pub returns-in-Budget-clause-steps : goal.returns-in-Budget-clause-steps
returns-in-Budget-clause-steps g c =
    let b = bench_of c.args.self.now in
    let t = c.args.test.now in
    let job = job_of (bodies_of c.args.self.now.rules) c.args.compiled.now in
    let spent = rw c.in-Budget.is at (c.in-Err.ensures.answer (labels_of c.args.compiled.now.program)) in
    let most = ap (budget_or b.budget) (text_spelled t.text _ c.requires.text c.text_of-text.ensures) in
    steps_by b t job Unfinished _ _ _ (ran_on b t job _ _ _ _ Unfinished c.requires.text c.text_of-text.ensures
    c.new.ensures c.budget_or-budget.ensures refl spent) (c.budget_or-budget.ensures ∙ most)
    (rw c.in-Budget.is at c.in-Err.ensures.steps)
