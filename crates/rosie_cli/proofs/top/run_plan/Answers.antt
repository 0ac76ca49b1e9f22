use Rattle.std.proofs.Common.{ap, sym, subst, ◌∙◌}
use Rattle.std.specs.Prelude.{encode_utf8_all}
use Rattle.rosie_run.proofs.Breaking.{hides_still}
use Rattle.rosie_run.specs.Inputs.{names_of}
use Rattle.rosie_run.specs.Sources.{moment_of}
use Rattle.rosie_run.specs.declared.lines.Reading.{Reading}
use Rattle.rpl_core.specs.Program.{instructions}
use Rattle.rosie_jobs.specs.Jobs.{matcher_of, tracer_of}
use Rattle.rosie_cli.specs.Plans.{IsIdlePlan, RunsOnInputs, inputs_of, KnowsInputs}
use Rattle.rosie_cli.specs.inside.Planning.{plan_of, IsSaid}
use Rattle.rosie_suites.specs.Seen.{bench_of, trials_of}
use Rattle.rosie_cli.proofs.Opened.{match_asked, said_alone}
use Rattle.rosie_cli.proofs.Whole.{match_runs, matches_work, names_go, said_goes, test_runs, told_names, unread_names}
use Rattle.rosie_cli.proofs.top.run_plan.Goals as goal

pub returns-in-Answer-clause-rest : goal.returns-in-Answer-clause-rest
returns-in-Answer-clause-rest g c = λ knows.
    said_goes c.say.result (plan_of c.args.plan.now) _
    (subst (λ x. IsSaid (plan_of x)) (sym c.in-Answer.is) tt)

pub returns-in-Expand-clause-rest : goal.returns-in-Expand-clause-rest
returns-in-Expand-clause-rest g c = λ knows.
    said_goes c.run_expansion.result (plan_of c.args.plan.now) _
    (subst (λ x. IsSaid (plan_of x)) (sym c.in-Expand.is) tt)

pub returns-in-Write-clause-rest : goal.returns-in-Write-clause-rest
returns-in-Write-clause-rest g c = λ knows.
    said_goes c.say-in-Write.result (plan_of c.args.plan.now) _
    (subst (λ x. IsSaid (plan_of x)) (sym c.in-Write.is) tt)

pub returns-in-Test-clause-runs : goal.returns-in-Test-clause-runs
returns-in-Test-clause-runs g c = λ knows.
    test_runs c.run.result _ (bench_of c.in-Test.suite) (trials_of c.in-Test.suite) (plan_of c.args.plan.now)
    (g.F.Source.tree c.args.inputs.now.files.now) _ _ _ _ (ap plan_of c.in-Test.is) c.run.ensures.runs

pub returns-in-Test-clause-rest : goal.returns-in-Test-clause-rest
returns-in-Test-clause-rest g c = λ knows.
    said_goes c.run.result (plan_of c.args.plan.now) _ (subst (λ x. IsSaid (plan_of x)) (sym c.in-Test.is) tt)

pub returns-in-Sample-clause-rest : goal.returns-in-Sample-clause-rest
returns-in-Sample-clause-rest g c = λ knows.
    said_goes c.run-in-Sample.result (plan_of c.args.plan.now) _
    (subst (λ x. IsSaid (plan_of x)) (sym c.in-Sample.is) tt)

pub returns-in-Match-clause-runs : goal.returns-in-Match-clause-runs
returns-in-Match-clause-runs g c = λ knows.
    let m = c.in-Match in
    let rest = g.I.Source.rest c.args.inputs.now.input.now in
    let tells = subst (λ x. KnowsInputs (plan_of x) g.F.Source.tells g.I.Source.tells rest) m.is knows in
    rw (ap (λ (r : Reading). r.tool) c.reading-reading.ensures) at
    (match_runs c.run_inputs.result _ (matcher_of m.job) m.whole (names_of encode_utf8_all m.names)
    (names_of encode_utf8_all c.as_slice-names.result.now) _ (plan_of c.args.plan.now)
    (g.F.Source.tree c.args.inputs.now.files.now) _ _ _ _ (ap plan_of m.is)
    (ap (names_of encode_utf8_all) c.as_slice-names.ensures) c.reading-reading.ensures
    (c.run_inputs.ensures.runs (told_names _ _ _ _ (ap (names_of encode_utf8_all) c.as_slice-names.ensures) tells)))

pub returns-in-Trace-clause-runs : goal.returns-in-Trace-clause-runs
returns-in-Trace-clause-runs g c = λ knows.
    let m = c.in-Trace in
    let rest = g.I.Source.rest c.args.inputs.now.input.now in
    let names = names_of encode_utf8_all m.names in
    let tells = subst (λ x. KnowsInputs (plan_of x) g.F.Source.tells g.I.Source.tells rest) m.is knows in
    rw (ap (λ (r : Reading). r.tool) c.reading-reading-in-Trace.ensures) at
    (match_runs c.run_inputs-in-Trace.result _ (tracer_of c.new-tracer.result) m.whole names
    (names_of encode_utf8_all c.as_slice-names-in-Trace.result.now) _ (plan_of c.args.plan.now)
    (g.F.Source.tree c.args.inputs.now.files.now) _ _ _ _
    (ap plan_of m.is ∙ ap (λ x. RunsOnInputs x m.whole names) (sym c.new-tracer.ensures.maker))
    (ap (names_of encode_utf8_all) c.as_slice-names-in-Trace.ensures) c.reading-reading-in-Trace.ensures
    (c.run_inputs-in-Trace.ensures.runs
    (told_names _ _ _ _ (ap (names_of encode_utf8_all) c.as_slice-names-in-Trace.ensures) tells)))

pub returns-in-Match-clause-unread : goal.returns-in-Match-clause-unread
returns-in-Match-clause-unread g c = λ n.
    let m = c.in-Match in
    c.run_inputs.ensures.unread (unread_names (plan_of c.args.plan.now) (names_of encode_utf8_all m.names)
    (names_of encode_utf8_all c.as_slice-names.result.now) (ap (λ x. inputs_of (plan_of x)) m.is)
    (ap (names_of encode_utf8_all) c.as_slice-names.ensures) n)

pub returns-in-Trace-clause-unread : goal.returns-in-Trace-clause-unread
returns-in-Trace-clause-unread g c = λ n.
    let m = c.in-Trace in
    c.run_inputs-in-Trace.ensures.unread (unread_names (plan_of c.args.plan.now) (names_of encode_utf8_all m.names)
    (names_of encode_utf8_all c.as_slice-names-in-Trace.result.now) (ap (λ x. inputs_of (plan_of x)) m.is)
    (ap (names_of encode_utf8_all) c.as_slice-names-in-Trace.ensures) n)

pub returns-in-Match-clause-rest : goal.returns-in-Match-clause-rest
returns-in-Match-clause-rest g c = λ knows.
    let m = c.in-Match in
    let rest = g.I.Source.rest c.args.inputs.now.input.now in
    let tells = subst (λ x. KnowsInputs (plan_of x) g.F.Source.tells g.I.Source.tells rest) m.is knows in
    let same = ap (names_of encode_utf8_all) c.as_slice-names.ensures in
    names_go c.run_inputs.result (plan_of c.args.plan.now) (names_of encode_utf8_all m.names)
    (names_of encode_utf8_all c.as_slice-names.result.now) _ (ap (λ x. inputs_of (plan_of x)) m.is) same
    (c.run_inputs.ensures.rest (told_names _ _ _ _ same tells))

pub returns-in-Trace-clause-rest : goal.returns-in-Trace-clause-rest
returns-in-Trace-clause-rest g c = λ knows.
    let m = c.in-Trace in
    let rest = g.I.Source.rest c.args.inputs.now.input.now in
    let tells = subst (λ x. KnowsInputs (plan_of x) g.F.Source.tells g.I.Source.tells rest) m.is knows in
    let same = ap (names_of encode_utf8_all) c.as_slice-names-in-Trace.ensures in
    names_go c.run_inputs-in-Trace.result (plan_of c.args.plan.now) (names_of encode_utf8_all m.names)
    (names_of encode_utf8_all c.as_slice-names-in-Trace.result.now) _ (ap (λ x. inputs_of (plan_of x)) m.is) same
    (c.run_inputs-in-Trace.ensures.rest (told_names _ _ _ _ same tells))

pub returns-in-Match-clause-idle : goal.returns-in-Match-clause-idle
returns-in-Match-clause-idle g c = λ n.
    let m = c.in-Match in
    absurd (matches_work m.job.goal m.job.line.settings (instructions m.job.program)
    (subst IsIdlePlan (ap plan_of m.is) n))

pub returns-in-Answer-clause-asked : goal.returns-in-Answer-clause-asked
returns-in-Answer-clause-asked g c =
    said_alone c.say.result _ (plan_of c.args.plan.now) _ _ (ap plan_of c.in-Answer.is) tt c.say.ensures.no_cut

pub returns-in-Expand-clause-asked : goal.returns-in-Expand-clause-asked
returns-in-Expand-clause-asked g c =
    said_alone c.run_expansion.result _ (plan_of c.args.plan.now) _ _ (ap plan_of c.in-Expand.is) tt
    c.run_expansion.ensures.no_cut

pub returns-in-Write-clause-asked : goal.returns-in-Write-clause-asked
returns-in-Write-clause-asked g c =
    said_alone c.say-in-Write.result _ (plan_of c.args.plan.now) _ _ (ap plan_of c.in-Write.is) tt
    c.say-in-Write.ensures.no_cut

pub returns-in-Test-clause-asked : goal.returns-in-Test-clause-asked
returns-in-Test-clause-asked g c =
    said_alone c.run.result _ (plan_of c.args.plan.now) _ _ (ap plan_of c.in-Test.is) tt c.run.ensures.no_cut

pub returns-in-Sample-clause-asked : goal.returns-in-Sample-clause-asked
returns-in-Sample-clause-asked g c =
    said_alone c.run-in-Sample.result _ (plan_of c.args.plan.now) _ _ (ap plan_of c.in-Sample.is) tt
    c.run-in-Sample.ensures.no_cut

pub returns-in-Match-clause-asked : goal.returns-in-Match-clause-asked
returns-in-Match-clause-asked g c =
    let m = c.in-Match in
    let tool = ap (λ (r : Reading). r.tool) c.reading-reading.ensures in
    rw tool at
    (match_asked c.run_inputs.result _ (matcher_of m.job) m.whole (names_of encode_utf8_all m.names)
    (names_of encode_utf8_all c.as_slice-names.result.now) _ (plan_of c.args.plan.now) _ _ (ap plan_of m.is)
    (ap (names_of encode_utf8_all) c.as_slice-names.ensures) c.reading-reading.ensures (sym tool)
    c.run_inputs.ensures.asked)

pub returns-in-Trace-clause-asked : goal.returns-in-Trace-clause-asked
returns-in-Trace-clause-asked g c =
    let m = c.in-Trace in
    let names = names_of encode_utf8_all m.names in
    let tool = ap (λ (r : Reading). r.tool) c.reading-reading-in-Trace.ensures in
    rw tool at
    (match_asked c.run_inputs-in-Trace.result _ (tracer_of c.new-tracer.result) m.whole names
    (names_of encode_utf8_all c.as_slice-names-in-Trace.result.now) _ (plan_of c.args.plan.now) _ _
    (ap plan_of m.is ∙ ap (λ x. RunsOnInputs x m.whole names) (sym c.new-tracer.ensures.maker))
    (ap (names_of encode_utf8_all) c.as_slice-names-in-Trace.ensures) c.reading-reading-in-Trace.ensures (sym tool)
    c.run_inputs-in-Trace.ensures.asked)

pub returns-in-Answer-clause-unhidden : goal.returns-in-Answer-clause-unhidden
returns-in-Answer-clause-unhidden g c =
    hides_still c.say.result (moment_of g.F.Source c.args.inputs.now.files.now)

pub returns-in-Expand-clause-unhidden : goal.returns-in-Expand-clause-unhidden
returns-in-Expand-clause-unhidden g c =
    hides_still c.run_expansion.result (moment_of g.F.Source c.args.inputs.now.files.now)

pub returns-in-Write-clause-unhidden : goal.returns-in-Write-clause-unhidden
returns-in-Write-clause-unhidden g c =
    hides_still c.say-in-Write.result (moment_of g.F.Source c.args.inputs.now.files.now)

pub returns-in-Test-clause-unhidden : goal.returns-in-Test-clause-unhidden
returns-in-Test-clause-unhidden g c =
    hides_still c.run.result (moment_of g.F.Source c.args.inputs.now.files.now)

pub returns-in-Sample-clause-unhidden : goal.returns-in-Sample-clause-unhidden
returns-in-Sample-clause-unhidden g c =
    hides_still c.run-in-Sample.result (moment_of g.F.Source c.args.inputs.now.files.now)
