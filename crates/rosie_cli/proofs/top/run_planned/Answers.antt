use Rattle.std.proofs.Common.{◌∙◌, ap, refl, sym, subst}
use Rattle.std.specs.List.{Contains}
use Rattle.std.specs.Prelude.{Err, Ok, string_bytes}
use Rattle.rosie_run.specs.Inputs.{reads_standard}
use Rattle.rosie_run.proofs.Pieces.{fronts_none}
use Rattle.rosie_run.specs.declared.unready.Unready.TheVariants as U
use Rattle.rosie_cli.specs.Plans.{IsIdlePlan, IgnoresInput, refusal, KnowsInputs}
use Rattle.rosie_cli.specs.inside.Planning.{plan_of}
use Rattle.rosie_cli.proofs.Made.{asks_all, asks_planned, failed_asked}
use Rattle.rosie_cli.proofs.Opened.{ends_later, later_hides, memory_asked, memory_hides, past_later, planned_asked}
use Rattle.rosie_cli.proofs.Opened.{said_asked, still_hides, unread_asked, unread_hides}
use Rattle.rosie_run.specs.Sources.{moment_of, span_of}
use Rattle.rosie_cli.proofs.Whole.{planned_runs, planned_goes, refused_runs, said_goes, unread}
use Rattle.rosie_cli.proofs.top.run_planned.Goals as goal

pub returns-in-Ok-clause-runs : goal.returns-in-Ok-clause-runs
returns-in-Ok-clause-runs g c = λ p t is inputs.
    let e = c.in-Ok.ensures in
    let left = e.leaves in
    let same = (e.plans p t is).0 in
    let rest = g.I.Source.rest c.args.inputs.now.input.now in
    planned_runs c.run_plan.result _ p (plan_of c.in-Ok.plan) _ _ _ _ _ _ _ _ same left.tree left.cause.faults
    left.cause.opens left.taken
    (c.run_plan.ensures.runs (subst (λ x. KnowsInputs x g.F.Source.tells g.I.Source.tells rest) same inputs))

pub returns-in-Ok-clause-rest : goal.returns-in-Ok-clause-rest
returns-in-Ok-clause-rest g c = λ p t is inputs.
    let same = (c.in-Ok.ensures.plans p t is).0 in
    let rest = g.I.Source.rest c.args.inputs.now.input.now in
    planned_goes c.run_plan.result p (plan_of c.in-Ok.plan) _ same
    (c.run_plan.ensures.rest (subst (λ x. KnowsInputs x g.F.Source.tells g.I.Source.tells rest) same inputs))

pub returns-in-NoMemory-clause-runs : goal.returns-in-NoMemory-clause-runs
returns-in-NoMemory-clause-runs g c = λ p t is inputs. fronts_none _ _ _

pub returns-in-Refused-clause-runs : goal.returns-in-Refused-clause-runs
returns-in-Refused-clause-runs g c = λ p t is inputs.
    let plans = rw c.in-Refused.is at (c.in-Err.ensures.plans p t is) in
    refused_runs c.refuse.result _ p (string_bytes c.in-Refused.line) _ _ _ _ _ plans.0
    (c.refuse.ensures.runs c.args.outputs.now.steps.now)

pub returns-in-Refused-clause-rest : goal.returns-in-Refused-clause-rest
returns-in-Refused-clause-rest g c = λ p t is inputs.
    let plan = refusal (string_bytes c.in-Refused.line) in
    let plans = rw c.in-Refused.is at (c.in-Err.ensures.plans p t is) in
    planned_goes c.refuse.result p plan _ plans.0 (said_goes c.refuse.result plan _ tt)

pub returns-in-ReadFault-clause-runs : goal.returns-in-ReadFault-clause-runs
returns-in-ReadFault-clause-runs g c = λ p t is inputs.
    let cause = rw c.in-ReadFault.is at c.in-Err.ensures.leaves.cause in
    let plans = rw c.in-ReadFault.is at (c.in-Err.ensures.plans p t is) in
    unread c.cut.result _ p _ c.text_of-file.result.now _ _ _ (g.met.O.Sink.number_fits c.args.outputs.now.out.now)
    c.cut.ensures
    (subst (Contains p.asked) (sym c.text_of-file.ensures)
    (failed_asked _ _ c.in-ReadFault.path p
    (asks_planned _ _ (Err (U.ReadFault c.in-ReadFault.path)) p plans))) cause.1

pub returns-in-Ok-clause-unread : goal.returns-in-Ok-clause-unread
returns-in-Ok-clause-unread g c = λ p t is n.
    c.run_plan.ensures.unread (subst IgnoresInput (c.in-Ok.ensures.plans p t is).0 n)

pub returns-in-Ok-clause-unrun : goal.returns-in-Ok-clause-unrun
returns-in-Ok-clause-unrun g c = λ p t is n.
    c.run_plan.ensures.idle (subst IsIdlePlan (c.in-Ok.ensures.plans p t is).0 n)

pub returns-in-Ok-clause-unnamed : goal.returns-in-Ok-clause-unnamed
returns-in-Ok-clause-unnamed g c = λ n. c.run_plan.ensures.unread (ap reads_standard c.in-Ok.ensures.over ∙ n)

pub returns-in-Ok-clause-asked : goal.returns-in-Ok-clause-asked
returns-in-Ok-clause-asked g c = λ p t is.
    let e = c.in-Ok.ensures in
    let plan = plan_of c.in-Ok.plan in
    let plans = e.plans p t is in
    planned_asked c.run_plan.result _ _ p plan _ _ _ plans.0
    (asks_all _ _ p.asked (asks_planned _ _ (Ok c.in-Ok.plan) p plans)) c.run_plan.ensures.asked refl
    (λ names. past_later g.F.Source.tells g.I.Source.tells _ _ _ p.plan plan names plans.0 e.leaves.tree)
    (λ names. ends_later g.F.Source.tells g.I.Source.tells _ _ _ p.plan plan names plans.0 e.leaves.tree)

pub returns-in-NoMemory-clause-asked : goal.returns-in-NoMemory-clause-asked
returns-in-NoMemory-clause-asked g c = λ p t is.
    memory_asked _ p _ _ (asks_planned _ _ (Err U.NoMemory) p (rw c.in-NoMemory.is at (c.in-Err.ensures.plans p t is)))

pub returns-in-Refused-clause-asked : goal.returns-in-Refused-clause-asked
returns-in-Refused-clause-asked g c = λ p t is.
    let plans = rw c.in-Refused.is at (c.in-Err.ensures.plans p t is) in
    said_asked c.refuse.result _ p (refusal (string_bytes c.in-Refused.line)) _ _ plans.0 tt c.refuse.ensures.no_cut
    (asks_all _ _ p.asked (asks_planned _ _ (Err (U.Refused c.in-Refused.line)) p plans))

pub returns-in-ReadFault-clause-asked : goal.returns-in-ReadFault-clause-asked
returns-in-ReadFault-clause-asked g c = λ p t is.
    let plans = rw c.in-ReadFault.is at (c.in-Err.ensures.plans p t is) in
    unread_asked c.cut.result _ p c.in-ReadFault.path c.text_of-file.result.now _ _ c.cut.ensures c.text_of-file.ensures
    (asks_planned _ _ (Err (U.ReadFault c.in-ReadFault.path)) p plans)

pub returns-in-Ok-clause-untouched : goal.returns-in-Ok-clause-untouched
returns-in-Ok-clause-untouched g c = λ n.
    let left = c.run_plan.ensures.untouched (c.in-Ok.ensures.said n) in
    (left.0 ∙ c.in-Ok.ensures.untouched n, left.1)

pub returns-in-Ok-clause-unhidden : goal.returns-in-Ok-clause-unhidden
returns-in-Ok-clause-unhidden g c = λ p t is.
    later_hides (span_of g.F.Source c.args.inputs.now.files.now c.run_plan.new.inputs.files.now) p _ _
    c.run_plan.result (moment_of g.F.Source c.plan_command.new.files) c.in-Ok.ensures.leaves.cause
    c.run_plan.ensures.unhidden

pub returns-in-NoMemory-clause-unhidden : goal.returns-in-NoMemory-clause-unhidden
returns-in-NoMemory-clause-unhidden g c = λ p t is.
    memory_hides _ p _ _ (asks_planned _ _ (Err U.NoMemory) p (rw c.in-NoMemory.is at (c.in-Err.ensures.plans p t is)))

pub returns-in-Refused-clause-unhidden : goal.returns-in-Refused-clause-unhidden
returns-in-Refused-clause-unhidden g c = λ p t is.
    still_hides (span_of g.F.Source c.args.inputs.now.files.now c.plan_command.new.files) p _ _ c.refuse.result
    (rw c.in-Refused.is at c.in-Err.ensures.leaves.cause)

pub returns-in-ReadFault-clause-unhidden : goal.returns-in-ReadFault-clause-unhidden
returns-in-ReadFault-clause-unhidden g c = λ p t is.
    let plans = rw c.in-ReadFault.is at (c.in-Err.ensures.plans p t is) in
    unread_hides _ p _ _ c.cut.result c.in-ReadFault.path
    (asks_planned _ _ (Err (U.ReadFault c.in-ReadFault.path)) p plans)
