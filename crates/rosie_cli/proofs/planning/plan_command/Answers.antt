use Rattle.std.proofs.Common.{refl, arith}
use Rattle.rosie_cli.proofs.Made.{known_plans, leaves_own, texts_idle, texts_over, texts_said}
use Rattle.rosie_cli.proofs.planning.plan_command.Goals as goal

pub returns-in-Class-clause-plans : goal.returns-in-Class-clause-plans
returns-in-Class-clause-plans g c = λ p t is.
    let s = rw c.in-Class.is at is in
    known_plans _ c.plan_class.result p _ s refl c.plan_class.ensures.own c.plan_class.ensures.makes

pub returns-in-Class-clause-leaves : goal.returns-in-Class-clause-leaves
returns-in-Class-clause-leaves g c =
    leaves_own g.F.Source c.plan_class.result c.args.files.now c.args.files.now (λ lt. omega arith) refl
    (record { faults = refl; opens = refl })
    c.plan_class.ensures.own

pub returns-in-Class-clause-idle : goal.returns-in-Class-clause-idle
returns-in-Class-clause-idle g c = λ _. texts_idle c.plan_class.result c.plan_class.ensures.text

pub returns-in-Class-clause-over : goal.returns-in-Class-clause-over
returns-in-Class-clause-over g c = rw c.in-Class.is (texts_over c.plan_class.result c.plan_class.ensures.text)

pub returns-in-Expand-clause-idle : goal.returns-in-Expand-clause-idle
returns-in-Expand-clause-idle g c = λ _. texts_idle c.plan_expansion.result c.plan_expansion.ensures.text

pub returns-in-Expand-clause-over : goal.returns-in-Expand-clause-over
returns-in-Expand-clause-over g c = rw c.in-Expand.is (texts_over c.plan_expansion.result c.plan_expansion.ensures.text)

pub returns-in-Compile-clause-idle : goal.returns-in-Compile-clause-idle
returns-in-Compile-clause-idle g c = λ _. texts_idle c.plan_compiled.result c.plan_compiled.ensures.text

pub returns-in-Compile-clause-over : goal.returns-in-Compile-clause-over
returns-in-Compile-clause-over g c = rw c.in-Compile.is (texts_over c.plan_compiled.result c.plan_compiled.ensures.text)

pub returns-in-List-clause-idle : goal.returns-in-List-clause-idle
returns-in-List-clause-idle g c = λ _. texts_idle c.plan_list.result c.plan_list.ensures.text

pub returns-in-List-clause-over : goal.returns-in-List-clause-over
returns-in-List-clause-over g c = rw c.in-List.is (texts_over c.plan_list.result c.plan_list.ensures.text)

pub returns-in-Class-clause-said : goal.returns-in-Class-clause-said
returns-in-Class-clause-said g c = λ _. texts_said c.plan_class.result c.plan_class.ensures.text

pub returns-in-Some-clause-plans : goal.returns-in-Some-clause-plans
returns-in-Some-clause-plans g c = λ p t is.
    c.plan_code.ensures.plans p t (rw (c.in-Match.is, c.in-Some.is) at is)

pub returns-in-Match-clause-plans : goal.returns-in-Match-clause-plans
returns-in-Match-clause-plans g c = λ p t is.
    let base = c.base_of-base.ensures in
    (rw (base.0, base.1, base.2) at c.plan.ensures.plans) p t (rw (c.in-Match.is, c.in-None.is) at is)

pub returns-in-Grep-clause-plans : goal.returns-in-Grep-clause-plans
returns-in-Grep-clause-plans g c = λ p t is.
    let base = c.base_of-base.ensures in
    (rw (base.0, base.1, base.2) at c.plan-in-Grep.ensures.plans) p t (rw c.in-Grep.is at is)

pub returns-in-Trace-clause-plans : goal.returns-in-Trace-clause-plans
returns-in-Trace-clause-plans g c = λ p t is.
    let base = c.base_of-base.ensures in
    (rw (base.0, base.1, base.2) at c.plan-in-Trace.ensures.plans) p t (rw c.in-Trace.is at is)

pub returns-in-Sample-clause-plans : goal.returns-in-Sample-clause-plans
returns-in-Sample-clause-plans g c = λ p t is. c.plan_sample.ensures.plans p t (rw c.in-Sample.is at is)

pub returns-in-Test-clause-plans : goal.returns-in-Test-clause-plans
returns-in-Test-clause-plans g c = λ p t is. c.plan_tests.ensures.plans p t (rw c.in-Test.is at is)
