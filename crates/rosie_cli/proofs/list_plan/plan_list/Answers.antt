use Rattle.std.proofs.Common.{◌∙◌, ap, sym, subst}
use Rattle.std.specs.Prelude.{Err, Ok}
use Rattle.rosie_run.specs.Unready.{HasAsked}
use Rattle.rosie_prepare.proofs.Loads.{told_bytes}
use Rattle.rosie_inspect.proofs.Texts.{one_text}
use Rattle.rpl_package.specs.Asking.{IsTold}
use Rattle.rpl_names.specs.Names.{all_listed}
use Rattle.rpl_names.specs.Sets.{set_seen}
use Rattle.rosie_cli.specs.Planned.{Lists}
use Rattle.rosie_cli.specs.Plans.{whole_answer}
use Rattle.rosie_cli.specs.declared.plan.Plan.{Plan}
use Rattle.rosie_cli.proofs.Made.{due_plans, leaves_through, memory_after, plans_through}
use Rattle.rosie_cli.proofs.list_plan.plan_list.Goals as goal

pub returns-clause-plans : goal.returns-clause-plans
returns-clause-plans g c = λ p t is.
    let told = told_bytes g.F.Source.tells _ (subst (IsTold g.F.Source.tells) is.asked t) in
    let due = c.in_ok-ready.ensures.prepares told is.packages is.comes in
    let lists = subst (λ r. Lists r p.plan) due is.lists in (
      lists.2 ∙ ap whole_answer
          (one_text (all_listed (set_seen c.in_ok-ready.ready.packages)) lists.0 _ lists.1 c.in_ok-names_text.ensures),
      subst (HasAsked _ _ (Ok c.in_ok-ready.ready)) (sym is.asked) (c.in_ok-ready.ensures.asked told),
    )

pub returns-in_err-ready-clause-plans : goal.returns-in_err-ready-clause-plans
returns-in_err-ready-clause-plans g c = λ p t is.
    let u = c.in_err-ready.field-0.0 in
    let e = c.in_err-ready.ensures in
    let told = told_bytes g.F.Source.tells _ (subst (IsTold g.F.Source.tells) is.asked t) in
    plans_through _ _ c.from_residual.result u p c.from_residual.ensures.1
    (due_plans _ _ u p Lists is.packages (λ line plan x. x) (e.prepares told is.packages is.comes)
    (subst (HasAsked {X = Plan} _ _ (Err u)) (sym is.asked) (e.asked told)) is.lists)

pub returns-in_err-ready-clause-leaves : goal.returns-in_err-ready-clause-leaves
returns-in_err-ready-clause-leaves g c =
    let e = c.in_err-ready.ensures in
    leaves_through g.F.Source c.from_residual.result _ _ e.taken e.tree c.in_err-ready.field-0.0
    c.from_residual.ensures.1 e.cause

pub returns-in_err-names_text-clause-plans : goal.returns-in_err-names_text-clause-plans
returns-in_err-names_text-clause-plans g c = λ p t is.
    let told = told_bytes g.F.Source.tells _ (subst (IsTold g.F.Source.tells) is.asked t) in
    memory_after _ _ c.in_ok-ready.ready c.from_residual-in_err-names_text.result p
    c.from_residual-in_err-names_text.ensures.1
    (subst (HasAsked _ _ (Ok c.in_ok-ready.ready)) (sym is.asked) (c.in_ok-ready.ensures.asked told))
