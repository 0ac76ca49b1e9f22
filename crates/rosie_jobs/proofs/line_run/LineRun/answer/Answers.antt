use Rattle.std.proofs.Common.{ap, refl, subst, ◌∙◌}
use Rattle.std.specs.Prelude.{chars}
use Rattle.std.specs.Str.{IsUtf8}
use Rattle.rpl_core.specs.Program.{instructions, labels_of}
use Rattle.rosie_jobs.specs.inside.Printed.{NeedsTrees}
use Rattle.rosie_jobs.proofs.OneLine.{hit_ends, miss_ends, ran_over, ran_steps, said_piece, over_piece, made_ok, on_ok}
use Rattle.rosie_jobs.proofs.line_run.LineRun.answer.Goals as goal

pub returns-in_ok-fits-in-At-clause-made : goal.returns-in_ok-fits-in-At-clause-made
returns-in_ok-fits-in-At-clause-made g c = λ o shown.
    let texts = labels_of c.args.program.now in
    let style = c.args.self.now.settings.style in
    let a = rw c.in-At.is at (c.in-Ok.ensures.place texts) in
    let k : (NeedsTrees style → _) =
    λ needs. rw c.in-At.is at (c.in-Ok.ensures.answer (c.requires.captures needs) texts)
    in
    let e = hit_ends c.args.self.now.settings (instructions c.args.program.now) o c.args.line.text.now
    (subst IsUtf8 c.text_of.ensures c.text_of.utf8) shown _ _ _ _ _ _ _ c.in_ok-fits-in-At.fits _ (NeedsTrees style)
    (c.new.ensures ∙ ap chars c.text_of.ensures) c.budget_or-budget.ensures refl a.0
    (λ needs. ((k needs).0, (k needs).2))
    (rw c.requires.fronts at c.in_ok-fits-in-At.ensures.printed) in
    made_ok c.say.result _ _ _ _ (said_piece c.args.self.now.settings (instructions c.args.program.now) o
    c.args.line.file.now c.args.line.number c.args.line.text.now _ _ _ _ e) (c.say.ensures c.in-At.steps)

pub returns-in_ok-fits-in-At-clause-steps : goal.returns-in_ok-fits-in-At-clause-steps
returns-in_ok-fits-in-At-clause-steps g c =
    let a = rw c.in-At.is at (c.in-Ok.ensures.place (labels_of c.args.program.now)) in
    let k = rw c.in-At.is at c.in-Ok.ensures.steps in
    on_ok c.say.result (ran_steps c.args.self.now.settings (instructions c.args.program.now) c.args.line.text.now _ _ _
    _ _ _ (c.new.ensures ∙ ap chars c.text_of.ensures) c.budget_or-budget.ensures refl a.0.1 k)

pub returns-in_ok-fits-in-Fail-clause-made : goal.returns-in_ok-fits-in-Fail-clause-made
returns-in_ok-fits-in-Fail-clause-made g c = λ o shown.
    let a = rw c.in-Fail.is at (c.in-Ok.ensures.place (labels_of c.args.program.now)) in
    let e = miss_ends c.args.self.now.settings (instructions c.args.program.now) o c.args.line.text.now
    (subst IsUtf8 c.text_of.ensures c.text_of.utf8) shown _ _ _ _ c.in_ok-fits-in-Fail.fits _ (c.new.ensures
    ∙ ap chars c.text_of.ensures) c.budget_or-budget.ensures refl a c.in_ok-fits-in-Fail.ensures in
    made_ok c.say-in-Fail.result _ _ _ _ (said_piece c.args.self.now.settings (instructions c.args.program.now) o
    c.args.line.file.now c.args.line.number c.args.line.text.now _ _ _ _ e) (c.say-in-Fail.ensures c.in-Fail.steps)

pub returns-in_ok-fits-in-Fail-clause-steps : goal.returns-in_ok-fits-in-Fail-clause-steps
returns-in_ok-fits-in-Fail-clause-steps g c =
    let a = rw c.in-Fail.is at (c.in-Ok.ensures.place (labels_of c.args.program.now)) in
    let k = rw c.in-Fail.is at c.in-Ok.ensures.steps in
    on_ok c.say-in-Fail.result (ran_steps c.args.self.now.settings (instructions c.args.program.now)
    c.args.line.text.now _ _ _ _ _ _ (c.new.ensures ∙ ap chars c.text_of.ensures) c.budget_or-budget.ensures refl a k)

pub returns-in-Budget-clause-made : goal.returns-in-Budget-clause-made
returns-in-Budget-clause-made g c = λ o shown.
    let a = rw c.in-Budget.is at (c.in-Err.ensures.place (labels_of c.args.program.now)) in
    let e = ran_over c.args.self.now.settings (instructions c.args.program.now) o c.args.line.text.now
    (subst IsUtf8 c.text_of.ensures c.text_of.utf8) _ _ _ (c.new.ensures
    ∙ ap chars c.text_of.ensures) c.budget_or-budget.ensures refl a in
    made_ok c.fault.result _ _ _ _ (over_piece c.args.self.now.settings (instructions c.args.program.now) o
    c.args.line.file.now c.args.line.number c.args.line.text.now e) (c.fault.ensures _)

pub returns-in-Budget-clause-steps : goal.returns-in-Budget-clause-steps
returns-in-Budget-clause-steps g c =
    let a = rw c.in-Budget.is at (c.in-Err.ensures.place (labels_of c.args.program.now)) in
    let k = rw c.in-Budget.is at c.in-Err.ensures.steps in
    on_ok c.fault.result (ran_steps c.args.self.now.settings (instructions c.args.program.now) c.args.line.text.now _ _
    _ _ _ _ (c.new.ensures ∙ ap chars c.text_of.ensures) c.budget_or-budget.ensures refl a k)
