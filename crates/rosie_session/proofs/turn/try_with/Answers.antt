use Rattle.std.proofs.Common.{refl}
use Rattle.std.specs.Prelude.{Some, chars, string_bytes}
use Rattle.rosie_repl.specs.States.{session_of}
use Rattle.rosie_session.proofs.Turns.{all_asked, memory_asks, memory_front, memory_leaves, refused_asks}
use Rattle.rosie_session.proofs.Turns.{refused_cost, try_cost, try_made, try_refused, unread_front}
use Rattle.rosie_session.proofs.turn.try_with.Goals as goal

pub returns-in_ok-try_job-in-Ok-clause-turns : goal.returns-in_ok-try_job-in-Ok-clause-turns
returns-in_ok-try_job-in-Ok-clause-turns g c = λ w is t.
    let j = c.in-Ok.ensures.gives w is t in
    let p = chars c.args.trial.now.pattern.now in
    try_made w c.args.base.now.number (session_of c.args.state.now) c.args.trial.now.line.now (Some p) p refl
    c.in_ok-try_job-in-Ok.field-0
    j.0 j.1 (c.in_ok-try_job-in-Ok.ensures.reply j.0 j.2)

pub returns-in_ok-try_job-in-Ok-clause-steps : goal.returns-in_ok-try_job-in-Ok-clause-steps
returns-in_ok-try_job-in-Ok-clause-steps g c = λ w is t.
    let j = c.in-Ok.ensures.gives w is t in
    let p = chars c.args.trial.now.pattern.now in
    try_cost w c.args.base.now.number (session_of c.args.state.now) c.args.trial.now.line.now (Some p) p refl j.0 _ _
    j.1
    (c.in_ok-try_job-in-Ok.ensures.cost j.0 j.2)

pub returns-in-Refused-clause-turns : goal.returns-in-Refused-clause-turns
returns-in-Refused-clause-turns g c = λ w is t.
    let due = rw c.in-Refused.is at (c.in-Err.ensures.gives w is t) in
    let p = chars c.args.trial.now.pattern.now in
    try_refused w c.args.base.now.number (session_of c.args.state.now) c.args.trial.now.line.now (Some p) p refl
    c.refused.result
    (string_bytes c.in-Refused.text) due c.refused.ensures

pub returns-in-Refused-clause-steps : goal.returns-in-Refused-clause-steps
returns-in-Refused-clause-steps g c = λ w is t.
    let due = rw c.in-Refused.is at (c.in-Err.ensures.gives w is t) in
    let p = chars c.args.trial.now.pattern.now in
    refused_cost w c.args.base.now.number (session_of c.args.state.now) c.args.trial.now.line.now (Some p) p refl
    c.args.steps.now
    (string_bytes c.in-Refused.text) due

pub returns-in_err-try_job-in-Ok-clause-leaves : goal.returns-in_err-try_job-in-Ok-clause-leaves
returns-in_err-try_job-in-Ok-clause-leaves g c =
    let e = c.in-Ok.ensures in
    memory_leaves g.F.Source c.from_residual.result _ _ e.taken e.tree e.cause c.from_residual.ensures.1

pub returns-in_ok-try_job-in-Ok-clause-asked : goal.returns-in_ok-try_job-in-Ok-clause-asked
returns-in_ok-try_job-in-Ok-clause-asked g c = λ w is t. all_asked c.in-Ok.job _ _ _ (c.in-Ok.ensures.asked w is t)

pub returns-in_err-try_job-in-Ok-clause-asked : goal.returns-in_err-try_job-in-Ok-clause-asked
returns-in_err-try_job-in-Ok-clause-asked g c = λ w is t.
    memory_asks _ _ _ c.from_residual.result c.from_residual.ensures.1
    (all_asked c.in-Ok.job _ _ _ (c.in-Ok.ensures.asked w is t))

pub returns-in-NoMemory-clause-asked : goal.returns-in-NoMemory-clause-asked
returns-in-NoMemory-clause-asked g c = λ w is t.
    memory_front _ _ _ c.in-Err.unready c.in-NoMemory.is (c.in-Err.ensures.asked w is t)

pub returns-in-Refused-clause-asked : goal.returns-in-Refused-clause-asked
returns-in-Refused-clause-asked g c = λ w is t.
    refused_asks _ _ _ c.in-Err.unready _ c.in-Refused.is (c.in-Err.ensures.asked w is t)

pub returns-in-ReadFault-clause-asked : goal.returns-in-ReadFault-clause-asked
returns-in-ReadFault-clause-asked g c = λ w is t.
    unread_front _ _ _ c.in-Err.unready _ c.in-ReadFault.is (c.in-Err.ensures.asked w is t)
