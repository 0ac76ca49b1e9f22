use Rattle.std.proofs.Common.{List, ℕ, ◌∙◌, ap, sym, ◌≡◌, true, false, cond, length, subst, arith}
use Rattle.std.specs.Prelude.{Err, Ok, nat_lt}
use Rattle.rosie_jobs.specs.Jobs.{job_of, IsJobOf}
use Rattle.rosie_jobs.specs.Lines.{Job}
use Rattle.rosie_prepare.specs.Prepared.{OrLine, Ready, bodies}
use Rattle.rosie_prepare.specs.Views.{ready_seen}
use Rattle.rosie_prepare.proofs.Passing.{bodies_rows_of}
use Rattle.rpl_core.specs.Table.{bodies_of}
use Rattle.rosie_session.proofs.loading.make_job.Goals as goal
use Rattle.rosie_prepare.specs.Lines.{compile_line}
use Rattle.rpl_codegen.specs.Compiled.{HasLongCode}
use Rattle.rpl_core.proofs.Codes.{code_holds}
use Rattle.rpl_core.specs.Core.{Core}
use Rattle.rpl_core.specs.Instr.{Instr}
use Rattle.rpl_core.specs.Programs.{IsCode}
use Rattle.rosie_session.specs.Loading.{Compiles, job_unless_long}

job_with : List Core → Core → List Instr → Job
job_with R g code = record { rules = R; goal = g; code = code }

-- what is ready has the rules R, as cores
module _ (r : Ready) (R : List Core) (same : bodies r.rules ≡ R) (answer : OrLine Job) (is :
    Compiles (Ok r) answer) where
  coded : (code : List Instr) → IsCode R r.goal code → answer ≡ job_unless_long (job_with R r.goal code)
  unfolding job_with
  coded code h =
      is.2 ∙ ap (λ c. job_unless_long (job_with (bodies r.rules) r.goal c))
      (code_holds R r.goal is.0 code (subst (λ x. IsCode x r.goal is.0) same is.1) h)
      ∙ ap (λ x. job_unless_long (job_with x r.goal code)) same

  -- a goal whose code is within its limit
  job_gives : (job : Job) → IsJobOf R r.goal job → answer ≡ Ok job
  unfolding job_with
  job_gives job h =
      let fits = h.fits in
      let test : nat_lt 1048576 (length job.code) ≡ false = grind (arith, fits) in
      coded job.code h.code ∙ ap (λ x. job_unless_long (job_with x r.goal job.code)) (sym h.rules)
      ∙ ap (λ x. job_unless_long (job_with job.rules x job.code)) (sym h.goal)
      ∙ ap (λ b. cond b (Err compile_line) (Ok job)) test

  -- and one whose code isn't
  long_gives : HasLongCode R r.goal → answer ≡ Err compile_line
  unfolding job_with
  long_gives long =
      let more = long.2 in
      let test : nat_lt 1048576 (length long.0) ≡ true = grind (arith, more) in
      coded long.0 long.1 ∙ ap (λ b. cond b (Err compile_line) (Ok (job_with R r.goal long.0))) test

pub returns-in_ok-made-in-Ok-clause-gives : goal.returns-in_ok-made-in-Ok-clause-gives
returns-in_ok-made-in-Ok-clause-gives c = λ answer is.
    let ready = c.args.ready in
    let job = job_of c.in-Ok.job in (
      job,
      job_gives (ready_seen ready) (bodies_of ready.rules) (bodies_rows_of ready.rules) answer is job
          c.in-Ok.ensures.job,
      c.in_ok-made-in-Ok.ensures.maker,
    )

pub returns-in_ok-line-in-CodeTooLong-clause-gives : goal.returns-in_ok-line-in-CodeTooLong-clause-gives
returns-in_ok-line-in-CodeTooLong-clause-gives c = λ answer is.
    let ready = c.args.ready in
    let line : List ℕ → OrLine Job = λ text. Err text in
    long_gives (ready_seen ready) (bodies_of ready.rules) (bodies_rows_of ready.rules) answer is
    (c.in-Err.ensures.too_long c.in-CodeTooLong.is) ∙ ap line (sym c.in_ok-line-in-CodeTooLong.ensures)
