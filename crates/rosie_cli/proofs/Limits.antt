-- From a goal that is prepared to its plan.
use Rattle.std.proofs.Common.{ℕ, ◌≡◌, Bool, true, false, cond, List, [], ◌∷◌, length, refl, sym, ◌∙◌, ap, subst, arith}
use Rattle.std.specs.Prelude.{Ok, nat_lt}
use Rattle.rosie_prepare.specs.Lines.{compile_line}
use Rattle.rosie_jobs.specs.Jobs.{IsJobOf}
use Rattle.rosie_jobs.specs.Lines.{Job}
use Rattle.rosie_jobs.specs.Makers.{Maker}
use Rattle.rosie_prepare.specs.Prepared.{Ready, bodies}
use Rattle.rpl_core.specs.Core.{Core}
use Rattle.rpl_core.specs.Instr.{Instr}
use Rattle.rpl_core.specs.Programs.{IsCode}
use Rattle.rpl_core.specs.Table.{names_of}
use Rattle.rpl_core.specs.declared.rules.Rule.{Rule}
use Rattle.rpl_core.proofs.Codes.{code_holds}
use Rattle.rpl_codegen.specs.Compiled.{HasLongCode}
use Rattle.rpl_forms.specs.Rows.{Row, rows_of}
use Rattle.rosie_cli.specs.Planned.{plan_unless_long, IsRun}
use Rattle.rpl_forms.specs.Table.{full_names}
use Rattle.rosie_cli.specs.Plans.{Plan, RunsOnInputs, refusal}

-- what is ready has the rules R, as cores, and runs by the plan p
module _ (run : List Row → Job → Plan) (r : Ready) (R : List Core) (same : bodies r.rules ≡ R) (p : Plan)
    (is : IsRun run (Ok r) p) where
  abbrev plan_with : List Core → Core → List Instr → Plan
  plan_with S g code = plan_unless_long (run r.rules (record { rules = S; goal = g; code = code })) code

  coded : (code : List Instr) → IsCode R r.goal code → p ≡ plan_with R r.goal code
  coded code h =
      is.2
      ∙ ap (plan_with (bodies r.rules) r.goal)
      (code_holds R r.goal is.0 code (subst (λ x. IsCode x r.goal is.0) same is.1) h)
      ∙ ap (λ x. plan_with x r.goal code) same

  -- a goal whose code is within its limit
  pub job_plans : (job : Job) → IsJobOf R r.goal job → p ≡ run r.rules job
  job_plans job h =
      let fits = h.fits in
      let test : nat_lt 1048576 (length job.code) ≡ false = grind (arith, fits) in
      coded job.code h.code ∙ ap (λ x. plan_with x r.goal job.code) (sym h.rules)
      ∙ ap (λ x. plan_with job.rules x job.code) (sym h.goal)
      ∙ ap (λ b. cond b (refusal compile_line) (run r.rules job)) test

  -- and one whose code isn't
  pub long_plans : HasLongCode R r.goal → p ≡ refusal compile_line
  long_plans long =
      let more = long.2 in
      let test : nat_lt 1048576 (length long.0) ≡ true = grind (arith, more) in
      coded long.0 long.1
      ∙ ap (λ b. cond b (refusal compile_line) (run r.rules (record { rules = R; goal = r.goal; code = long.0 }))) test

-- the same job for the same lines
pub reads_same : (m m' : Maker) (whole : Bool) (names names' : List (List ℕ)) → m' ≡ m → names' ≡ names
    → RunsOnInputs m whole names ≡ RunsOnInputs m' whole names'
reads_same m m' whole names names' e n =
    ap (λ x. RunsOnInputs x whole names) (sym e) ∙ ap (λ x. RunsOnInputs m' whole x) (sym n)

pub names_rows_of : (rs : List Rule) → full_names (rows_of rs) ≡ names_of rs
names_rows_of [] = refl
names_rows_of (r ∷ rs) = ap (λ xs. r.name ∷ xs) (names_rows_of rs)
