-- From the steps of planning to a plan.
use Rattle.std.proofs.Common.{◌≡◌, inl, inr, ℕ, List, [], ◌∷◌, ◌++◌, refl, sym, ◌∙◌, ap, subst, arith}
use Rattle.std.proofs.lemmas.List.{append-nil}
use Rattle.std.specs.List.{Contains}
use Rattle.std.specs.Prelude.{Result, Ok, Err, IfErr, IsErrAnd, encode_utf8_all, string_bytes}
use Rattle.rosie_prepare.specs.Lines.{compile_line}
use Rattle.rosie_io.specs.Loading.{NotFewer}
use Rattle.rosie_io.specs.declared.outside.Source.{Ghosts}
use Rattle.rosie_prepare.proofs.Loads.{passes_asked}
use Rattle.rosie_prepare.specs.Answers.{IsDue}
use Rattle.rosie_run.proofs.Openings.{was_asked}
use Rattle.rosie_run.specs.Unready.{Counts, HasAsked}
use Rattle.rosie_prepare.specs.Prepared.{OrLine}
use Rattle.rosie_run.specs.declared.unready.Unready.{Unready}
use Rattle.rosie_run.specs.declared.unready.Unready.TheVariants.{NoMemory, Refused, ReadFault}
use Rattle.rosie_prepare.specs.Steps.{IsOwn, Tells}
use Rattle.rosie_run.specs.Sources.{Moment, Still, moment_of}
use Rattle.rpl_codegen.specs.declared.whole.CompileFault.{CompileFault}
use Rattle.rpl_codegen.specs.declared.whole.CompileFault.TheVariants as C
use Rattle.rpl_package.specs.Asking.{IsTold}
use Rattle.rosie_cli.specs.Plans as P
use Rattle.rosie_cli.specs.Plans.{Planned, refusal}
use Rattle.rosie_cli.specs.declared.plan.Plan.{Plan}
use Rattle.rosie_cli.specs.inside.Planning.{due_of, plan_of, IsMade, IsSaid, IsText, Leaves, Plans, PlansIdle}
use Rattle.rosie_cli.specs.inside.Planning.{PlansOver, PlansSaid, PlansText}

-- ---- what is planned

-- where the steps before it asked for all paths, the last step asks for none
pub made_plans : {X : Type 0} (before now : List (List ℕ)) (x : X) (r : Result Plan Unready) (p : Planned)
    → IfErr r IsOwn → HasAsked before now (Ok x) p.asked → IsMade r p.plan → Plans before now r p
made_plans before now x r p own asked h = (h, passes_asked before now p.asked x r own asked)

-- a plan on the way to which nothing is asked for
pub known_plans : (asked : List (List ℕ)) (r : Result Plan Unready) (p q : Planned) → p ≡ q → q.asked ≡ []
    → IfErr r IsOwn → IsMade r q.plan → Plans asked asked r p
known_plans asked r p q e none own h =
    subst (Plans asked asked r) (sym e)
    (made_plans {X = Unit {0}} asked asked tt r q own ([], sym (append-nil asked), sym none) h)

-- memory ran out after all paths were asked for, or before any was
own_memory : (r : Result Plan Unready) → IsErrAnd r (λ e. e ≡ NoMemory) → IfErr r IsOwn
own_memory (Ok plan) h = absurd h
own_memory (Err u) h = subst IsOwn (sym h) tt

made_memory : (r : Result Plan Unready) (plan : P.Plan) → IsErrAnd r (λ e. e ≡ NoMemory) → IsMade r plan
made_memory (Ok made) plan h = absurd h
made_memory (Err u) plan h = subst (λ v. IsMade (Err v) plan) (sym h) tt

pub memory_after : {X : Type 0} (before now : List (List ℕ)) (x : X) (r : Result Plan Unready) (p : Planned)
    → IsErrAnd r (λ e. e ≡ NoMemory) → HasAsked before now (Ok x) p.asked → Plans before now r p
memory_after before now x r p h asked =
    made_plans before now x r p (own_memory r h) asked (made_memory r p.plan h)

pub memory_first : (asked : List (List ℕ)) (r : Result Plan Unready) (p : Planned) → IsErrAnd r (λ e. e ≡ NoMemory)
    → Plans asked asked r p
memory_first asked (Ok plan) p h = absurd h
memory_first asked (Err u) p h =
    subst (λ v. Plans asked asked (Err v) p) (sym h) (tt, ([], sym (append-nil asked), (p.asked, refl)))

-- a pattern that has no program is refused where its code is too long
pub told_made : (fault : CompileFault) (u : Unready) (p : P.Plan) → Tells (due_of fault) u
    → (fault ≡ C.CodeTooLong → p ≡ refusal compile_line) → IsMade (Err u) p
told_made fault NoMemory p h long = tt
told_made C.CodeTooLong (Refused line) p h long =
    let same : compile_line ≡ string_bytes line = cc in long refl ∙ ap refusal same
told_made C.NoMemory (Refused line) p h long = absurd (cc)
told_made fault (ReadFault path) p h long = absurd h

-- what isn't ready is refused with the line that is due
pub due_plans : {A : Type 0} (before now : List (List ℕ)) (u : Unready) (p : Planned) (Meant : OrLine A → P.Plan →
    Type 0) (ready : OrLine A) → ((line : List ℕ) (plan : P.Plan) → Meant (Err line) plan → plan ≡ refusal line)
    → IsDue u ready → HasAsked {X = Plan} before now (Err u) p.asked → Meant ready p.plan → Plans before now (Err u) p
due_plans before now NoMemory p Meant ready told due asked is = (tt, asked)
due_plans before now (Refused line) p Meant ready told due asked is =
    (told (string_bytes line) p.plan (subst (λ r. Meant r p.plan) due is), asked)
due_plans before now (ReadFault path) p Meant ready told due asked is = (tt, asked)

-- and goes out as it is
pub plans_through : (before now : List (List ℕ)) (r : Result Plan Unready) (u : Unready) (p : Planned)
    → IsErrAnd r (λ e. e ≡ u) → Plans before now (Err u) p → Plans before now r p
plans_through before now (Ok plan) u p h k = absurd h
plans_through before now (Err e) u p h k = subst (λ v. Plans before now (Err v) p) (sym h) k

-- which paths a planning asked for
pub asks_planned : (before now : List (List ℕ)) (r : Result Plan Unready) (p : Planned) → Plans before now r p
    → HasAsked before now r p.asked
asks_planned before now r p (made, asked) = asked

-- a plan, or a refusal, comes when all were asked for
pub asks_all : (before now all : List (List ℕ)) → (ps : List (List ℕ)) × (now ≡ before ++ ps) × (ps ≡ all)
    → now ≡ before ++ all
asks_all before now all (ps, is, same) = is ∙ ap (λ xs. before ++ xs) same

-- a path whose read failed was one of them
pub failed_asked : (before now : List (List ℕ)) (path : List ℕ) (p : Planned)
    → HasAsked {X = Plan} before now (Err (ReadFault path)) p.asked → Contains p.asked (encode_utf8_all path)
failed_asked before now path p (ps, is, till) = was_asked path p.asked ps till

-- where a path is asked for, the files tell
pub asks_some : (T : Type 0) (asked : List (List ℕ)) (path : List ℕ) (more : List (List ℕ)) → asked ≡ path ∷ more
    → IsTold T asked → T
asks_some T asked path more is (inl tells) = tells
asks_some T asked path more is (inr none) = absurd (cc)

-- ---- what planning leaves

same_cause : (u : Unready) (f0 f1 : Moment) → IsOwn u → Still f0 f1 → Counts u f0 f1
same_cause NoMemory f0 f1 own still =
    let faults = still.faults in
    let opens = still.opens in
    record { faults = omega (arith, faults); opens = omega (arith, opens) }
same_cause (Refused line) f0 f1 own still = still
same_cause (ReadFault path) f0 f1 own still = absurd own

-- where the step that comes last reads no file
pub leaves_own : {F : Type 0} (S : Ghosts F) (r : Result Plan Unready) (old new : F)
    → NotFewer (S.taken old) (S.taken new)
    → S.tree new ≡ S.tree old → Still (moment_of S old) (moment_of S new)
    → IfErr r IsOwn → Leaves S r old new
leaves_own S (Ok plan) old new taken tree still own = record { cause = still; taken = taken; tree = tree }
leaves_own S (Err u) old new taken tree still own =
    record { cause = same_cause u (moment_of S old) (moment_of S new) own still; taken = taken; tree = tree }

-- and where reading went wrong
pub leaves_through : {F : Type 0} (S : Ghosts F) (r : Result Plan Unready) (old new : F)
    → NotFewer (S.taken old) (S.taken new) → S.tree new ≡ S.tree old → (u : Unready) → IsErrAnd r (λ e. e ≡ u)
    → Counts u (moment_of S old) (moment_of S new) → Leaves S r old new
leaves_through S (Ok plan) old new taken tree u h cause = absurd h
leaves_through S (Err e) old new taken tree u h cause =
    record {
      cause = subst (λ v. Counts v (moment_of S old) (moment_of S new)) (sym h) cause;
      taken = taken;
      tree = tree;
    }

-- a text or bytes run nothing, and read no input and no file
over_text : (p : P.Plan) → IsText p → P.inputs_of p ≡ []
over_text (P.Says ps) h = refl
over_text (P.Writes bytes) h = refl
over_text _ h = absurd h

idle_text : (p : P.Plan) → IsText p → P.IsIdlePlan p
idle_text (P.Says ps) h = tt
idle_text (P.Writes bytes) h = tt
idle_text _ h = absurd h

pub texts_over : (r : Result Plan Unready) → PlansText r → PlansOver r []
texts_over (Ok plan) h = over_text (plan_of plan) h
texts_over (Err u) h = tt

said_text : (p : P.Plan) → IsText p → IsSaid p
said_text (P.Says ps) h = tt
said_text (P.Writes bytes) h = tt
said_text _ h = absurd h

pub texts_said : (r : Result Plan Unready) → PlansText r → PlansSaid r
texts_said (Ok plan) h = said_text (plan_of plan) h
texts_said (Err u) h = tt

pub texts_idle : (r : Result Plan Unready) → PlansText r → PlansIdle r
texts_idle (Ok plan) h = idle_text (plan_of plan) h
texts_idle (Err u) h = tt
