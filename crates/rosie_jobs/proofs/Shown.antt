-- What a run shows.
use Rattle.std.proofs.Common.{◌≡◌, ◌+◌, ℕ, List, sym, ap, subst, ◌∙◌, refl}
use Rattle.std.specs.Prelude.{Option, Some, None, Result, Ok, Err, IfOk, OnOk, chars}
use Rattle.std.specs.Str.{IsUtf8}
use Rattle.std.proofs.Math.Logic.{∥∥₁_elim}
use Rattle.std.proofs.Props.{props}
use Rattle.rosie_run.specs.Made.{IsMade}
use Rattle.rosie_run.specs.Report.{Piece}
use Rattle.rosie_run.specs.declared.mark.Mark.{Mark}
use Rattle.rpl_core.specs.Forest.{Caught, NoTree, Tree, flat}
use Rattle.rpl_core.specs.Instr.{Instr}
use Rattle.rpl_core.specs.Meaning.{Outcome}
use Rattle.rpl_core.specs.Outcome.{outcome}
use Rattle.rpl_core.specs.Run.{Answer, Matched, Failed, Unfinished, run}
use Rattle.rpl_encode.specs.Print.{found}
use Rattle.rpl_safe.specs.Safe.{IsSafe}
use Rattle.rpl_safe.proofs.Kept.{safe_match_holds}
use Rattle.rpl_compile_laws.specs.Laws.{Tells}
use Rattle.rosie_jobs.specs.Written.{WritesTrees, written}
use Rattle.rosie_jobs.proofs.Written.{written_holds}
use Rattle.rosie_jobs.specs.Jobs.{matcher}
use Rattle.rosie_jobs.specs.Lines.{Job, budget_of, code_makes, code_outcome, match_makes, matches, ran, ran_outcome}
use Rattle.rosie_jobs.specs.Lines.{ran_piece}
use Rattle.rosie_jobs.specs.Makers.{makes_of}
use Rattle.rosie_jobs.specs.Meant.{IsKnown, IsMeant, job_with}
use Rattle.rosie_jobs.specs.declared.job.CheckedGoal.{CheckedGoal}
use Rattle.rosie_words.specs.declared.settings.Settings.{Settings}
use Rattle.rosie_jobs.specs.inside.Printed.{IsShown}
use Rattle.rosie_jobs.proofs.OneLine.{are_scalars}

-- what the answer tells of the outcome
shown_told : (o : Outcome) (b : ℕ) (a : Answer) → Tells o b a → IsShown a o
shown_told o b (Matched n i cs) h = (h.1, ap found h.2, h.3, ap matches h.2)
shown_told o b (Failed n) h = (ap found h.1, ap matches h.1)
shown_told o b Unfinished h = tt

pub shown_meant : (s : Settings) (job : Job) (line : List ℕ) → IsUtf8 line → IsMeant job
    → IsShown (run job.code (chars line) (budget_of s (chars line))) (outcome job.rules job.goal (chars line))
shown_meant s job line u meant =
    let b = budget_of s (chars line) in
    shown_told (outcome job.rules job.goal (chars line)) b (run job.code (chars line) b)
    (meant (chars line) (are_scalars line u) b)

pub safe_writes : (code : List Instr) → IsSafe code → WritesTrees code
safe_writes code safe t b n i cs e =
    let tree = safe_match_holds code safe t b n i cs e in
    let is = tree.4 in
    let f = Tree tree.0 tree.1 tree.2 tree.3 NoTree in
    is ∙ sym (ap flat (ap written is ∙ written_holds f))

shown_ran : (a : Answer) → ((n i : ℕ) (cs : List Caught) → a ≡ Matched n i cs → cs ≡ flat (written cs))
    → IsShown a (ran_outcome a)
shown_ran (Matched n i cs) h = (written cs, refl, h n i cs refl, refl)
shown_ran (Failed n) h = (refl, refl)
shown_ran Unfinished h = tt

pub shown_code : (code : List Instr) (t : List ℕ) (b : ℕ) → WritesTrees code
    → IsShown (run code t b) (ran_outcome (run code t b))
shown_code code t b h = shown_ran (run code t b) (λ n i cs e. h t b n i cs e)

-- the outcome of a line that the code's run shows: what its goal means, or what it captures where it has none
abbrev pub known_outcome : Option CheckedGoal → Settings → List Instr → List ℕ → Outcome
known_outcome (Some goal) s code line = let job = job_with goal code in outcome job.rules job.goal (chars line)
known_outcome None s code line = code_outcome s code line

pub shown_known : (goal : Option CheckedGoal) (s : Settings) (code : List Instr) (line : List ℕ) → IsUtf8 line
    → IsKnown goal code → IsShown (ran s code line) (known_outcome goal s code line)
shown_known (Some goal) s code line u meant = shown_meant s (job_with goal code) line u meant
shown_known None s code line u writes = shown_code code (chars line) (budget_of s (chars line)) writes

pub known_piece : (goal : Option CheckedGoal) (s : Settings) (code : List Instr) (file : List ℕ) (n : ℕ) (line : List ℕ)
    → makes_of (matcher goal s code) file n line ≡ ran_piece s file n line (known_outcome goal s code line)
    (ran s code line)
unfolding match_makes code_makes
known_piece (Some goal) s code file n line = refl
known_piece None s code file n line = refl

-- a piece that is made, where it is merely known how
made_prop : (mark : Mark) (out err : List ℕ) (p : Piece) → IsProp (IsMade mark out err p)
made_prop mark out err p = Prim.hlevel props

ok_prop : {E : Type 0} (r : Result Mark E) (out err : List ℕ) (p : Piece)
    → IsProp (IfOk r (λ mark. IsMade mark out err p))
ok_prop (Ok mark) out err p = made_prop mark out err p
ok_prop (Err e) out err p = Prim.hlevel props

pub made_merely : {E : Type 0} {P : Type 0} (r : Result Mark E) (out err : List ℕ) (p : Piece) → ∥ P ∥₁
    → (P → IfOk r (λ mark. IsMade mark out err p)) → IfOk r (λ mark. IsMade mark out err p)
made_merely r out err p h f = ∥∥₁_elim h (ok_prop r out err p) f

-- the steps are those of the piece
pub steps_cost : {A E : Type 0} (r : Result A E) (s0 s1 k c : ℕ) → k ≡ c → OnOk r (s1 ≡ s0 + c) → OnOk r (s1 ≡ s0 + k)
steps_cost r s0 s1 k c e h = subst (λ x. OnOk r (s1 ≡ s0 + x)) (sym e) h
