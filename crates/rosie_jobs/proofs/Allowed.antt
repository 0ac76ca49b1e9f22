-- When a budget is due, and that an allowed line has an answer.
use Rattle.std.proofs.Common.{ℕ, ◌≡◌, ◌+◌, ◌*◌, ◌<◌, ◌≤◌, Bool, true, false, not, cond, List, []}
use Rattle.std.proofs.Common.{length, refl, ◌∙◌, ap, arith}
use Rattle.std.specs.Prelude.{chars, codes, nat_lt}
use Rattle.std.specs.Str.{is_utf8}
use Rattle.std.proofs.Math.Logic.{∥∥₁_elim}
use Rattle.std.proofs.Props.{props}
use Rattle.std.proofs.lemmas.Bool.{false≢true}
use Rattle.std.proofs.lemmas.Str.{IsUtf8-from_is_utf8}
use Rattle.rosie_run.specs.Lines.{line_fault}
use Rattle.rosie_run.specs.Report.{Piece, is_stop, is_fault, stop_piece}
use Rattle.rosie_run.specs.declared.mark.Mark.{Mark}
use Rattle.rosie_run.specs.declared.mark.Mark.TheVariants.{Hit, Miss}
use Rattle.rpl_core.specs.Instr.{Instr}
use Rattle.rpl_core.specs.Meaning.{Outcome}
use Rattle.rpl_core.specs.Outcome.{outcome, work_of}
use Rattle.rpl_core.specs.Run.{Answer, Matched, Failed, Unfinished, run}
use Rattle.rpl_encode.specs.Answer.{max_answer_bytes}
use Rattle.rpl_encode.specs.Print.{print}
use Rattle.rpl_compile_laws.specs.Laws.{Tells}
use Rattle.rosie_words.specs.declared.settings.Settings.{Settings}
use Rattle.rosie_jobs.specs.Lines.{Job, budget_of, is_over, steps_made, matches}
use Rattle.rosie_jobs.specs.Lines.{unanswered, answered, code_makes, code_outcome, match_makes, outcome_piece}
use Rattle.rosie_jobs.specs.Lines.{ran_piece}
use Rattle.rosie_jobs.specs.Limits.{IsCodeWithin, IsWithin, IsTraceable, IsAllowed}
use Rattle.rosie_jobs.specs.Budgets.{PaysFor, Pays}
use Rattle.rosie_jobs.specs.Makers.{Maker, Matches, Traces, RunsCode, makes_of, trace_makes, trace_text}
use Rattle.rosie_jobs.specs.Meant.{IsMeant}
use Rattle.rosie_jobs.proofs.OneLine.{are_scalars}

-- a budget is due
pub over_tells : (o : Outcome) (b : ℕ) (a : Answer) → is_over a ≡ true → Tells o b a → b < 4 * work_of o + 2
over_tells o b (Matched n i cs) e h = absurd (false≢true e)
over_tells o b (Failed n) e h = absurd (false≢true e)
over_tells o b Unfinished e h = h

pays_prop : (s : Settings) (job : Job) → IsProp (PaysFor s job)
pays_prop s job = Prim.hlevel props

-- a job whose code does what its goal means
pub job_due : (s : Settings) (job : Job) → ∥ IsMeant job ∥₁ → PaysFor s job
job_due s job meant = ∥∥₁_elim meant (pays_prop s job) (λ m. λ line u over.
    over_tells (outcome job.rules job.goal (chars line)) (budget_of s (chars line))
    (run job.code (chars line) (budget_of s (chars line))) over
    (m (chars line) (are_scalars line (IsUtf8-from_is_utf8 line u)) (budget_of s (chars line))))

-- neither a piece that ends the run, nor one without an answer
abbrev pub IsGood : Piece → Type 0
IsGood p = (is_stop p.mark ≡ false) × (is_fault p.mark ≡ false)

not_true : (b : Bool) → (b ≡ true → ⊥) → b ≡ false
not_true true h = absurd (h refl)
not_true false h = refl

-- the piece of a run within its budget, whose answer isn't too long
module _ (s : Settings) (file : List ℕ) (n : ℕ) (line : List ℕ) (o : Outcome) (ran : Answer) where
  abbrev cost : ℕ
  cost = steps_made (budget_of s (chars line)) ran

  abbrev text : List ℕ
  text = print s.style (chars line) o

  abbrev said_so : Piece
  said_so = answered s line text (matches o) cost cost

  ran_said : is_over ran ≡ false → length text ≤ max_answer_bytes → ran_piece s file n line o ran ≡ said_so
  ran_said within h =
      let fits : nat_lt max_answer_bytes (length text) ≡ false = grind (arith, h) in
      ap (λ b. cond b (unanswered (line_fault file n (codes "budget spent")) cost) (outcome_piece s file n line o cost))
      within
      ∙ ap (λ b. cond (not b) said_so (unanswered (line_fault file n (codes "answer too long")) cost)) fits

  ran_mark : is_over ran ≡ false → length text ≤ max_answer_bytes
      → (ran_piece s file n line o ran).mark ≡ cond (matches o) Hit Miss
  ran_mark within h = ap (λ (p : Piece). p.mark) (ran_said within h)

-- how a line within the limits of a match counts
pub match_mark : (s : Settings) (job : Job) → PaysFor s job → (file : List ℕ) (n : ℕ) (line : List ℕ)
    → IsWithin s job line
    → (match_makes s job file n line).mark ≡ cond (matches (outcome job.rules job.goal (chars line))) Hit Miss
unfolding match_makes
match_mark s job due file n line a =
    let ran = run job.code (chars line) (budget_of s (chars line)) in
    let within : is_over ran ≡ false = not_true (is_over ran) (λ over.
    let d = due line a.text over in let b = a.budget in absurd (omega arith)) in
    ran_mark s file n line (outcome job.rules job.goal (chars line)) ran within a.answer

-- one within those of a code that has no goal
code_mark : (s : Settings) (code : List Instr) (file : List ℕ) (n : ℕ) (line : List ℕ) → IsCodeWithin s code line
    → (code_makes s code file n line).mark ≡ cond (matches (code_outcome s code line)) Hit Miss
unfolding code_makes
code_mark s code file n line a =
    ran_mark s file n line (code_outcome s code line) (run code (chars line) (budget_of s (chars line))) a.budget
    a.answer

-- and of one within the limits of a trace
pub trace_mark : (limit : ℕ) (names : List (List ℕ)) (job : Job) (file : List ℕ) (n : ℕ) (line : List ℕ)
    → IsTraceable limit job line
    → (trace_makes limit names job file n line).mark ≡ cond (matches (outcome job.rules job.goal (chars line))) Hit Miss
unfolding trace_makes
trace_mark limit names job file n line a =
    let o = outcome job.rules job.goal (chars line) in
    let w = a.work in
    let within : nat_lt limit (work_of o) ≡ false = grind (arith, w) in
    let told : Piece = record {
      out = trace_text names job n (chars line);
      err = [];
      mark = cond (matches o) Hit Miss;
      cost = 0;
    } in
    ap (λ b. (cond b (stop_piece (line_fault file n (codes "trace too long"))) told).mark) within

good_mark : (m : Mark) (b : Bool) → m ≡ cond b Hit Miss → (is_stop m ≡ false) × (is_fault m ≡ false)
good_mark m true e = (ap is_stop e, ap is_fault e)
good_mark m false e = (ap is_stop e, ap is_fault e)

-- of each maker: a line that is allowed is text, short enough, and has an answer
pub good_made : (m : Maker) → Pays m → (file : List ℕ) (n : ℕ) (line : List ℕ) → IsAllowed m line
    → IsGood (makes_of m file n line)
good_made (Matches s job) due file n line a =
    good_mark _ (matches (outcome job.rules job.goal (chars line))) (match_mark s job due file n line a)
good_made (Traces limit names job) due file n line a =
    good_mark _ (matches (outcome job.rules job.goal (chars line))) (trace_mark limit names job file n line a)
good_made (RunsCode s code) due file n line a =
    good_mark _ (matches (code_outcome s code line)) (code_mark s code file n line a)

-- a line that is allowed has at most 16,777,216 bytes
pub short_line : (m : Maker) (line : List ℕ) → IsAllowed m line → length line ≤ 16777216
short_line (Matches s job) line a = a.short
short_line (Traces limit names job) line a = a.short
short_line (RunsCode s code) line a = a.short

-- a line that is allowed is UTF-8
pub text_line : (m : Maker) (line : List ℕ) → IsAllowed m line → is_utf8 line ≡ true
text_line (Matches s job) line a = a.text
text_line (Traces limit names job) line a = a.text
text_line (RunsCode s code) line a = a.text
