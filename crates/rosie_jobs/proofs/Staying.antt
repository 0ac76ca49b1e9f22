-- No piece of a line ends the run.
use Rattle.std.proofs.Common.{ℕ, ◌≡◌, Bool, true, false, cond, List, length, refl, sym, subst}
use Rattle.std.specs.Prelude.{chars, codes, nat_lt, not}
use Rattle.rosie_jobs.specs.Lines.{
  Job,
  answered,
  budget_of,
  is_over,
  steps_made,
  match_makes,
  matches,
  outcome_piece,
  ran,
}
use Rattle.rosie_jobs.specs.Lines.{ran_piece}
use Rattle.rosie_jobs.specs.Lines.{unanswered}
use Rattle.rosie_jobs.specs.Jobs.{matcher_of}
use Rattle.rosie_jobs.specs.Makers.{makes_of}
use Rattle.rosie_jobs.specs.declared.match_job.MatchJob.{MatchJob}
use Rattle.rosie_words.specs.declared.settings.Settings.{Settings}
use Rattle.rosie_run.specs.Lines.{line_fault}
use Rattle.rosie_run.specs.Report.{Piece, is_stop}
use Rattle.rosie_run.specs.declared.mark.Mark.TheVariants.{Hit, Miss}
use Rattle.rpl_core.specs.Meaning.{Outcome}
use Rattle.rpl_core.specs.Outcome.{outcome}
use Rattle.rpl_core.specs.Program.{instructions}
use Rattle.rpl_core.specs.Run.{Answer}
use Rattle.rpl_encode.specs.Answer.{max_answer_bytes}
use Rattle.rpl_encode.specs.Print.{print}
use Rattle.rosie_jobs.proofs.Shown.{known_outcome, known_piece}

pub stays_by : (b : Bool) (p q : Piece) → is_stop p.mark ≡ false → is_stop q.mark ≡ false
    → is_stop (cond b p q).mark ≡ false
stays_by true p q h k = h
stays_by false p q h k = k

mark_stays : (b : Bool) → is_stop (cond b Hit Miss) ≡ false
mark_stays true = refl
mark_stays false = refl

pub ran_stays : (s : Settings) (file : List ℕ) (n : ℕ) (line : List ℕ) (o : Outcome) (a : Answer)
    → is_stop (ran_piece s file n line o a).mark ≡ false
ran_stays s file n line o a =
    let cost = steps_made (budget_of s (chars line)) a in
    let text = print s.style (chars line) o in
    stays_by (is_over a) (unanswered (line_fault file n (codes "budget spent")) cost)
    (outcome_piece s file n line o cost) refl
    (stays_by (not (nat_lt max_answer_bytes (length text))) (answered s line text (matches o) cost cost)
    (unanswered (line_fault file n (codes "answer too long")) cost) (mark_stays (matches o)) refl)

-- the piece that a match makes of a line never ends the run
pub match_stays : (s : Settings) (job : Job) (file : List ℕ) (n : ℕ) (line : List ℕ)
    → is_stop (match_makes s job file n line).mark ≡ false
unfolding match_makes
match_stays s job file n line = ran_stays s file n line (outcome job.rules job.goal (chars line)) (ran s job.code line)

-- a job makes of a line what some run does
pub of_job : (P : Piece → Type 0)
    → ((s : Settings) (file : List ℕ) (n : ℕ) (line : List ℕ) (o : Outcome) (ran : Answer)
    → P (ran_piece s file n line o ran))
    → (job : MatchJob) (file : List ℕ) (n : ℕ) (line : List ℕ) → P (makes_of (matcher_of job) file n line)
of_job P holds job file n line =
    let s = job.line.settings in
    let code = instructions job.program in
    subst P (sym (known_piece job.goal s code file n line))
    (holds s file n line (known_outcome job.goal s code line) (ran s code line))

-- the piece that a job makes of a line never ends the run
pub job_stays : (job : MatchJob) (file : List ℕ) (n : ℕ) (line : List ℕ)
    → is_stop (makes_of (matcher_of job) file n line).mark ≡ false
job_stays = of_job (λ p. is_stop p.mark ≡ false) ran_stays
