-- The pieces of a sample: none ends the run, and none is long.
use Rattle.std.proofs.Common.{ℕ, zero, suc, ◌≡◌, ◌+◌, ◌*◌, ◌^◌, ◌<◌, ◌≤◌, Bool, true, false, ◌||◌, not, cond}
use Rattle.std.proofs.Common.{List, [], ◌∷◌, length, length-append, refl, ◌∙◌, ap, arith}
use Rattle.std.specs.Prelude.{chars, codes, nat_lt}
use Rattle.std.specs.Str.{is_utf8}
use Rattle.rosie_run.specs.Lines.{Makes, line_fault, line_piece, pieces_from}
use Rattle.rosie_run.specs.Report.{Piece, outs, has, is_stop, fault_piece}
use Rattle.rpl_core.specs.Meaning.{Outcome}
use Rattle.rpl_core.specs.Run.{Answer}
use Rattle.rpl_encode.specs.Answer.{max_answer_bytes}
use Rattle.rpl_encode.specs.Print.{print}
use Rattle.rosie_jobs.specs.Jobs.{matcher_of}
use Rattle.rosie_jobs.specs.Lines.{
  answered,
  budget_of,
  is_over,
  steps_made,
  matches,
  outcome_piece,
  ran_piece,
  line_reading,
}
use Rattle.rosie_jobs.specs.Lines.{unanswered}
use Rattle.rosie_jobs.specs.Makers.{makes_of}
use Rattle.rosie_jobs.specs.declared.match_job.MatchJob.{MatchJob}
use Rattle.rosie_words.specs.declared.settings.Settings.{Settings}
use Rattle.rosie_jobs.proofs.Staying.{job_stays, of_job, stays_by}
use Rattle.rosie_jobs.specs.SampleCounts.{line_pieces}
use Rattle.rosie_jobs.specs.SampleLines.{next, sample}

-- no piece of a line has more than so many bytes
no_longer : (b : Bool) (p q : Piece) → length p.out ≤ max_answer_bytes → length q.out ≤ max_answer_bytes
    → length (cond b p q).out ≤ max_answer_bytes
no_longer true p q h k = h
no_longer false p q h k = k

fits_by : (b : Bool) (text : List ℕ) (p q : Piece) → p.out ≡ text → q.out ≡ []
    → nat_lt max_answer_bytes (length text) ≡ b → length (cond (not b) p q).out ≤ max_answer_bytes
fits_by true text p q h k e = let l = ap length k in omega arith
fits_by false text p q h k e = let l = ap length h in grind (arith, e, l)

piece_bytes : (s : Settings) (file : List ℕ) (n : ℕ) (line : List ℕ) (o : Outcome) (ran : Answer)
    → length (ran_piece s file n line o ran).out ≤ max_answer_bytes
piece_bytes s file n line o ran =
    let cost = steps_made (budget_of s (chars line)) ran in
    let text = print s.style (chars line) o in
    no_longer (is_over ran) (unanswered (line_fault file n (codes "budget spent")) cost)
    (outcome_piece s file n line o cost) (omega arith)
    (fits_by (nat_lt max_answer_bytes (length text)) text (answered s line text (matches o) cost cost)
    (unanswered (line_fault file n (codes "answer too long")) cost) refl refl refl)

pub job_bytes : (job : MatchJob) (file : List ℕ) (n : ℕ) (line : List ℕ)
    → length (makes_of (matcher_of job) file n line).out ≤ max_answer_bytes
job_bytes = of_job (λ p. length p.out ≤ max_answer_bytes) piece_bytes

-- the pieces of the lines of a sample
module _ (job : MatchJob) where
  abbrev makes : Makes
  makes = makes_of (matcher_of job)

  line_stays : (file : List ℕ) (n : ℕ) (line : List ℕ)
      → is_stop (line_piece makes (line_reading false) file n line).mark
      ≡ false
  unfolding line_piece
  line_stays file n line =
      stays_by (nat_lt 16777216 (length line)) (fault_piece (line_fault file n (codes "line too long")))
      (cond (is_utf8 line) (makes file n line) (fault_piece (line_fault file n (codes "not UTF-8")))) refl
      (stays_by (is_utf8 line) (makes file n line) (fault_piece (line_fault file n (codes "not UTF-8")))
      (job_stays job file n line) refl)

  line_bytes : (file : List ℕ) (n : ℕ) (line : List ℕ)
      → length (line_piece makes (line_reading false) file n line).out ≤ max_answer_bytes
  unfolding line_piece
  line_bytes file n line =
      no_longer (nat_lt 16777216 (length line)) (fault_piece (line_fault file n (codes "line too long")))
      (cond (is_utf8 line) (makes file n line) (fault_piece (line_fault file n (codes "not UTF-8")))) (omega arith)
      (no_longer (is_utf8 line) (makes file n line) (fault_piece (line_fault file n (codes "not UTF-8")))
      (job_bytes job file n line) (omega arith))

  lines_stay : (file : List ℕ) (n : ℕ) (ls : List (List ℕ))
      → has is_stop (pieces_from makes (line_reading false) file n ls)
      ≡ false
  unfolding pieces_from has
  lines_stay file n [] = refl
  lines_stay file n (line ∷ more) =
      ap (λ b. b || has is_stop (pieces_from makes (line_reading false) file (n + 1) more))
      (line_stays file (n + 1) line)
      ∙ lines_stay file (n + 1) more

  pub sample_stays : (seed lines : ℕ) → has is_stop (line_pieces makes seed lines) ≡ false
  sample_stays seed lines = lines_stay (codes "-") 0 (sample seed lines)

  lines_bytes : (file : List ℕ) (n : ℕ) (ls : List (List ℕ))
      → length (outs (pieces_from makes (line_reading false) file n ls)) ≤ max_answer_bytes * length ls
  unfolding pieces_from outs
  lines_bytes file n [] = omega arith
  lines_bytes file n (line ∷ more) =
      let h = line_bytes file (n + 1) line in
      let k = lines_bytes file (n + 1) more in
      omega (
        arith,
        length-append (line_piece makes (line_reading false) file (n + 1) line).out
            (outs (pieces_from makes (line_reading false) file (n + 1) more)),
      )

  sample_length : (x n : ℕ) → length (sample x n) ≡ n
  unfolding sample
  sample_length x zero = refl
  sample_length x (suc n) = let h = sample_length (next x) n in omega arith

  pub sample_bytes : (seed lines : ℕ) → lines < 2 ^ 32 → length (outs (line_pieces makes seed lines)) < 2 ^ 60
  sample_bytes seed lines few = let h = lines_bytes (codes "-") 0 (sample seed lines) in
      let l = sample_length seed lines in omega arith
