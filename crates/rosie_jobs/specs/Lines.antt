-- The piece for a line: from a run of a goal's code, and from a run of a code alone.
use Rattle.std.specs.Prelude.{ℕ, ◌+◌, ◌*◌, Bool, true, false, not, ◌&&◌, nat_lt, if◌then◌else◌, List, [], ◌++◌, length}
use Rattle.std.specs.Prelude.{Option, Some, None, codes, chars}
use Rattle.std.specs.Fmt.{decimal}
use Rattle.rosie_run.specs.Lines.{Makes, line_fault}
use Rattle.rosie_run.specs.Report.{Piece}
use Rattle.rosie_run.specs.declared.lines.Reading.{Reading}
use Rattle.rosie_run.specs.declared.mark.Mark.TheVariants.{Hit, Miss, Fault}
use Rattle.rosie_run.specs.declared.tool.Tool.TheVariants.{Rosie}
use Rattle.rpl_encode.specs.Answer.{max_answer_bytes}
use Rattle.rpl_encode.specs.Print.{print}
use Rattle.rpl_core.specs.Core.{Core}
use Rattle.rpl_core.specs.Instr.{Instr}
use Rattle.rpl_core.specs.Meaning.{Outcome, Open, Fail, At, HaltAt}
use Rattle.rpl_core.specs.Outcome.{outcome}
use Rattle.rpl_core.specs.Run.{Answer, Matched, Failed, Unfinished, run}
use Rattle.rosie_jobs.specs.Written.{written}
use Rattle.rosie_words.specs.declared.settings.Settings.{Settings}

-- a goal over a table of rules, and its code
pub record Job : Type 0 where
  pub rules : List Core
  pub goal : Core
  pub code : List Instr

-- the most bytes that a line may have
abbrev pub max_line_bytes : ℕ
max_line_bytes = 16777216

-- how lines are read
abbrev pub line_reading : Bool → Reading
line_reading whole = record { tool = Rosie; whole = whole; most = max_line_bytes }

-- the steps that a line may take: those that are given, or a million, and a thousand for each of its characters
abbrev pub budget_or : Option ℕ → List ℕ → ℕ
budget_or (Some b) t = b
budget_or None t = 1000000 + 1000 * length t

abbrev pub budget_of : Settings → List ℕ → ℕ
budget_of s t = budget_or s.budget t

-- the run of a code on a line of text
abbrev pub ran : Settings → List Instr → List ℕ → Answer
ran s code line = run code (chars line) (budget_of s (chars line))

-- the run needs more steps than it may take
abbrev pub is_over : Answer → Bool
is_over Unfinished = true
is_over _ = false

-- the steps that are made of b
abbrev pub steps_made : ℕ → Answer → ℕ
steps_made b Unfinished = b
steps_made b (Matched n i cs) = n
steps_made b (Failed n) = n

abbrev pub matches : Outcome → Bool
matches (At w j f) = true
matches (HaltAt w j f) = true
matches _ = false

-- what is reported of a line beside its answer: the line where it doesn't match, and its steps
abbrev pub told : Settings → List ℕ → Bool → ℕ → List ℕ
told s line hit steps =
    (if s.all && not hit then line ++ codes "\n" else [])
    ++ (if s.steps then codes "steps " ++ (decimal steps ++ codes "\n") else [])

-- a line that has no answer
abbrev pub unanswered : List ℕ → ℕ → Piece
unanswered text cost = record { out = []; err = text; mark = Fault; cost = cost }

-- What a line of text comes to, by its run and its outcome, case by case: the run needs more steps than its budget; the
-- answer fits, and the line matches or doesn't; the answer is too long. (A line that is too long or not UTF-8 isn't
-- run:
-- see `line_piece`.)
abbrev pub ran_piece : Settings → List ℕ → ℕ → List ℕ → Outcome → Answer → Piece
ran_piece s file n line o a =
    let text = print s.style (chars line) o in
    let steps = steps_made (budget_of s (chars line)) a in
    if is_over a then unanswered (line_fault file n (codes "budget spent")) steps
    else (if not (nat_lt max_answer_bytes (length text))
    then record {
      out = text;
      err = told s line (matches o) steps;
      mark = if matches o then Hit else Miss;
      cost = steps;
    }
    else unanswered (line_fault file n (codes "answer too long")) steps)

-- what a goal's code matches is what the goal means
unfoldable pub match_makes : Settings → Job → Makes
match_makes s job file n line =
    ran_piece s file n line (outcome job.rules job.goal (chars line)) (ran s job.code line)

-- what a code matches that has no goal is what its captures write out
abbrev pub ran_outcome : Answer → Outcome
ran_outcome Unfinished = Open
ran_outcome (Matched n i cs) = At n i (written cs)
ran_outcome (Failed n) = Fail n

abbrev pub code_outcome : Settings → List Instr → List ℕ → Outcome
code_outcome s code line = ran_outcome (ran s code line)

unfoldable pub code_makes : Settings → List Instr → Makes
code_makes s code file n line = ran_piece s file n line (code_outcome s code line) (ran s code line)

-- ---- the parts of it, for proofs alone: no public contract names them

-- a line that has an answer
abbrev pub answered : Settings → List ℕ → List ℕ → Bool → ℕ → ℕ → Piece
answered s line text hit steps cost =
    record { out = text; err = told s line hit steps; mark = if hit then Hit else Miss; cost = cost }

-- a line whose answer may be too long
abbrev pub said : Settings → List ℕ → ℕ → List ℕ → Bool → List ℕ → Bool → ℕ → ℕ → Piece
said s file n line fits text hit steps cost =
    if fits then answered s line text hit steps cost
    else unanswered (line_fault file n (codes "answer too long")) cost

-- the piece of a line by its outcome, where the run is within its budget
abbrev pub outcome_piece : Settings → List ℕ → ℕ → List ℕ → Outcome → ℕ → Piece
outcome_piece s file n line o cost =
    said s file n line (not (nat_lt max_answer_bytes (length (print s.style (chars line) o))))
    (print s.style (chars line) o) (matches o) cost cost
