-- The results of the tests of a file, and the pieces of the run.
use Rattle.std.specs.Prelude.{ℕ, zero, suc, ◌+◌, nat_lt, if◌then◌else◌, map, List, [], ◌∷◌}
use Rattle.std.specs.Prelude.{◌++◌, length, Option, codes, encode_utf8_all}
use Rattle.rosie_run.specs.Lines.{line_fault}
use Rattle.rosie_run.specs.Report.{Piece}
use Rattle.rosie_run.specs.declared.mark.Mark.{Mark}
use Rattle.rosie_run.specs.declared.mark.Mark.TheVariants.{Hit, Miss, Fault, Stop}
use Rattle.rpl_core.specs.Meaning.{Outcome}
use Rattle.rpl_core.specs.Outcome.{outcome}
use Rattle.rpl_core.specs.Run.{Answer, run}
use Rattle.rpl_encode.specs.Answer.{max_answer_bytes}
use Rattle.rpl_encode.specs.Print.{found, in_bytes, print}
use Rattle.rpl_encode.specs.declared.style.Style.TheVariants.{Json}
use Rattle.rpl_unittest.specs.Lines.{counts_line, failed_line}
use Rattle.rpl_unittest.specs.Verdicts.{is_met, part_of}
use Rattle.rpl_unittest.specs.declared.test.Test.{Test}
use Rattle.rosie_jobs.specs.Lines.{Job, budget_or, is_over, steps_made}
use Rattle.rosie_suites.specs.declared.verdict.Verdict.{Verdict}
use Rattle.rosie_suites.specs.declared.verdict.Verdict.TheVariants.{Met, Unmet, Spent, LongAnswer, LongCode}

-- what all tests of a file have in common: the file's name as it is given, the name of its package, which is empty
-- where it has none, and the steps that a test may take, where they are given
pub record Bench : Type 0 where
  pub file : List ℕ
  pub prefix : List ℕ
  pub budget : Option ℕ

-- what a test is tried with: nothing, a goal whose code is too long, or a goal with its code
pub data Subject : Type 0 where
  Unbound : Subject
  TooLong : Subject
  HasCode : (job : Job) → Subject

pub record Trial : Type 0 where
  pub test : Test
  pub subject : Subject

-- ---- how a test comes out

-- whether it is met by what its goal means on its text, unless the answer in JSON would be too long
abbrev pub by_outcome : Bench → Test → Outcome → Verdict
by_outcome b t o =
    if nat_lt max_answer_bytes (length (print Json t.text o)) then LongAnswer
    else (if is_met t.verb b.prefix (part_of t.part) (encode_utf8_all t.text) (in_bytes t.text (found o)) then Met
    else Unmet)

-- the machine's answer within the budget
abbrev pub ran : Bench → Test → Job → Answer
ran b t job = run job.code t.text (budget_or b.budget t.text)

abbrev pub by_run : Bench → Test → Job → Answer → Verdict
by_run b t job a = if is_over a then Spent else by_outcome b t (outcome job.rules job.goal t.text)

-- if there is nothing to try, the test isn't met
abbrev pub verdict_of : Bench → Test → Subject → Verdict
verdict_of b t Unbound = Unmet
verdict_of b t TooLong = LongCode
verdict_of b t (HasCode job) = by_run b t job (ran b t job)

-- the machine's steps for it
abbrev pub cost_of : Bench → Test → Subject → ℕ
cost_of b t (HasCode job) = steps_made (budget_or b.budget t.text) (ran b t job)
cost_of b t _ = 0

-- ---- what is written

-- a test that isn't met has its line on `out`
abbrev pub out_text : (file : List ℕ) → Test → Verdict → List ℕ
out_text file t Unmet = failed_line file t
out_text file t _ = []

-- and one without a verdict is reported on `err`, with its line in the file
abbrev pub err_text : (file : List ℕ) → Test → Verdict → List ℕ
err_text file t Spent = line_fault file t.line (codes "budget spent")
err_text file t LongAnswer = line_fault file t.line (codes "answer too long")
err_text file t LongCode = line_fault file t.line (codes "code too long")
err_text file t _ = []

-- a code that is too long ends the run
abbrev pub mark_of : Verdict → Mark
mark_of Spent = Fault
mark_of LongAnswer = Fault
mark_of LongCode = Stop
mark_of _ = Miss

abbrev pub piece_of : (file : List ℕ) → Test → Verdict → ℕ → Piece
piece_of file t v cost = record { out = out_text file t v; err = err_text file t v; mark = mark_of v; cost = cost }

abbrev pub verdict_in : Bench → Trial → Verdict
verdict_in b t = verdict_of b t.test t.subject

abbrev pub trial_piece : Bench → Trial → Piece
trial_piece b t = piece_of b.file t.test (verdict_in b t) (cost_of b t.test t.subject)

-- how many tests aren't met
abbrev pub one_if_unmet : Verdict → ℕ
one_if_unmet Unmet = 1
one_if_unmet _ = 0

abbrev pub unmet : Bench → List Trial → ℕ
unmet b [] = 0
unmet b (t ∷ ts) = one_if_unmet (verdict_in b t) + unmet b ts

-- the counts come last, and are a hit where no test failed
abbrev pub hit_if_none : ℕ → Mark
hit_if_none zero = Hit
hit_if_none (suc n) = Miss

abbrev pub counts_piece : (file : List ℕ) → (tests failed : ℕ) → Piece
counts_piece file tests failed =
    record { out = counts_line file tests failed; err = []; mark = hit_if_none failed; cost = 0 }

-- the pieces of the tests in turn
abbrev pub suite_pieces : Bench → List Trial → List Piece
suite_pieces b ts = map (trial_piece b) ts ++ counts_piece b.file (length ts) (unmet b ts) ∷ []
