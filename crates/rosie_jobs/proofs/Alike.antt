-- A goal's code alone makes of each line what the goal makes of it.
use Rattle.std.proofs.Common.{◌≡◌, ℕ, Bool, cond, not, List, length, refl, sym, ap, ◌∙◌}
use Rattle.std.specs.Prelude.{Some, chars, codes, encode_utf8_all, nat_lt}
use Rattle.std.proofs.lemmas.Str.{IsUtf8-from_is_utf8}
use Rattle.rosie_run.specs.Lines.{line_fault}
use Rattle.rosie_run.specs.Report.{Piece}
use Rattle.rpl_core.specs.Meaning.{Outcome}
use Rattle.rpl_core.specs.Outcome.{outcome}
use Rattle.rpl_core.specs.Run.{Answer, Matched, Failed, Unfinished, run}
use Rattle.rpl_encode.specs.Answer.{answer, max_answer_bytes}
use Rattle.rpl_encode.specs.Print.{found, in_bytes, print}
use Rattle.rosie_jobs.specs.Written.{written}
use Rattle.rosie_jobs.proofs.Written.{written_holds}
use Rattle.rosie_jobs.specs.Laws.{RunsAsItsGoal}
use Rattle.rosie_jobs.specs.Lines.{
  budget_of,
  code_makes,
  is_over,
  steps_made,
  match_makes,
  matches,
  ran_outcome,
  ran_piece,
}
use Rattle.rosie_jobs.specs.Lines.{said, unanswered}
use Rattle.rosie_words.specs.declared.settings.Settings.{Settings}
use Rattle.rosie_jobs.specs.inside.Printed.{IsShown}
use Rattle.rosie_jobs.proofs.Shown.{shown_meant}

module _ (s : Settings) (file : List ℕ) (n : ℕ) (line : List ℕ) where
  -- the piece of a run by the text of its answer, and by whether it matched
  abbrev by_text : Answer → List ℕ → Bool → Piece
  by_text a text hit =
      let cost = steps_made (budget_of s (chars line)) a in
      cond (is_over a) (unanswered (line_fault file n (codes "budget spent")) cost)
      (said s file n line (not (nat_lt max_answer_bytes (length text))) text hit cost cost)

  -- two outcomes with the same trees and the same verdict make the same piece
  same_piece : (a : Answer) (o p : Outcome) → found o ≡ found p → matches o ≡ matches p
      → ran_piece s file n line o a ≡ ran_piece s file n line p a
  same_piece a o p e m =
      ap (λ x. by_text a (answer s.style (encode_utf8_all (chars line)) (in_bytes (chars line) x)) (matches o)) e
      ∙ ap (by_text a (print s.style (chars line) p)) m

  -- the outcome that a run shows, and the one that it writes out, make the same piece
  alike : (a : Answer) (o : Outcome) → IsShown a o
      → ran_piece s file n line o a ≡ ran_piece s file n line (ran_outcome a) a
  alike (Matched k i cs) o h =
      same_piece (Matched k i cs) o (ran_outcome (Matched k i cs))
      (h.1 ∙ ap Some (sym (ap written h.2 ∙ written_holds h.0))) h.3
  alike (Failed k) o h = same_piece (Failed k) o (ran_outcome (Failed k)) h.0 h.1
  alike Unfinished o h = refl

-- code that does what its goal means makes of each UTF-8 line what the goal makes of it
pub runs_as_its_goal : RunsAsItsGoal
unfolding match_makes code_makes
runs_as_its_goal s job meant file n line u =
    alike s file n line (run job.code (chars line) (budget_of s (chars line))) (outcome job.rules job.goal (chars line))
    (shown_meant s job line (IsUtf8-from_is_utf8 line u) meant)
