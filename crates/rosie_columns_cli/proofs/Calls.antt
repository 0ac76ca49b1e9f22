-- From a run and its end to what is said of a call.
use Rattle.std.proofs.Common.{◌≡◌, ℕ, Bool, true, false, not, List, [], ◌∷◌, length, refl, sym, ◌∙◌, ap, subst, arith}
use Rattle.std.specs.Prelude.{◌==◌, Result, Ok, Err}
use Rattle.std.proofs.lemmas.Bool.Decides.{nat_tests}
use Rattle.rosie_run.specs.Causes.{AnswerWriteCause, AnswerReadCause}
use Rattle.rosie_run.specs.Closing.{Closes, ClosesCause}
use Rattle.rosie_run.specs.Headline.{CameToEnd, Headline}
use Rattle.rosie_run.specs.Inputs.{reads_standard}
use Rattle.rosie_run.specs.Outputs.{Failures, Texts}
use Rattle.rosie_run.specs.Runs.{GoesOn, Runs, RunReadCause, RunWriteCause}
use Rattle.rosie_run.specs.declared.ended.Ended.{Ended}
use Rattle.rosie_run.specs.declared.status.Status.{Status}
use Rattle.rosie_run.specs.declared.status.Status.TheVariants as S
use Rattle.rosie_run.specs.declared.tally.Tally.{Tally}
use Rattle.rosie_run.proofs.Headlines.{came_of, headline, output_cause, reads_cause}
use Rattle.rosie_columns_cli.specs.Endings.{ending_of, status_in}
use Rattle.rosie_columns_cli.specs.Report.{are_any, pieces, report}
use Rattle.rosie_columns_cli.specs.RosieColumns.{Answers, Call, Knows, has_last_lines, names, report_of, stood}
use Rattle.rosie_columns_cli.specs.declared.ending.Ending.TheVariants.{Ran}

-- ---- endings

pub status_is : (s : Status) (f : Bool) → status_in (ending_of s f) ≡ s
status_is S.Matched true = refl
status_is S.Matched false = refl
status_is S.NoMatch f = refl
status_is S.Refused f = refl
status_is S.LineFault f = refl
status_is S.ReadFault f = refl
status_is S.WriteFault f = refl
status_is S.NoMemory f = refl
status_is S.Spent f = refl

pub ran_is : (s : Status) → Ran s ≡ ending_of s false
ran_is S.Matched = refl
ran_is S.NoMatch = refl
ran_is S.Refused = refl
ran_is S.LineFault = refl
ran_is S.ReadFault = refl
ran_is S.WriteFault = refl
ran_is S.NoMemory = refl
ran_is S.Spent = refl

-- whether there are last lines counts where the run came to its end
same_ending : (s : Status) (f g : Bool) → (CameToEnd s → f ≡ g) → ending_of s f ≡ ending_of s g
same_ending S.Matched f g h = ap (ending_of S.Matched) (h tt)
same_ending S.NoMatch f g h = refl
same_ending S.Refused f g h = refl
same_ending S.LineFault f g h = refl
same_ending S.ReadFault f g h = refl
same_ending S.WriteFault f g h = refl
same_ending S.NoMemory f g h = refl
same_ending S.Spent f g h = refl

-- whether there are any
any_len : (xs : List ℕ) (n : ℕ) (b : Bool) → n ≡ length xs → b ≡ (n == 0) → not b ≡ are_any xs
any_len [] n b len e = ap not (e ∙ ap (λ m. m == 0) len)
any_len (x ∷ xs) n b len e =
    let test : (n == 0) ≡ false = grind (arith, nat_tests, len) in
    ap not (e ∙ test)

pub any_by : (xs : List ℕ) (n : ℕ) (b : Bool) (text : List ℕ) → n ≡ length xs → b ≡ (n == 0) → xs ≡ text
    → not b ≡ are_any text
any_by xs n b text len e is = any_len xs n b len e ∙ ap are_any is

pub goes_map : (r : Result Tally Ended) (P Q : Type 0) → (P → Q) → GoesOn r P → GoesOn r Q
goes_map (Ok tally) P Q f h = λ goes. f (h goes)
goes_map (Err e) P Q f h = tt

-- ---- calls

module _ (c : Call) (r : Result Tally Ended) (s : Status) (flag : Bool) (mid : Texts) (failed : Failures)
    (is : c.answer ≡ ending_of s flag)
    (closes : Closes r s c.run.tells mid c.run.after)
    (cause : RunReadCause r c.run.input.before c.run.input.after c.run.files.before c.run.files.after)
    (sinks : RunWriteCause r c.failed.out failed.out c.failed.err failed.err)
    (ends : ClosesCause r s failed.out c.fails.out failed.err c.fails.err)
    (runs : Knows c → Runs r c.run.tells (pieces c.asked c.run.tree c.run.input.before.rest) (stood c.asked c.run)
    c.run.before mid)
    (lasts : Knows c → GoesOn r (flag ≡ has_last_lines c.asked c.run))
    (rest : Knows c → GoesOn r (reads_standard (names c.asked) ≡ true → c.run.input.after.rest ≡ [])) where
  same : status_in c.answer ≡ s
  same = ap status_in is ∙ status_is s flag

  headline_of : Knows c
      → Headline s c.run.tells (report_of c) (stood c.asked c.run) c.run.before c.run.after
  unfolding report
  headline_of k =
      headline c.run.tells (pieces c.asked c.run.tree c.run.input.before.rest) (stood c.asked c.run) r s c.run.before
      mid c.run.after (runs k) closes

  pub answers_of : Answers c
  answers_of = record {
    headline = λ k.
        subst (λ x. Headline x c.run.tells (report_of c) (stood c.asked c.run) c.run.before c.run.after) (sym same)
        (headline_of k);
    ending = λ k.
        is ∙ same_ending s flag (has_last_lines c.asked c.run)
        (λ came. came_of r s c.run.tells mid c.run.after _ closes came (lasts k))
        ∙ ap (λ x. ending_of x (has_last_lines c.asked c.run)) (sym same);
    read = λ k came.
        came_of r s c.run.tells mid c.run.after _ closes (subst CameToEnd same came) (rest k);
    reads = subst
        (λ x. AnswerReadCause x c.run.input.before c.run.input.after c.run.files.before c.run.files.after) (sym same)
        (reads_cause r s c.run.tells mid c.run.after c.run.input.before c.run.input.after c.run.files.before
        c.run.files.after closes cause);
    writes = subst (λ x. AnswerWriteCause x c.failed.out c.fails.out c.failed.err c.fails.err) (sym same)
        (output_cause r s c.run.tells mid c.run.after c.failed.out failed.out c.fails.out c.failed.err failed.err
        c.fails.err closes sinks ends);
  }
