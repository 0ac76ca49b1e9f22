-- From a run and its end to what is said of a call.
use Rattle.std.proofs.Common.{◌≡◌, ◌≢◌, inl, inr, Bool, true, false, [], refl, sym, ◌∙◌, arith}
use Rattle.std.specs.Prelude.{Result, Ok, Err, IfErr, IfOk}
use Rattle.std.proofs.lemmas.Bool.{false≢true}
use Rattle.rosie_run.specs.Runs.{RunReadCause, RunWriteCause, GoesOn, IsNoCut, Runs}
use Rattle.rosie_run.specs.Closing.{Closes, ClosesCause, stop_status}
use Rattle.rosie_run.specs.Outputs.{Failures, Telling, Texts}
use Rattle.rosie_run.specs.Report.{flags_status}
use Rattle.rosie_run.specs.Sources.{Moment, Still}
use Rattle.rosie_run.specs.declared.ended.Ended.{Ended}
use Rattle.rosie_run.specs.declared.ended.Ended.TheVariants as E
use Rattle.rosie_io.specs.declared.stop.ReadStop.{ReadStop}
use Rattle.rosie_io.specs.declared.stop.ReadStop.TheVariants as Y
use Rattle.rosie_run.specs.declared.status.Status.{Status}
use Rattle.rosie_run.specs.declared.status.Status.TheVariants.{Refused}
use Rattle.rosie_run.specs.declared.tally.Tally.{Tally}
use Rattle.rosie_run.proofs.Headlines.{came_of, headline, output_cause, reads_cause}
use Rattle.rosie_run.specs.Causes.{AnswerWriteCause, AnswerReadCause}
use Rattle.rosie_run.specs.Headline.{Headline}
use Rattle.rpl_package.specs.Asking.{IsTold}
use Rattle.rosie_cli.specs.Opened.{HidesNoRead, Opened}
use Rattle.rosie_cli.specs.Plans.{Planned, ReadsInput, pieces, KnowsInputs, report}
use Rattle.rosie_cli.specs.Promises.{IsPromised}
use Rattle.rosie_cli.specs.Rosie.{Answers, Call, HasPlan, report_of, where_of}
use Rattle.rosie_cli.proofs.Promised.{no_fault, no_stop}
use Rattle.rosie_cli.proofs.Whole.{answers_all, completes_if, not_spent}

module _ (c : Call) (r : Result Tally Ended) (mid : Texts) (failed : Failures)
    (closes : Closes r c.answer c.run.tells mid c.run.after)
    (cause : RunReadCause r c.run.input.before c.run.input.after c.run.files.before c.run.files.after)
    (sinks : RunWriteCause r c.failures_before.out failed.out c.failures_before.err failed.err)
    (ends : ClosesCause r c.answer failed.out c.failures_after.out failed.err c.failures_after.err)
    (runs : (p : Planned) → IsTold c.run.files_tell p.asked → c.plans p
    → KnowsInputs p.plan c.run.files_tell c.run.input_tells c.run.input.before.rest
    → Runs r c.run.tells (pieces p.plan c.run.tree c.run.input.before.rest) (where_of c p) c.run.before mid)
    (rest : (p : Planned) → IsTold c.run.files_tell p.asked → c.plans p
    → KnowsInputs p.plan c.run.files_tell c.run.input_tells c.run.input.before.rest
    → GoesOn r (ReadsInput p.plan → c.run.input.after.rest ≡ []))
    (opened : (p : Planned) → IsTold c.run.files_tell p.asked → c.plans p
    → Opened c.answer c.run p c.asked_before c.asked_after)
    (unhidden : (p : Planned) → IsTold c.run.files_tell p.asked → c.plans p
    → HidesNoRead c.answer c.run.files p c.asked_before c.asked_after)
    (past_end : c.input_ended ≡ false → c.input_asked_after ≡ c.input_asked_before)
    (due : (p : Planned) → c.plans p → IsPromised p.plan) where
  headline_of : (p : Planned) → HasPlan c p
      → Headline c.answer c.run.tells (report_of c p) (where_of c p) c.run.before c.run.after
  unfolding report
  headline_of p h =
      headline c.run.tells (pieces p.plan c.run.tree c.run.input.before.rest) (where_of c p) r c.answer c.run.before mid
      c.run.after (runs p h.files h.is h.inputs) closes

  reads_of : AnswerReadCause c.answer c.run.input.before c.run.input.after c.run.files.before c.run.files.after
  reads_of =
      reads_cause r c.answer c.run.tells mid c.run.after c.run.input.before c.run.input.after c.run.files.before
      c.run.files.after closes cause

  writes_of : AnswerWriteCause c.answer c.failures_before.out c.failures_after.out c.failures_before.err
      c.failures_after.err
  writes_of =
      output_cause r c.answer c.run.tells mid c.run.after c.failures_before.out failed.out c.failures_after.out
      c.failures_before.err failed.err
      c.failures_after.err closes sinks ends

  pub answers_of : Answers c
  answers_of = record {
    headline = headline_of;
    read = λ p h came asks.
        came_of r c.answer c.run.tells mid c.run.after _ closes came (rest p h.files h.is h.inputs) asks;
    status = λ p h u.
        answers_all c.run.tells (report_of c p) (where_of c p) c.run.before c.run.after c.run.input.before
        c.run.input.after c.run.files.before c.run.files.after c.failures_before.out c.failures_after.out
        c.failures_before.err c.failures_after.err
        u.input_reads u.files_read u.out_writes u.err_writes
        (λ file k x. not_spent p c.run.tree c.run.input c.run.files file k u.input_short u.files_short x) c.answer
        (headline_of p h) reads_of writes_of;
    complete = λ p h u sound.
        completes_if c.run.tells (report_of c p) (where_of c p) c.run.before c.run.after c.run.input.before
        c.run.input.after c.run.files.before c.run.files.after c.failures_before.out c.failures_after.out
        c.failures_before.err c.failures_after.err
        u.input_reads u.files_read u.out_writes u.err_writes
        (λ file k x. not_spent p c.run.tree c.run.input c.run.files file k u.input_short u.files_short x) c.answer
        (no_stop p.plan c.run.tree c.run.input.before.rest (due p h.is) sound)
        (no_fault p.plan c.run.tree c.run.input.before.rest (due p h.is) sound) (headline_of p h) reads_of writes_of;
    opened = opened;
    unhidden = unhidden;
    past_end = past_end;
    reads = reads_of;
    writes = writes_of;
  }

-- the same call, of whose plan more is known
pub answers_by : (c : Call) (comes : Planned → Type 0)
    → ((p : Planned) → comes p → c.plans p) → Answers c
    → Answers (record {
      plans = comes;
      run = c.run;
      asked_before = c.asked_before;
      asked_after = c.asked_after;
      input_ended = c.input_ended;
      input_asked_before = c.input_asked_before;
      input_asked_after = c.input_asked_after;
      failures_before = c.failures_before;
      failures_after = c.failures_after;
      answer = c.answer;
    })
answers_by c comes is_to a = record {
  headline = λ p h. a.headline p (record { is = is_to p h.is; files = h.files; inputs = h.inputs });
  read = λ p h. a.read p (record { is = is_to p h.is; files = h.files; inputs = h.inputs });
  status = λ p h. a.status p (record { is = is_to p h.is; files = h.files; inputs = h.inputs });
  complete = λ p h. a.complete p (record { is = is_to p h.is; files = h.files; inputs = h.inputs });
  opened = λ p t is. a.opened p t (is_to p is);
  unhidden = λ p t is. a.unhidden p t (is_to p is);
  past_end = a.past_end;
  reads = a.reads;
  writes = a.writes;
}

-- nothing is read where reading doesn't end the run
still : (m : Moment) → Still m m
still m = record { faults = refl; opens = refl }

pub untouched_cause : (r : Result Tally Ended) → IfErr r IsNoCut → (i f : Moment) → RunReadCause r i i f f
untouched_cause (Ok tally) h i f = (still i, still f)
untouched_cause (Err E.NoMemory) h i f =
    (record { faults = omega arith; opens = omega arith }, record { faults = omega arith; opens = omega arith })
untouched_cause (Err E.WriteFault) h i f = (still i, still f)
untouched_cause (Err (E.Cut why text)) h i f = absurd h

-- a run that no piece ends isn't refused
flags_go : (stop f h : Bool) → stop ≡ false → flags_status stop f h ≢ Refused
flags_go true f h goes e = absurd (false≢true (sym goes))
flags_go false true h goes e = absurd (cc)
flags_go false false true goes e = absurd (cc)
flags_go false false false goes e = absurd (cc)

stop_goes : (why : ReadStop) → stop_status why ≢ Refused
stop_goes Y.ReadFault e = absurd (cc)
stop_goes Y.Spent e = absurd (cc)

pub goes_unrefused : (r : Result Tally Ended) (s : Status) (W : Telling) (b d : Texts) → Closes r s W b d
    → IfOk r (λ tally. tally.stop ≡ false) → s ≢ Refused
goes_unrefused (Ok tally) s W b d c goes e = elim c.1 [
  | inl is ↦ flags_go tally.stop tally.fault tally.hit goes (sym is ∙ e)
  | inr is ↦ absurd (cc)
]
goes_unrefused (Err (E.Cut why text)) s W b d c goes e = elim c.3 [
  | inl is ↦ stop_goes why (sym is.0 ∙ e)
  | inr is ↦ (let w = is.0 in absurd (cc))
]
goes_unrefused (Err _) s W b d c goes e = (let is = c.1 in absurd (cc))
