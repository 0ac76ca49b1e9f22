-- What the end of a run adds to the outputs.
use Rattle.rosie_run.specs.declared.ended.Ended.TheVariants as E
use Rattle.rosie_io.specs.declared.stop.ReadStop.TheVariants as Y
use Rattle.rosie_run.specs.Causes.{AnswerWriteCause}
use Rattle.rosie_run.specs.Outputs.{IsFront, Telling, Texts}
use Rattle.rosie_run.specs.Report.{flags_status}
use Rattle.rosie_run.specs.declared.ended.Ended.{Ended}
use Rattle.rosie_io.specs.declared.stop.ReadStop.{ReadStop}
use Rattle.rosie_run.specs.declared.status.Status.TheVariants.{ReadFault, WriteFault, NoMemory, Spent}
use Rattle.rosie_run.specs.declared.status.Status.{Status}
use Rattle.rosie_run.specs.declared.tally.Tally.{Tally}
use Rattle.std.specs.Prelude.{◌++◌, ◌≡◌, ◌⊎◌, Err, Ok, Result, string_bytes, ℕ, List}

-- what the end of a run adds
abbrev pub stop_status : ReadStop → Status
stop_status Y.ReadFault = ReadFault
stop_status Y.Spent = Spent

pub record Stays (W : Telling) (b d : Texts) : Type 0 where
  pub out : W.out → d.out ≡ b.out
  pub err : W.err → d.err ≡ b.err
  pub number : W.counts → d.number ≡ b.number
  pub steps : d.steps ≡ b.steps

abbrev pub Closes : Result Tally Ended → Status → Telling → Texts → Texts → Type 0
Closes (Ok tally) s W b d = Stays W b d × ((s ≡ flags_status tally.stop tally.fault tally.hit) ⊎ (s ≡ WriteFault))
Closes (Err E.NoMemory) s W b d = Stays W b d × (s ≡ NoMemory)
Closes (Err E.WriteFault) s W b d = Stays W b d × (s ≡ WriteFault)
Closes (Err (E.Cut why text)) s W b d =
    (W.out → d.out ≡ b.out) × (W.counts → d.number ≡ b.number) × (d.steps ≡ b.steps)
    × (((s ≡ stop_status why) × (W.err → d.err ≡ b.err ++ string_bytes text))
    ⊎ ((s ≡ WriteFault) × (W.err → IsFront b.err d.err (string_bytes text))))

abbrev pub ClosesCause : Result Tally Ended → Status → ℕ → ℕ → ℕ → ℕ → Type 0
ClosesCause (Ok tally) s out0 out1 err0 err1 = AnswerWriteCause s out0 out1 err0 err1
ClosesCause (Err E.NoMemory) s out0 out1 err0 err1 = (out1 ≡ out0) × (err1 ≡ err0)
ClosesCause (Err E.WriteFault) s out0 out1 err0 err1 = (out1 ≡ out0) × (err1 ≡ err0)
ClosesCause (Err (E.Cut why text)) s out0 out1 err0 err1 = AnswerWriteCause s out0 out1 err0 err1

-- nothing came to `err` before all that stands on `out` was flushed: so many bytes of so many
abbrev pub OutFirst : List ℕ → List ℕ → ℕ → ℕ → Type 0
OutFirst err_old err_new flushed number = (err_new ≡ err_old) ⊎ (flushed ≡ number)
