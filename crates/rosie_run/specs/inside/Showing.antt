-- What a part of a run leaves: on the outputs, of its lines, and of the counts of faults.
use Rattle.std.specs.Prelude.{ℕ, ◌≡◌, Err, Ok, Result}
use Rattle.rosie_io.specs.declared.outside.Sink.{Ghosts}
use Rattle.rosie_run.specs.Outputs.{Telling, Texts, shown, telling}
use Rattle.rosie_run.specs.declared.outputs.Outputs.{Outputs}
use Rattle.rosie_run.specs.declared.tool.Tool.{Tool}
use Rattle.rosie_run.specs.declared.lines.Lines.{Lines}
use Rattle.rosie_run.specs.declared.lines.Reading.{Reading}
use Rattle.rosie_run.specs.Causes.{WriteRose}

-- what the outputs tell, and what stands on them before and after a call
pub record Showing : Type 1 where
  pub tells : Telling
  pub before : Texts
  pub after : Texts

abbrev pub showing : {O E : Type 0} → Tool → Ghosts O → Ghosts E → O → E → ℕ → O → E → ℕ → Showing
showing tool O E o e n o' e' n' =
    record { tells = telling tool O E; before = shown O E o e n; after = shown O E o' e' n' }

-- the same, of a call that is given the outputs as one value
abbrev pub shows : {O E L : Type 0} → Tool → Ghosts O → Ghosts E → Outputs O E L → Outputs O E L → Showing
shows tool O E a b = showing tool O E a.out.now a.err.now a.steps.now b.out.now b.err.now b.steps.now

-- the value holds the same job and the same reader as before, and it is the run of the same program
abbrev pub SameLines : {J : Type 0} → Lines J → Lines J → Type 0
SameLines a b =
    (b.job.ghost_name ≡ a.job.ghost_name) × (b.reader.ghost_name ≡ a.reader.ghost_name)
    × (b.messages.ghost_name ≡ a.messages.ghost_name) × (b.messages.now.tool ≡ a.messages.now.tool)

-- how its reader reads
abbrev pub reading_of : {J : Type 0} → Lines J → Reading
reading_of a = record { tool = a.messages.now.tool; whole = a.reader.now.whole; most = a.reader.now.most }

-- after writes alone
abbrev pub BothCause : {A E : Type 0} → Result A E → ℕ → ℕ → ℕ → ℕ → Type 0
BothCause (Ok _) out0 out1 err0 err1 = (out1 ≡ out0) × (err1 ≡ err0)
BothCause (Err _) out0 out1 err0 err1 = WriteRose out0 out1 err0 err1
