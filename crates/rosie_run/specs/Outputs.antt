-- What was written to the outputs, and what pieces add to that.
use Rattle.rosie_io.specs.Counts.{capped}
use Rattle.rosie_io.specs.declared.outside.Sink.{Ghosts}
use Rattle.rosie_run.specs.Report.{Piece, costs, errs, outs}
use Rattle.rosie_run.specs.declared.tool.Tool.{Tool}
use Rattle.std.specs.Prelude.{◌++◌, ◌+◌, ◌≡◌, ◌≤◌, List, length, take, ℕ}

-- what the outputs tell, and whose messages are written
pub record Telling : Type 1 where
  pub tool : Tool
  pub out : Type 0
  pub err : Type 0
  pub counts : Type 0

-- what stands on the outputs at one time, and the steps that were made
pub record Texts : Type 0 where
  pub out : List ℕ
  pub err : List ℕ
  pub number : ℕ
  pub steps : ℕ

abbrev pub texts : {O E : Type 0} → (O → List ℕ) → (O → ℕ) → (E → List ℕ) → O → E → ℕ → Texts
texts written number written' o e n = record { out = written o; err = written' e; number = number o; steps = n }

-- what the two outputs tell, what stands on them, and how many of their writes and flushes failed
abbrev pub telling : {O E : Type 0} → Tool → Ghosts O → Ghosts E → Telling
telling tool O E = record { tool = tool; out = O.tells; err = E.tells; counts = O.counts }

abbrev pub shown : {O E : Type 0} → Ghosts O → Ghosts E → O → E → ℕ → Texts
shown O E o e n = texts O.written O.number E.written o e n

pub record Failures : Type 0 where
  pub out : ℕ
  pub err : ℕ

abbrev pub failures : {O E : Type 0} → Ghosts O → Ghosts E → O → E → Failures
failures O E o e = record { out = O.faults o; err = E.faults e }

-- just these pieces were added
pub record Wrote (T : Telling) (ps : List Piece) (a b : Texts) : Type 0 where
  pub out : T.out → b.out ≡ a.out ++ outs ps
  pub err : T.err → b.err ≡ a.err ++ errs ps
  pub number : T.counts → b.number ≡ capped (a.number + length (outs ps))
  pub steps : b.steps ≡ a.steps + costs ps

-- a text has grown by a front of another
abbrev pub IsFront : List ℕ → List ℕ → List ℕ → Type 0
IsFront old new text = (k : ℕ) × (k ≤ length text) × (new ≡ old ++ take k text)

-- each output has a front of what these pieces add
pub record Fronts (T : Telling) (ps : List Piece) (a b : Texts) : Type 0 where
  pub out : T.out → IsFront a.out b.out (outs ps)
  pub err : T.err → IsFront a.err b.err (errs ps)
