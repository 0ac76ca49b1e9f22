-- What is visible of a source at one time, and what it counts.
use Rattle.rosie_io.specs.Counts.{Rose}
use Rattle.rosie_io.specs.declared.outside.Source.{Ghosts}
use Rattle.rosie_io.specs.declared.stop.ReadStop.{ReadStop}
use Rattle.rosie_io.specs.declared.stop.ReadStop.TheVariants.{ReadFault, Spent}
use Rattle.std.specs.Prelude.{◌+◌, ◌-◌, ◌<◌, ◌^◌, ◌≡◌, ◌≤◌, ◌⊎◌, List, ℕ}

pub record Moment : Type 0 where
  pub rest : List ℕ
  pub taken : ℕ
  pub faults : ℕ
  pub opens : ℕ

abbrev pub moment : {S : Type 0} → (S → List ℕ) → (S → ℕ) → (S → ℕ) → (S → ℕ) → S → Moment
moment rest taken faults opens s = record { rest = rest s; taken = taken s; faults = faults s; opens = opens s }

abbrev pub moment_of : {S : Type 0} → Ghosts S → S → Moment
moment_of S s = moment S.rest S.taken S.faults S.failed_opens s

-- a source before and after a call
pub record Span : Type 0 where
  pub before : Moment
  pub after : Moment

abbrev pub span_of : {S : Type 0} → Ghosts S → S → S → Span
span_of S a b = record { before = moment_of S a; after = moment_of S b }

-- so many bytes were taken, or the number stands at the greatest u64
abbrev pub TookMany : ℕ → ℕ → Type 0
TookMany before now = now < 2 ^ 64 - 1 → before + 2 ^ 32 ≤ now

-- reading from a source ended the run
abbrev pub Ends : ReadStop → Moment → Moment → Type 0
Ends ReadFault a b = Rose a.faults b.faults
Ends Spent a b = TookMany a.taken b.taken

-- the counts of one source: it is not read from, or reading it is why the run ends
pub record Still (m0 m1 : Moment) : Type 0 where
  pub faults : m1.faults ≡ m0.faults
  pub opens : m1.opens ≡ m0.opens

pub record NoFewer (m0 m1 : Moment) : Type 0 where
  pub faults : m0.faults ≤ m1.faults
  pub opens : m0.opens ≤ m1.opens

abbrev pub RoseIn : Moment → Moment → Type 0
RoseIn m0 m1 = Rose m0.faults m1.faults ⊎ Rose m0.opens m1.opens
