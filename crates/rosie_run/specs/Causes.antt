-- What a result says about the counts of faults.
use Rattle.rosie_io.specs.Counts.{Rose}
use Rattle.rosie_io.specs.declared.outside.Sink.{Ghosts}
use Rattle.rosie_run.specs.Sources.{Moment, NoFewer, RoseIn, Still, TookMany}
use Rattle.rosie_run.specs.declared.status.Status.{Status}
use Rattle.rosie_run.specs.declared.status.Status.TheVariants.{NoMemory, ReadFault, Spent, WriteFault}
use Rattle.std.specs.Prelude.{◌≡◌, ◌≤◌, ◌⊎◌, ℕ}

-- of the two sinks: the count of at least one of them rose
abbrev pub WriteRose : ℕ → ℕ → ℕ → ℕ → Type 0
WriteRose out0 out1 err0 err1 = (out0 ≤ out1) × (err0 ≤ err1) × (Rose out0 out1 ⊎ Rose err0 err1)

-- everything is flushed, unless a write failed or memory ran out
abbrev pub IsFlushed : Status → ℕ → ℕ → Type 0
IsFlushed WriteFault number flushed = Unit {0}
IsFlushed NoMemory number flushed = Unit {0}
IsFlushed _ number flushed = flushed ≡ number

-- and so by the output itself, where it counts
abbrev pub Flushes : {O : Type 0} → Ghosts O → Status → O → Type 0
Flushes O answer o = O.counts → IsFlushed answer (O.number o) (O.flushed o)

-- the counts of the sinks: a write fault is reported only if one of them rose
abbrev pub AnswerWriteCause : Status → ℕ → ℕ → ℕ → ℕ → Type 0
AnswerWriteCause WriteFault out0 out1 err0 err1 = WriteRose out0 out1 err0 err1
AnswerWriteCause _ out0 out1 err0 err1 = (out1 ≡ out0) × (err1 ≡ err0)

-- the counts of the standard input and of the files: a fault of reading only where one of them rose, and reads that
-- are spent only where so many bytes were taken. Want of memory hides no failed read of the standard input
abbrev pub AnswerReadCause : Status → Moment → Moment → Moment → Moment → Type 0
AnswerReadCause ReadFault i0 i1 f0 f1 = NoFewer i0 i1 × NoFewer f0 f1 × (RoseIn i0 i1 ⊎ RoseIn f0 f1)
AnswerReadCause Spent i0 i1 f0 f1 =
    Still i0 i1 × Still f0 f1 × (TookMany i0.taken i1.taken ⊎ TookMany f0.taken f1.taken)
AnswerReadCause WriteFault i0 i1 f0 f1 = NoFewer i0 i1 × NoFewer f0 f1
AnswerReadCause NoMemory i0 i1 f0 f1 = Still i0 i1 × NoFewer f0 f1
AnswerReadCause _ i0 i1 f0 f1 = Still i0 i1 × Still f0 f1
