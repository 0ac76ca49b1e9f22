-- Why reading stopped, against the counts of a reader and of its source.
use Rattle.std.specs.Prelude.{ℕ, ◌≡◌, ◌^◌, ◌<◌, ◌≤◌}
use Rattle.rosie_io.specs.Counts.{Rose}
use Rattle.rosie_io.specs.declared.stop.ReadStop.{ReadStop}
use Rattle.rosie_io.specs.declared.stop.ReadStop.TheVariants.{ReadFault, Spent}

-- how many reads took a byte: a read was made unless they are spent
abbrev pub HasMade : ReadStop → ℕ → Type 0
HasMade ReadFault reads = reads < 2 ^ 32
HasMade Spent reads = reads ≡ 2 ^ 32

-- a read failed only where the count of faults rose; spent reads leave it
abbrev pub HasStopCause : ReadStop → ℕ → ℕ → Type 0
HasStopCause ReadFault before now = (before ≤ now) × Rose before now
HasStopCause Spent before now = now ≡ before
