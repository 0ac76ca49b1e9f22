-- What a reader holds of one read, and what it does to fetch more bytes.
use Rattle.std.specs.Prelude.{slice_index, ℕ, ◌≡◌, ◌+◌, ◌-◌, ◌^◌, ◌<◌, ◌≤◌, Bool, true, false, List, [], ◌++◌, ◌∷◌}
use Rattle.std.specs.Prelude.{length, take, drop, Option, None, Some, Result, Ok, Err}
use Rattle.rosie_io.specs.Lines.{feeds}
use Rattle.rosie_io.specs.Held.{Held}
use Rattle.rosie_io.specs.Stopping.{HasMade, HasStopCause}
use Rattle.rosie_io.specs.declared.stop.ReadStop.{ReadStop}

-- what is held before, which is no byte, and after a read that took at least one byte
pub record Took (old new : Held) : Type 0 where
  pub reads : new.reads ≡ old.reads + 1
  pub some : 1 ≤ length new.bytes
  pub within : length new.bytes ≤ 65536

-- and after a read that found the end
pub record FoundEnd (old new : Held) : Type 0 where
  pub reads : new.reads ≡ old.reads
  pub none : new.bytes ≡ []

-- the read found the end exactly where the input is at its end after it; a read that failed or wasn't made changes
-- nothing
abbrev pub Fills : {T : Type 0} → Result T ReadStop → Held → Held → Type 0
Fills (Ok _) old new =
    (new.ended ≡ false → Took old new) × (new.ended ≡ true → FoundEnd old new) × (old.reads < 2 ^ 32)
Fills (Err why) old new = (new ≡ old) × HasMade why old.reads

-- what is held after, and the rest before and after
abbrev pub Fetches : {T : Type 0} → Result T ReadStop → Held → List ℕ → List ℕ → Type 0
Fetches (Ok _) held old new = (old ≡ held.bytes ++ new) × (held.ended ≡ true → new ≡ [])
Fetches (Err _) held old new = new ≡ old

-- a read that took something counts one byte at least
abbrev pub Counts : {T : Type 0} → Result T ReadStop → Held → ℕ → ℕ → Type 0
Counts (Ok _) held old new =
    (held.ended ≡ false → new < 2 ^ 64 - 1 → old + 1 ≤ new) × (held.ended ≡ true → new ≡ old)
Counts (Err _) held old new = new ≡ old

-- an attempt fails only where the count of faults rose; any other answer leaves the count
abbrev pub HasCause : {T : Type 0} → Result T ReadStop → ℕ → ℕ → Type 0
HasCause (Ok _) before now = now ≡ before
HasCause (Err why) before now = HasStopCause why before now

-- the place of the first line feed, where the bytes aren't part of one line as they are
abbrev pub FirstFeed : Option ℕ → Bool → List ℕ → Type 0
FirstFeed None whole bytes = whole ≡ false → feeds bytes ≡ 0
FirstFeed (Some at) whole bytes =
    (whole ≡ false) × (at < length bytes) × (feeds (take at bytes) ≡ 0) × (drop at bytes ≡ 10 ∷ drop (at + 1) bytes)

-- the place after the last line feed of the bytes, or 0
pub record IsAfterLastFeed (place : ℕ) (bytes : List ℕ) : Type 0 where
  pub within : place ≤ length bytes
  pub feed : 0 < place → slice_index bytes (place - 1) ≡ 10
  pub none : feeds (drop place bytes) ≡ 0
