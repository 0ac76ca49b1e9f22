-- The lines of a source as pieces: which are to come, and what a run over them leaves.
use Rattle.rosie_io.specs.Answering.{Keeps}
use Rattle.rosie_io.specs.Ending.{Knows}
use Rattle.rosie_io.specs.Gathering.{Reads, left}
use Rattle.rosie_io.specs.Held.{Held}
use Rattle.rosie_io.specs.Lines.{lines}
use Rattle.rosie_io.specs.Reader.{Reader}
use Rattle.rosie_io.specs.declared.outside.Source.{Ghosts}
use Rattle.rosie_run.specs.Going.{AtEnd, CutBy, Going, How, WantsMemory}
use Rattle.rosie_run.specs.Given.{is_given}
use Rattle.rosie_run.specs.Lines.{Makes, passed, pieces_from}
use Rattle.rosie_run.specs.Report.{Piece}
use Rattle.rosie_run.specs.Sources.{TookMany, moment_of}
use Rattle.rosie_run.specs.Where.{InSource}
use Rattle.rosie_io.specs.declared.stop.ReadStop.TheVariants as Y
use Rattle.rosie_run.specs.declared.lines.Reading.{Reading}
use Rattle.rosie_run.specs.declared.lines.SourceLines.{SourceLines}
use Rattle.rosie_run.specs.declared.tool.Tool.{Tool}
use Rattle.rosie_run.specs.Passing.{IsPrepared}
use Rattle.rosie_io.specs.Counts.{Rose}
use Rattle.std.specs.List.{filter}
use Rattle.std.specs.Prelude.{◌≡◌, ◌++◌, ◌+◌, ◌-◌, ◌<◌, ◌^◌, ◌≤◌, List, [], false, length, true, ℕ}
use Rattle.std.proofs.Math.Path.{refl, sym, ◌∙◌}
use Rattle.std.proofs.Math.Nat.{le_refl, zero-add}
use Rattle.std.proofs.lemmas.Bool.{false≢true}

-- over the same job, reader and source as before, under the same name
abbrev pub SameLines : {J S : Type 0} → SourceLines J S → SourceLines J S → Type 0
SameLines a b =
    (b.job.ghost_name ≡ a.job.ghost_name) × (b.reader.ghost_name ≡ a.reader.ghost_name)
    × (b.messages.ghost_name ≡ a.messages.ghost_name) × (b.source.ghost_name ≡ a.source.ghost_name)
    × (b.file.now ≡ a.file.now)

-- how a reader reads its lines
abbrev pub reading_of : Tool → Reader → Reading
reading_of tool r = record { tool = tool; whole = r.whole; most = r.most }

-- there may be a line, and it is made ready to say that a read failed
abbrev pub GoesOnFrom : {J S : Type 0} → SourceLines J S → Type 0
GoesOnFrom s = (s.reader.now.done ≡ false) × IsPrepared s.messages.now s.file.now

-- what is left, as pieces
abbrev pub to_come : Makes → Tool → List ℕ → Reader → List ℕ → List Piece
to_come makes tool file reader left0 =
    pieces_from makes (reading_of tool reader) file reader.number (lines reader.whole left0)

-- those of the bytes that are left, where the source tells
abbrev pub ComesFrom : {J S : Type 0} → (J → Makes) → Ghosts S → SourceLines J S → List Piece → Type 0
ComesFrom makes G s ps =
    G.tells
    × (ps ≡ to_come (makes s.job.now) s.messages.now.tool s.file.now s.reader.now
    (left s.reader.now.held (G.rest s.source.now)))

-- the lines that are still to be given
abbrev pub to_give : Reader → List ℕ → List (List ℕ)
to_give reader left0 = filter (is_given reader.most) (lines reader.whole left0)

-- what is said at the end is what it was to be where the run began, if these lines were to be given then and are now
abbrev pub SaysBy : How → (begin now : List (List ℕ) → List ℕ) → (first left : List (List ℕ)) → Type 0
SaysBy Going begin now first left = (more : List (List ℕ)) → now (left ++ more) ≡ begin (first ++ more)
SaysBy AtEnd begin now first left = (more : List (List ℕ)) → now more ≡ begin (first ++ more)
SaysBy _ begin now first left = Unit {0}

-- a reader that has read nothing yet
abbrev pub IsFresh : Held → Type 0
IsFresh held = held ≡ record { bytes = []; ended = false; reads = 0 }

-- k lines were passed between the first and the second
pub record Since {S : Type 0} (G : Ghosts S) (r q : Reader) (a b : S) (k : ℕ) : Type 0 where
  pub faults : G.faults b ≡ G.faults a
  pub reads : Reads G.tells r.held q.held (G.rest a) (G.rest b) (G.taken a) (G.taken b)
  pub counts : G.tells → q.held.ended ≡ false
      → passed r.whole (left r.held (G.rest a)) ≡ k + passed r.whole (left q.held (G.rest b))
  pub at_end : G.tells → r.held.ended ≡ false → q.held.ended ≡ true → G.rest b ≡ []

-- there is no further line
pub record IsPast {S : Type 0} (G : Ghosts S) (r : Reader) (a b : S) : Type 0 where
  pub faults : G.faults b ≡ G.faults a
  pub rest : G.tells → IsFresh r.held → G.rest b ≡ []

-- reading ended it: a read failed, or all reads are made
pub record IsFailed {S : Type 0} (G : Ghosts S) (r : Reader) (a b : S) (k : ℕ) : Type 0 where
  pub fewer : G.faults a ≤ G.faults b
  pub rose : Rose (G.faults a) (G.faults b)
  pub stood : G.tells → IsFresh r.held → InSource r.whole (moment_of G a) (moment_of G b) Y.ReadFault k

pub record IsSpent {S : Type 0} (G : Ghosts S) (r : Reader) (a b : S) (k : ℕ) : Type 0 where
  pub faults : G.faults b ≡ G.faults a
  pub many : IsFresh r.held → TookMany (G.taken a) (G.taken b)
  pub stood : G.tells → IsFresh r.held → InSource r.whole (moment_of G a) (moment_of G b) Y.Spent k

abbrev pub LeavesBy : {S : Type 0} → How → Ghosts S → Reader → Reader → S → S → ℕ → Type 0
LeavesBy Going G r q a b k = Since G r q a b k
LeavesBy AtEnd G r q a b k = IsPast G r a b
LeavesBy WantsMemory G r q a b k = G.faults b ≡ G.faults a
LeavesBy (CutBy Y.ReadFault) G r q a b k = IsFailed G r a b k
LeavesBy (CutBy Y.Spent) G r q a b k = IsSpent G r a b k

-- what stays, and what is left by how far it came
pub record LeavesLines {J S : Type 0} (makes : J → Makes) (says : J → List (List ℕ) → List ℕ) (G : Ghosts S)
    (how : How) (s z : SourceLines J S) (k : ℕ) : Type 0 where
  pub same : makes z.job.now ≡ makes s.job.now
  pub keeps : Keeps s.reader.now z.reader.now
  pub tool : z.messages.now.tool ≡ s.messages.now.tool
  pub tree : G.tree z.source.now ≡ G.tree s.source.now
  pub asked : Knows s.reader.now.held.ended (G.ended s.source.now)
      → G.asked z.source.now ≡ G.asked s.source.now
  pub knows : Knows s.reader.now.held.ended (G.ended s.source.now)
      → Knows z.reader.now.held.ended (G.ended z.source.now)
  pub opens : G.failed_opens z.source.now ≡ G.failed_opens s.source.now
  pub taken : G.taken z.source.now < 2 ^ 64 - 1 → G.taken s.source.now ≤ G.taken z.source.now
  pub last : G.tells → SaysBy how (says s.job.now) (says z.job.now)
      (to_give s.reader.now (left s.reader.now.held (G.rest s.source.now)))
      (to_give z.reader.now (left z.reader.now.held (G.rest z.source.now)))
  pub leaves : LeavesBy how G s.reader.now z.reader.now s.source.now z.source.now k

-- nothing is left where it begins
pub begins_since : {S : Type 0} (G : Ghosts S) (r : Reader) (a : S) → Since G r r a a 0
begins_since G r a = record {
  faults = refl;
  reads = record {
    later = le_refl r.held.reads;
    taken = λ _. le_refl (r.held.reads + G.taken a);
    ended = λ e. e;
    behind = λ _. ([], refl);
    bytes = λ _. le_refl (r.held.reads + length (G.rest a));
  };
  counts = λ _ _. sym (zero-add (passed r.whole (left r.held (G.rest a))));
  at_end = λ t opened ended. absurd (false≢true (sym opened ∙ ended));
}

pub begins_lines : {J S : Type 0} (makes : J → Makes) (says : J → List (List ℕ) → List ℕ) (G : Ghosts S)
    (s : SourceLines J S) → LeavesLines makes says G Going s s 0
begins_lines makes says G s = record {
  same = refl;
  keeps = record { whole = refl; most = refl };
  tool = refl;
  tree = refl;
  asked = λ _. refl;
  knows = λ k. k;
  opens = refl;
  taken = λ _. le_refl (G.taken s.source.now);
  last = λ _ _. refl;
  leaves = begins_since G s.reader.now s.source.now;
}
