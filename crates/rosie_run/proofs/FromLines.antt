-- The lines of a source as pieces: from line to line, and where reading ends them.
use Rattle.std.proofs.Common.{ℕ, ◌≡◌, inl, ◌+◌, ◌^◌, ◌≤◌, Bool, true, false, List, [], ◌++◌, length, refl, sym, ◌∙◌, ap}
use Rattle.std.proofs.Common.{subst, append_assoc, arith}
use Rattle.rosie_io.specs.Counts.{Rose}
use Rattle.rosie_io.specs.Gathering.{NoFeed, Reads, Splits, left}
use Rattle.rosie_io.specs.Held.{Held}
use Rattle.rosie_io.specs.Lines.{feeds}
use Rattle.rosie_io.specs.Reader.{Reader}
use Rattle.rosie_io.specs.declared.outside.Source.{Ghosts}
use Rattle.rosie_io.proofs.Steps.{behind_more}
use Rattle.std.specs.Prelude.{Result, Ok, Err}
use Rattle.rosie_run.specs.Going.{AtEnd, CutBy, Going, How, LeavesRun, StoodAt, WantsMemory}
use Rattle.rosie_run.specs.Lines.{Makes, passed}
use Rattle.rosie_run.specs.Runs.{RunFilesCause, GoesOn}
use Rattle.rosie_run.specs.Sources.{Ends, Still, TookMany, moment_of}
use Rattle.rosie_run.specs.Where.{InNamed, InSource}
use Rattle.rosie_run.specs.declared.ended.Ended.{Ended}
use Rattle.rosie_run.specs.declared.ended.Ended.TheVariants as E
use Rattle.rosie_run.specs.declared.lines.SourceLines.{SourceLines}
use Rattle.rosie_run.specs.declared.tally.Tally.{Tally}
use Rattle.rosie_io.specs.declared.stop.ReadStop.{ReadStop}
use Rattle.rosie_io.specs.declared.stop.ReadStop.TheVariants as Y
use Rattle.rosie_run.specs.FromLines.{IsFailed, IsFresh, IsPast, IsSpent, LeavesLines, Since, to_give}
use Rattle.rosie_run.proofs.Onward.{end_next, is_open, passed_cut, passed_next}

reads_on : (tells : Type 0) (h p q : Held) (r0 r1 r2 : List ℕ) (t0 t1 t2 : ℕ) → Reads tells h p r0 r1 t0 t1
    → Reads tells p q r1 r2 t1 t2 → Reads tells h q r0 r2 t0 t2
reads_on tells h p q r0 r1 r2 t0 t1 t2 x y = record {
  later = let a = x.later in let b = y.later in omega arith;
  taken = λ lt. let b = y.taken lt in let l = y.later in let a = x.taken (omega arith) in omega arith;
  ended = λ e. y.ended (x.ended e);
  behind = λ t. behind_more r0 r1 r2 (y.behind t).0 (x.behind t) (y.behind t).1;
  bytes = λ t. let a = x.bytes t in let b = y.bytes t in omega arith;
}

module _ {S : Type 0} (G : Ghosts S) (r q : Reader) (a b : S) (k : ℕ) (h : Since G r q a b k) (whole :
    q.whole ≡ r.whole) (q' : Reader) (b' : S) (reads :
    Reads G.tells q.held q'.held (G.rest b) (G.rest b') (G.taken b) (G.taken b')) where
  over : Reads G.tells r.held q'.held (G.rest a) (G.rest b') (G.taken a) (G.taken b')
  over = reads_on G.tells r.held q.held q'.held (G.rest a) (G.rest b) (G.rest b') (G.taken a) (G.taken b) (G.taken b')
      h.reads reads

  -- one line more was passed
  pub since_next : G.faults b' ≡ G.faults b
      → (G.tells → (line : List ℕ)
      × Splits q.whole q'.held.ended line (left q.held (G.rest b)) (left q'.held (G.rest b')))
      → (G.tells → q.held.ended ≡ false → q'.held.ended ≡ true → G.rest b' ≡ []) → (q.held.ended ≡ true → b' ≡ b)
      → Since G r q' a b' (k + 1)
  since_next faults splits at_end ended = record {
    faults = faults ∙ h.faults;
    reads = over;
    counts = λ t opened.
        let s = rw whole at (splits t) in
        passed_next r.whole q'.held.ended (left r.held (G.rest a)) (left q.held (G.rest b)) (left q'.held (G.rest b'))
        s.0 k (k + 1) refl s.1 opened (h.counts t (is_open q.held.ended q'.held.ended reads.ended opened));
    at_end = λ t o. end_next q.held.ended q'.held.ended (G.rest b) (G.rest b') (h.at_end t o) (at_end t)
        (λ e. ap G.rest (ended e));
  }

  -- there is no further line
  pub past_next : G.faults b' ≡ G.faults b → (G.tells → q.held.ended ≡ false → q'.held.ended ≡ true → G.rest b' ≡ [])
      → (q.held.ended ≡ true → b' ≡ b) → q'.held.ended ≡ true → IsPast G r a b'
  past_next faults at_end ended now = record {
    faults = faults ∙ h.faults;
    rest = λ t fresh. end_next q.held.ended q'.held.ended (G.rest b) (G.rest b')
        (h.at_end t (ap (λ (x : Held). x.ended) fresh)) (at_end t) (λ e. ap G.rest (ended e)) now;
  }

  cut_in : (why : ReadStop) (got : List ℕ) → G.tells → IsFresh r.held → Ends why (moment_of G a) (moment_of G b')
      → q.held.ended ≡ false → G.rest b ≡ got ++ G.rest b' → (q.whole ≡ false → feeds (q.held.bytes ++ got) ≡ 0)
      → (why ≡ Y.Spent → 2 ^ 32 ≤ length (G.rest a)) → InSource r.whole (moment_of G a) (moment_of G b') why k
  cut_in why got t fresh ends opened took none long =
      let before = h.reads.behind t in record {
        got = before.0 ++ got;
        ends = ends;
        took = before.1 ∙ ap (λ xs. before.0 ++ xs) took ∙ sym (append_assoc before.0 got (G.rest b'));
        count = passed_cut r.whole q.held (G.rest a) (G.rest b) (G.rest b') before.0 got k opened
            (sym (ap (λ x. passed r.whole (left x (G.rest a))) fresh)
            ∙ h.counts t opened) before.1 took (λ w. none (whole ∙ w));
        long = long;
      }

  -- a read failed, or all reads are made
  module _ (got : (xs : List ℕ) × NoFeed q.whole G.tells q.held.bytes (G.rest b) (G.rest b') xs) (opened :
      q.held.ended ≡ false) where
    pub stops_failed : (G.faults b ≤ G.faults b') × Rose (G.faults b) (G.faults b') → IsFailed G r a b' k
    stops_failed f =
        let rose = subst (λ x. Rose x (G.faults b')) h.faults f.1 in record {
          fewer = let e = h.faults in let l = f.0 in omega arith;
          rose = rose;
          stood = λ t fresh. cut_in Y.ReadFault got.0 t fresh rose opened (got.1.took t) got.1.none (λ x. absurd (cc));
        }

    pub stops_spent : G.faults b' ≡ G.faults b → q'.held.reads ≡ 2 ^ 32 → IsSpent G r a b' k
    stops_spent faults all =
        let many : IsFresh r.held → TookMany (G.taken a) (G.taken b') = λ fresh lt. let x = over.taken lt in
        let z = ap (λ (w : Held). w.reads) fresh in omega arith in record {
          faults = faults ∙ h.faults;
          many = many;
          stood = λ t fresh. cut_in Y.Spent got.0 t fresh (many fresh) opened (got.1.took t) got.1.none (λ _. let x =
              over.bytes t in let z = ap (λ (w : Held). w.reads) fresh in omega arith);
        }

-- ---- what the run over them leaves

some_by : (stop : Bool) (L : How → ℕ → Type 0) (k : ℕ) → (stop ≡ true → L Going k) → (stop ≡ false → L AtEnd k)
    → (how : How) × (n : ℕ) × L how n
some_by true L k g e = (Going, k, g refl)
some_by false L k g e = (AtEnd, k, e refl)

-- whatever a run leaves, it leaves for some way of ending and some number of pieces
pub some_left : (r : Result Tally Ended) (L : How → ℕ → Type 0) → LeavesRun r L → (how : How) × (k : ℕ) × L how k
some_left (Ok tally) L h = some_by tally.stop L h.0 h.1 h.2
some_left (Err E.NoMemory) L h = (WantsMemory, h.0, h.1)
some_left (Err E.WriteFault) L h = (Going, h.0, h.1)
some_left (Err (E.Cut why text)) L h = (CutBy why, h.0, h.1)

module _ {J S : Type 0} (makes : J → Makes) (says : J → List (List ℕ) → List ℕ) (G : Ghosts S) (s z : SourceLines J S)
    (fresh : IsFresh s.reader.now.held) where
  abbrev L : How → ℕ → Type 0
  L how k = LeavesLines makes says G how s z k

  still : G.faults z.source.now ≡ G.faults s.source.now → G.failed_opens z.source.now ≡ G.failed_opens s.source.now
      → Still (moment_of G s.source.now) (moment_of G z.source.now)
  still f o = record { faults = f; opens = o }

  ok_cause : (stop : Bool) (k : ℕ) → (stop ≡ true → L Going k) → (stop ≡ false → L AtEnd k)
      → Still (moment_of G s.source.now) (moment_of G z.source.now)
  ok_cause true k g e = let h = g refl in still h.leaves.faults h.opens
  ok_cause false k g e = let h = e refl in still h.leaves.faults h.opens

  -- the counts of the source
  pub lines_cause : (r : Result Tally Ended) → LeavesRun r (λ how k. LeavesLines makes says G how s z k)
      → RunFilesCause r (moment_of G s.source.now) (moment_of G z.source.now)
  lines_cause (Ok tally) h = ok_cause tally.stop h.0 h.1 h.2
  lines_cause (Err E.NoMemory) h = still h.1.leaves h.1.opens
  lines_cause (Err E.WriteFault) h = still h.1.leaves.faults h.1.opens
  lines_cause (Err (E.Cut Y.ReadFault text)) h = let o = h.1.opens in
      (record { faults = h.1.leaves.fewer; opens = omega arith }, inl h.1.leaves.rose)
  lines_cause (Err (E.Cut Y.Spent text)) h = (still h.1.leaves.faults h.1.opens, h.1.leaves.many fresh)

  -- at its end nothing is left
  pub lines_rest : (r : Result Tally Ended) → G.tells → LeavesRun r (λ how k. LeavesLines makes says G how s z k)
      → GoesOn r (G.rest z.source.now ≡ [])
  lines_rest (Ok tally) t h = λ goes. (h.2 goes).leaves.rest t fresh
  lines_rest (Err e) t h = tt

  -- and what is said at the end is so by all its lines
  pub lines_last : (r : Result Tally Ended) → G.tells → LeavesRun r (λ how k. LeavesLines makes says G how s z k)
      → GoesOn r ((more : List (List ℕ)) → says z.job.now more
      ≡ says s.job.now (to_give s.reader.now (left s.reader.now.held (G.rest s.source.now)) ++ more))
  lines_last (Ok tally) t h = λ goes. (h.2 goes).last t
  lines_last (Err e) t h = tt

  -- where reading stood
  pub lines_stood : (name : List ℕ) → G.tells → (why : ReadStop) (file : List ℕ) (k : ℕ)
      → StoodAt (λ how n. LeavesLines makes says G how s z n) name why file k
      → InNamed name s.reader.now.whole (moment_of G s.source.now) (moment_of G z.source.now) why file k
  lines_stood name t Y.ReadFault file k h = (h.0, h.1.leaves.stood t fresh)
  lines_stood name t Y.Spent file k h = (h.0, h.1.leaves.stood t fresh)
