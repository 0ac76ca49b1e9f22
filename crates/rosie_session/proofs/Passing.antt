-- What a run over the lines of a session leaves, line by line and at its end.
use Rattle.std.proofs.Common.{ℕ, ◌≡◌, ◌⊎◌, inl, inr, ◌+◌, Bool, true, false, List, [], ◌∷◌, ◌++◌, length-append}
use Rattle.std.proofs.Common.{refl, sym, ◌∙◌, ap, subst, append_assoc, arith, Result, Ok, Err, Option, Some, None}
use Rattle.std.specs.Prelude.{IfOk, IsErrAnd, codes, encode_utf8_all, slice_get}
use Rattle.std.proofs.lemmas.List.{append-nil}
use Rattle.std.specs.List.{Contains}
use Rattle.rosie_io.specs.Answering.{HasCause, Numbers, Passes, Stops}
use Rattle.rosie_io.specs.Counts.{Rose}
use Rattle.rosie_io.specs.Gathering.{Reads, left}
use Rattle.rosie_io.specs.Lines.{lines}
use Rattle.rosie_io.specs.Reader.{Reader}
use Rattle.rosie_io.specs.declared.outside.Source.{Ghosts}
use Rattle.rosie_io.specs.declared.reader.Line.{Line}
use Rattle.rosie_io.specs.declared.reader.Line.TheVariants as L
use Rattle.rosie_io.specs.declared.reader.LineFault.{LineFault}
use Rattle.rosie_prepare.specs.Prepared.{Tree}
use Rattle.rosie_repl.specs.Session.{begun}
use Rattle.rosie_repl.specs.States.{session_of}
use Rattle.rosie_run.specs.Going.{AtEnd, CutBy, Gives, Going, How, LeavesRun, OnPiece, StoodAt, count_of, how_of}
use Rattle.rosie_run.specs.Report.{Piece, fault_piece}
use Rattle.rosie_run.specs.Outputs.{Telling, Texts}
use Rattle.rosie_run.specs.Runs.{GoesOn, RunReadCause, Runs}
use Rattle.rosie_run.specs.Sources.{Moment, NoFewer, RoseIn, Still, TookMany, moment_of}
use Rattle.rosie_run.specs.Where.{InSource}
use Rattle.rosie_run.specs.declared.ended.Ended.{Ended}
use Rattle.rosie_run.specs.declared.ended.Ended.TheVariants as E
use Rattle.rosie_io.specs.declared.stop.ReadStop.{ReadStop}
use Rattle.rosie_io.specs.declared.stop.ReadStop.TheVariants as Y
use Rattle.rosie_run.specs.declared.mark.Mark.{Mark}
use Rattle.rosie_run.specs.declared.tally.Tally.{Tally}
use Rattle.rosie_run.specs.declared.tool.Tool.TheVariants.{Rosie}
use Rattle.rosie_run.specs.FromLines.{IsFresh, LeavesBy}
use Rattle.rosie_run.specs.Passing.{IsStopOrMemory}
use Rattle.rosie_run.proofs.Breaking.{runs_weaken}
use Rattle.rosie_run.proofs.Coming.{goes_of, goes_some, leaves_of}
use Rattle.rosie_run.proofs.FromLines.{since_next}
use Rattle.rosie_run.proofs.Headlines.{few_of}
use Rattle.rosie_run.proofs.Inward.{still_on}
use Rattle.rpl_package.specs.Asking.{EndsWith, IsTold}
use Rattle.rosie_session.specs.Asked.{AsksRun, AsksTill, AsksTurns, StopsIn, of_next}
use Rattle.rosie_session.specs.Loading.{IsLoading, Loading}
use Rattle.rosie_session.specs.Replay.{Turn, asked_by, pieces_of, turns, turns_from}
use Rattle.rosie_session.specs.Where.{InSession, in_lines, in_load}
use Rattle.rosie_session.specs.declared.run.SessionLines.{SessionLines}
use Rattle.rosie_session.specs.declared.session_end.SessionEnd.{SessionEnd}
use Rattle.rosie_session.specs.declared.session_end.SessionEnd.TheVariants as H
use Rattle.rosie_session.specs.inside.Turning.{Asks, AsksFront}
use Rattle.rosie_session.specs.inside.Passing.{AsksEnd, AsksHow, AsksOf, ComesFrom, FilesOf, GoesOnFrom, IsOver}
use Rattle.rosie_session.specs.inside.Passing.{IsUnread, LeavesHow, LeavesSession, MakesOf, StopsBy, TextFiles, name_of}
use Rattle.rosie_session.specs.inside.Passing.{turns_left}
use Rattle.rosie_session.proofs.Lines.{OneTurn, gives_turn, one_turn}
use Rattle.rosie_session.proofs.Told.{asked_ahead, asked_all, asked_at, asked_more, told_later, told_right}

-- ---- the counts of the files

fewer_on : (f0 f1 f2 : Moment) → Still f0 f1 → NoFewer f1 f2 → NoFewer f0 f2
fewer_on f0 f1 f2 a b =
    let e = a.faults in let f = a.opens in let x = b.faults in let y = b.opens in
    record { faults = omega arith; opens = omega arith }

rose_on : (f0 f1 f2 : Moment) → Still f0 f1 → RoseIn f1 f2 → RoseIn f0 f2
rose_on f0 f1 f2 a (inl r) = inl (subst (λ x. Rose x f2.faults) a.faults r)
rose_on f0 f1 f2 a (inr r) = inr (subst (λ x. Rose x f2.opens) a.opens r)

-- ---- what a line asked for

module _ (all asked0 asked1 : List (List ℕ)) where
  pub memory_end : (e : SessionEnd) → e ≡ H.NoMemory → Asks (Err e) all asked0 asked1
      → AsksFront all asked0 asked1 (λ last. Unit {0})
  memory_end e is a = subst (λ x. Asks (Err x) all asked0 asked1) is a

  unread_by : (ended : Ended) (path : List ℕ) → IsStopOrMemory Y.ReadFault ended
      → AsksFront all asked0 asked1 (EndsWith (encode_utf8_all path)) → AsksEnd ended (Some path) all asked0 asked1
  unread_by E.NoMemory path h a = record { last = a.last; front = a.front; asked = a.asked; holds = tt }
  unread_by E.WriteFault path h a = record { last = a.last; front = a.front; asked = a.asked; holds = tt }
  unread_by (E.Cut why text) path h a =
      record { last = a.last; front = a.front; asked = a.asked; holds = (h, a.holds) }

  -- a file that it asked for wasn't read
  pub unread_end : (e : SessionEnd) (path : List ℕ) (ended : Ended) (unread : Option (List ℕ)) → e ≡ H.Unread path
      → unread ≡ Some path → IsStopOrMemory Y.ReadFault ended → Asks (Err e) all asked0 asked1
      → AsksEnd ended unread all asked0 asked1
  unread_end e path ended unread is kept h a =
      subst (λ o. AsksEnd ended o all asked0 asked1) (sym kept)
      (unread_by ended path h (subst (λ x. Asks (Err x) all asked0 asked1) is a))

-- ---- from line to line

-- what the reader says of its answer
pub record Read {F I : Type 0} (H : Ghosts I) (y z : SessionLines F I) (found : Result Line LineFault) : Type 0 where
  pub numbers : Numbers found y.kept.now.reader z.kept.now.reader
  pub passes : H.tells → Passes found y.kept.now.reader z.kept.now.reader
      (left y.kept.now.reader.held (H.rest y.input.now)) (left z.kept.now.reader.held (H.rest z.input.now))
  pub cause : HasCause found (H.faults y.input.now) (H.faults z.input.now)
  pub stops : Stops found H.tells y.kept.now.reader z.kept.now.reader (H.rest y.input.now) (H.rest z.input.now)

module _ {F I : Type 0} (G : Ghosts F) (H : Ghosts I) (y z : SessionLines F I) (goes : GoesOnFrom y) (out err : List ℕ)
    (steps0 steps1 : ℕ) where
  -- and what is made of it
  abbrev pub Makes : Result Line LineFault → Result (Option Mark) Ended → Type 0
  Makes found result =
      MakesOf G.tells (G.tree y.files.now) y.folders.now found result z.kept.now.reader.number z.kept.now.reader.text
      (session_of y.kept.now.state) (session_of z.kept.now.state) out err steps0 steps1

  -- the paths that it asked for, and the counts of the files
  abbrev pub Opens : Result Line LineFault → Result (Option Mark) Ended → Type 0
  Opens found result =
      AsksOf G.tells (G.tree y.files.now) y.folders.now found result z.kept.now.reader.number z.kept.now.reader.text
      (session_of y.kept.now.state) z.kept.now.unread (G.asked y.files.now) (G.asked z.files.now)
      × FilesOf found result z.kept.now.unread (moment_of G y.files.now) (moment_of G z.files.now)

  abbrev pub One : Loading → Result (Option Mark) Ended → Type 0
  One w r =
      OneTurn w y.kept.now.reader z.kept.now.reader (session_of y.kept.now.state) (session_of z.kept.now.state)
      (left y.kept.now.reader.held (H.rest y.input.now)) (left z.kept.now.reader.held (H.rest z.input.now)) goes.parts
      goes.most
      r z.kept.now.unread (G.asked y.files.now) (G.asked z.files.now) out err steps0 steps1

  pub one : (found : Result Line LineFault) (result : Result (Option Mark) Ended) → Read H y z found
      → Makes found result → Opens found result
      → (w : Loading) → IsOver G H w y → One w result
  one found result r m a w o =
      one_turn w y.kept.now.reader z.kept.now.reader (session_of y.kept.now.state) (session_of z.kept.now.state)
      (left y.kept.now.reader.held (H.rest y.input.now)) (left z.kept.now.reader.held (H.rest z.input.now)) goes.parts
      goes.most z.kept.now.unread (G.asked y.files.now) (G.asked z.files.now)
      out err steps0 steps1 G.tells (G.tree y.files.now) y.folders.now found result (moment_of G y.files.now)
      (moment_of G z.files.now) o.loads o.told r.numbers (r.passes o.input) m a.0 a.1

  module _ (s : SessionLines F I) (k : ℕ) (h : LeavesSession G H Going s y k)
      (reads : Reads H.tells y.kept.now.reader.held z.kept.now.reader.held (H.rest y.input.now) (H.rest z.input.now)
      (H.taken y.input.now) (H.taken z.input.now))
      (at_end : H.tells → y.kept.now.reader.held.ended ≡ false → z.kept.now.reader.held.ended ≡ true
      → H.rest z.input.now ≡ [])
      (ended : y.kept.now.reader.held.ended ≡ true → z.input.now ≡ y.input.now) where
    -- the loading is the same as where the run began
    over : (w : Loading) → IsOver G H w s → IsOver G H w y
    over w o =
        let d = h.asks w o in record {
          input = o.input;
          loads = subst (λ x. IsLoading (G.tree y.files.now) x w) (sym h.folders)
              (subst (λ (x : Tree). IsLoading x s.folders.now w) (sym h.tree) o.loads);
          told = told_later G.tells (turns_left H w s) d.0 (turns_left H w y) d.1 o.told;
        }

    -- the paths that are asked for by then
    asks_by : (r : Result (Option Mark) Ended) (w : Loading) → IsOver G H w s → One w r
        → AsksHow (how_of r) (turns_left H w s) (turns_left H w z) (G.asked s.files.now) (G.asked z.files.now)
        z.kept.now.unread (count_of r k)
    asks_by (Ok (Some mark)) w o t =
        let d = h.asks w o in (
          d.0 ++ t.0 ∷ [],
          d.1 ∙ ap (λ ts. d.0 ++ ts) t.1 ∙ sym (append_assoc d.0 (t.0 ∷ []) (turns_left H w z)),
          let c = d.2 in omega (arith, length-append d.0 (t.0 ∷ [])),
          asked_more d.0 t.0 (G.asked s.files.now) (G.asked y.files.now) (G.asked z.files.now) d.3 t.4,
        )
    asks_by (Ok None) w o t =
        let d = h.asks w o in
        t.2 ∙ asked_all (turns_left H w s) d.0 (turns_left H w y) (G.asked s.files.now) (G.asked y.files.now) d.1 t.0
        d.3
    asks_by (Err (E.Cut why text)) w o t =
        let d = h.asks w o in (
          t.1.last,
          t.1.holds,
          asked_ahead (turns_left H w s) d.0 (turns_left H w y) k (G.asked s.files.now) (G.asked y.files.now)
              (G.asked z.files.now) t.1.last d.1 d.2 d.3 t.1.front t.1.asked,
        )
    asks_by (Err _) w o t =
        let d = h.asks w o in (
          t.1.last,
          asked_ahead (turns_left H w s) d.0 (turns_left H w y) k (G.asked s.files.now) (G.asked y.files.now)
              (G.asked z.files.now) t.1.last d.1 d.2 d.3 t.1.front t.1.asked,
        )

    pub asks_next : (found : Result Line LineFault) (result : Result (Option Mark) Ended) → Read H y z found
        → Makes found result → Opens found result → (w : Loading) → IsOver G H w s
        → AsksHow (how_of result) (turns_left H w s) (turns_left H w z) (G.asked s.files.now) (G.asked z.files.now)
        z.kept.now.unread (count_of result k)
    asks_next found result r m a w o = asks_by result w o (one found result r m a w (over w o))

    -- by an answer that hangs on the reader alone
    by_reader : (r : Result (Option Mark) Ended)
        → LeavesBy (how_of r) H s.kept.now.reader z.kept.now.reader s.input.now z.input.now (count_of r k)
        → Still (moment_of G s.files.now) (moment_of G z.files.now) → z.kept.now.unread ≡ None
        → LeavesHow (how_of r) G H s z (count_of r k)
    by_reader (Ok (Some mark)) l f u = (l, f)
    by_reader (Ok None) l f u = (l, f)
    by_reader (Err (E.Cut why text)) l f u = inl (l, f, u)
    by_reader (Err _) l f u = (l, few_of (moment_of G s.files.now) (moment_of G z.files.now) f)

    text_leaves : (result : Result (Option Mark) Ended) → Read H y z (Ok L.Text)
        → TextFiles result z.kept.now.unread (moment_of G y.files.now) (moment_of G z.files.now)
        → LeavesHow (how_of result) G H s z (count_of result k)
    text_leaves (Ok (Some mark)) r f = (
      since_next H s.kept.now.reader y.kept.now.reader s.input.now y.input.now k h.leaves.0 h.keeps.whole
          z.kept.now.reader
          z.input.now reads r.cause (λ t. (z.kept.now.reader.text, (r.passes t).0)) at_end ended,
      still_on (moment_of G s.files.now) (moment_of G y.files.now) (moment_of G z.files.now) h.leaves.1 f,
    )
    text_leaves (Err E.NoMemory) r f = (
      r.cause ∙ h.leaves.0.faults,
      fewer_on (moment_of G s.files.now) (moment_of G y.files.now)
          (moment_of G z.files.now) h.leaves.1 f,
    )
    text_leaves (Err (E.Cut why text)) r f = inr (
      f.0,
      record {
        faults = r.cause ∙ h.leaves.0.faults;
        fewer = fewer_on (moment_of G s.files.now) (moment_of G y.files.now) (moment_of G z.files.now) h.leaves.1 f.1;
        rose = rose_on (moment_of G s.files.now) (moment_of G y.files.now) (moment_of G z.files.now) h.leaves.1 f.2;
        unread = f.3;
      },
    )
    text_leaves _ r f = absurd f

    pub leaves_next : (found : Result Line LineFault) (result : Result (Option Mark) Ended) → Read H y z found
        → Makes found result
        → FilesOf found result z.kept.now.unread (moment_of G y.files.now) (moment_of G z.files.now)
        → LeavesHow (how_of result) G H s z (count_of result k)
    leaves_next (Ok L.Text) result r m f = text_leaves result r f
    leaves_next (Ok L.End) result r m f =
        subst (λ x. LeavesHow (how_of x) G H s z (count_of x k)) (sym m.0) (
          leaves_of (λ file n line. fault_piece []) Rosie (codes "(session)") y.kept.now.reader z.kept.now.reader [] []
              out err steps0
              steps1 H s.kept.now.reader s.input.now y.input.now z.input.now k h.leaves.0 h.keeps.whole reads at_end
              ended (Ok L.End)
              (Ok None) (refl, m.1) r.numbers r.passes r.cause r.stops,
          still_on (moment_of G s.files.now) (moment_of G y.files.now) (moment_of G z.files.now) h.leaves.1 f,
        )
    leaves_next (Err fault) result r m f =
        by_reader result
        (leaves_of (λ file n line. fault_piece []) Rosie (codes "(session)") y.kept.now.reader z.kept.now.reader [] []
        out err steps0
        steps1 H s.kept.now.reader s.input.now y.input.now z.input.now k h.leaves.0 h.keeps.whole reads at_end ended
        (Err fault)
        result m.0 r.numbers r.passes r.cause r.stops)
        (still_on (moment_of G s.files.now) (moment_of G y.files.now) (moment_of G z.files.now) h.leaves.1 f.0) f.1

  -- what is to come after the line
  over_next : (w : Loading) (t : Turn) → z.folders.now ≡ y.folders.now → G.tree z.files.now ≡ G.tree y.files.now
      → IsOver G H w y → turns_left H w y ≡ t ∷ turns_left H w z → IsOver G H w z
  over_next w t folders tree o next = record {
    input = o.input;
    loads = subst (λ x. IsLoading (G.tree z.files.now) x w) (sym folders)
        (subst (λ (x : Tree). IsLoading x y.folders.now w) (sym tree) o.loads);
    told = told_right G.tells t.asked (asked_by (turns_left H w z))
        (subst (λ ts. IsTold G.tells (asked_by ts)) next o.told);
  }

  pub gives_next : (found : Result Line LineFault) (result : Result (Option Mark) Ended) → Read H y z found
      → Makes found result → Opens found result
      → z.folders.now ≡ y.folders.now → G.tree z.files.now ≡ G.tree y.files.now → (ps : List Piece) → ComesFrom G H y ps
      → Gives result ps (ComesFrom G H z) out err steps0 steps1
  gives_next found result r m a folders tree ps c =
      let w = c.loading in
      subst (λ x. Gives result x (ComesFrom G H z) out err steps0 steps1) (sym c.is)
      (gives_turn w y.kept.now.reader z.kept.now.reader (session_of y.kept.now.state) (session_of z.kept.now.state)
      (left y.kept.now.reader.held (H.rest y.input.now)) (left z.kept.now.reader.held (H.rest z.input.now)) goes.parts
      goes.most z.kept.now.unread (G.asked y.files.now) (G.asked z.files.now)
      out err steps0 steps1 result (ComesFrom G H z)
      (λ t next. record { loading = w; over = over_next w t folders tree c.over next; is = refl })
      (one found result r m a w c.over))

  -- how many lines were passed, and whether there may be more
  abbrev pub Counts : Type 0
  Counts = (z.kept.now.reader.number ≡ y.kept.now.reader.number + 1) × (z.kept.now.reader.done ≡ false)

  pub goes_next : (found : Result Line LineFault) (result : Result (Option Mark) Ended)
      → Numbers found y.kept.now.reader z.kept.now.reader → Makes found result → OnPiece result Counts
  goes_next (Ok L.Text) result n m = goes_some result Counts n
  goes_next (Ok L.End) result n m = subst (λ x. OnPiece x Counts) (sym m.0) tt
  goes_next (Err fault) result n m =
      goes_of (λ file n line. fault_piece []) Rosie (codes "(session)") y.kept.now.reader z.kept.now.reader [] [] out
      err steps0
      steps1 (Err fault) result m.0 n

-- ---- at its end

module _ {F I : Type 0} (G : Ghosts F) (H : Ghosts I) (s z : SessionLines F I) (fresh : IsFresh s.kept.now.reader.held)
    (parts : s.kept.now.reader.whole ≡ false) where
  abbrev i0 : Moment
  i0 = moment_of H s.input.now

  abbrev i1 : Moment
  i1 = moment_of H z.input.now

  abbrev f0 : Moment
  f0 = moment_of G s.files.now

  abbrev f1 : Moment
  f1 = moment_of G z.files.now

  abbrev Leaves : How → ℕ → Type 0
  Leaves how k = LeavesSession G H how s z k

  still : H.faults z.input.now ≡ H.faults s.input.now → H.failed_opens z.input.now ≡ H.failed_opens s.input.now
      → Still i0 i1
  still f o = record { faults = f; opens = o }

  ok_cause : (stop : Bool) (k : ℕ) → (stop ≡ true → Leaves Going k) → (stop ≡ false → Leaves AtEnd k)
      → Still i0 i1 × Still f0 f1
  ok_cause true k g e = let h = g refl in (still h.leaves.0.faults h.opens, h.leaves.1)
  ok_cause false k g e = let h = e refl in (still h.leaves.0.faults h.opens, h.leaves.1)

  failed : (k : ℕ) → Leaves (CutBy Y.ReadFault) k → NoFewer i0 i1 × NoFewer f0 f1 × (RoseIn i0 i1 ⊎ RoseIn f0 f1)
  failed k h = by h.leaves where
    by : LeavesHow (CutBy Y.ReadFault) G H s z k → NoFewer i0 i1 × NoFewer f0 f1 × (RoseIn i0 i1 ⊎ RoseIn f0 f1)
    by (inl l) = let o = h.opens in
        (record { faults = l.0.fewer; opens = omega arith }, few_of f0 f1 l.1, inl (inl l.0.rose))
    by (inr l) = (few_of i0 i1 (still l.1.faults h.opens), l.1.fewer, inr l.1.rose)

  spent : (k : ℕ) → Leaves (CutBy Y.Spent) k → Still i0 i1 × Still f0 f1
      × (TookMany i0.taken i1.taken ⊎ TookMany f0.taken f1.taken)
  spent k h = by h.leaves where
    by : LeavesHow (CutBy Y.Spent) G H s z k → Still i0 i1 × Still f0 f1
        × (TookMany i0.taken i1.taken ⊎ TookMany f0.taken f1.taken)
    by (inl l) = (still l.0.faults h.opens, l.1, inl (l.0.many fresh))
    by (inr l) = absurd (let e = l.0 in cc)

  pub session_cause : (r : Result Tally Ended) → LeavesRun r (λ how k. LeavesSession G H how s z k)
      → RunReadCause r i0 i1 f0 f1
  session_cause (Ok tally) h = ok_cause tally.stop h.0 h.1 h.2
  session_cause (Err E.NoMemory) h = (still h.1.leaves.0 h.1.opens, h.1.leaves.1)
  session_cause (Err E.WriteFault) h = (still h.1.leaves.0.faults h.1.opens, h.1.leaves.1)
  session_cause (Err (E.Cut Y.ReadFault text)) h = failed h.0 h.1
  session_cause (Err (E.Cut Y.Spent text)) h = spent h.0 h.1

  pub session_rest : (r : Result Tally Ended) → H.tells → LeavesRun r (λ how k. LeavesSession G H how s z k)
      → GoesOn r (H.rest z.input.now ≡ [])
  session_rest (Ok tally) t h = λ goes. (h.2 goes).leaves.0.rest t fresh
  session_rest (Err e) t h = tt

  in_source : (why : ReadStop) (k : ℕ) → H.tells
      → LeavesBy (CutBy why) H s.kept.now.reader z.kept.now.reader s.input.now z.input.now k
      → InSource false i0 i1 why k
  in_source Y.ReadFault k t l = subst (λ b. InSource b i0 i1 Y.ReadFault k) parts (l.stood t fresh)
  in_source Y.Spent k t l = subst (λ b. InSource b i0 i1 Y.Spent k) parts (l.stood t fresh)

  unread_last : (why : ReadStop) (unread : Option (List ℕ)) (last : List (List ℕ)) → IsUnread unread
      → StopsBy why unread last → EndsWith (name_of unread) last
  unread_last why None last h stops = absurd h
  unread_last why (Some path) last h stops = stops.1

  -- where reading stood
  pub session_stood : (w : Loading) → IsOver G H w s → turns_left H w s ≡ turns w (H.rest s.input.now)
      → (why : ReadStop)
      (file : List ℕ) (k : ℕ) → StoodAt (λ how n. LeavesSession G H how s z n) (name_of z.kept.now.unread) why file k
      → InSession w (H.rest s.input.now) i0 i1 f0 f1 why file k
  session_stood w o all why file k h = by h.1.leaves where
    by : LeavesHow (CutBy why) G H s z k → InSession w (H.rest s.input.now) i0 i1 f0 f1 why file k
    by (inl l) = in_lines (h.0 ∙ ap name_of l.2, in_source why k o.input l.0)
    by (inr l) =
        let a = h.1.asks w o in
        let t = asked_at (turns_left H w s) (G.asked s.files.now) (G.asked z.files.now) k a.0
        (name_of z.kept.now.unread) a.2 (unread_last why z.kept.now.unread a.0 l.1.unread a.1) in
        in_load t.0 (ap (λ ts. slice_get ts k) (sym all) ∙ t.1) (subst (Contains t.0.asked) (sym h.0) t.2) l.0 l.1.rose

  -- ---- the paths that were asked for

  stops_in : (why : ReadStop) (unread : Option (List ℕ)) (file : List ℕ) (last : List (List ℕ)) → file ≡ name_of unread
      → StopsBy why unread last → StopsIn why file last
  stops_in why None file last is stops = inl (is, stops)
  stops_in why (Some path) file last is stops =
      inr (stops.0, subst (λ name. EndsWith name last) (sym is) stops.1)

  asks_till : (w : Loading) → IsOver G H w s → (why : ReadStop) (file : List ℕ) (k : ℕ)
      → StoodAt (λ how n. LeavesSession G H how s z n) (name_of z.kept.now.unread) why file k
      → AsksTill (turns_left H w s) (G.asked s.files.now) (G.asked z.files.now) why file k
  asks_till w o why file k h =
      let a = h.1.asks w o in (a.0, stops_in why z.kept.now.unread file a.0 h.0 a.1, a.2)

  asks_turns : (w : Loading) (k : ℕ) → IsOver G H w s → Leaves Going k
      → AsksTurns (turns_left H w s) (G.asked s.files.now) (G.asked z.files.now) k []
  asks_turns w k o h =
      let d = h.asks w o in
      asked_ahead (turns_left H w s) d.0 (turns_left H w z) k (G.asked s.files.now) (G.asked z.files.now)
      (G.asked z.files.now) [] d.1 d.2 d.3 (of_next (turns_left H w z), refl) (sym (append-nil (G.asked z.files.now)))

  -- by the result of the run
  pub session_asks : (r : Result Tally Ended) (W : Telling) (a b : Texts) (w : Loading) → IsOver G H w s
      → LeavesRun r (λ how k. LeavesSession G H how s z k) → IfOk r (λ tally. tally.stop ≡ false)
      → Runs r W (pieces_of (turns_left H w s)) (StoodAt (λ how n. LeavesSession G H how s z n)
      (name_of z.kept.now.unread)) a b
      → AsksRun r W (turns_left H w s) (G.asked s.files.now) (G.asked z.files.now) a b
  session_asks (Ok tally) W a b w o h goes runs = (h.2 goes).asks w o
  session_asks (Err E.NoMemory) W a b w o h goes runs = let m = h.1.asks w o in (h.0, m.0, m.1)
  session_asks (Err E.WriteFault) W a b w o h goes runs = (h.0, asks_turns w h.0 o h.1)
  session_asks (Err (E.Cut why text)) W a b w o h goes runs =
      runs_weaken W (Err (E.Cut why text)) (pieces_of (turns_left H w s))
      (StoodAt (λ how n. LeavesSession G H how s z n) (name_of z.kept.now.unread))
      (AsksTill (turns_left H w s) (G.asked s.files.now) (G.asked z.files.now)) a b (asks_till w o) runs

-- memory ran out before anything was asked for
pub none_ran : (r : Result Tally Ended) (W : Telling) (all : List Turn) (asked0 asked1 : List (List ℕ)) (a b : Texts)
    → IsErrAnd r (λ e. e ≡ E.NoMemory) → asked1 ≡ asked0 → AsksRun r W all asked0 asked1 a b
none_ran (Ok tally) W all asked0 asked1 a b none same = absurd none
none_ran (Err e) W all asked0 asked1 a b none same =
    subst (λ x. AsksRun (Err x) W all asked0 asked1 a b) (sym none) (
      0,
      [],
      record {
        passed = [];
        more = all;
        split = refl;
        count = refl;
        asked = same ∙ sym (append-nil asked0);
        front = (of_next all, refl);
      },
    )

-- where nothing was read yet, all turns are to come
pub turns_begun : {F I : Type 0} (H : Ghosts I) (w : Loading) (s : SessionLines F I) (r : Reader)
    → s.kept.now.reader ≡ r
    → r.number ≡ 0 → IsFresh r.held → session_of s.kept.now.state ≡ begun
    → turns_left H w s ≡ turns w (H.rest s.input.now)
turns_begun H w s r e n fresh b =
    let rest = H.rest s.input.now in
    ap (λ (x : Reader). turns_from w x.number (session_of s.kept.now.state) (lines false (left x.held rest))) e
    ∙ ap (λ k. turns_from w k (session_of s.kept.now.state) (lines false (left r.held rest))) n
    ∙ ap (λ x. turns_from w 0 (session_of s.kept.now.state) (lines false (left x rest))) fresh
    ∙ ap (λ x. turns_from w 0 x (lines false rest)) b
