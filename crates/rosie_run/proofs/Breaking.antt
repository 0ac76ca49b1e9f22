-- A run that comes to its end, or breaks off: from one part of it to all of it.
use Rattle.std.proofs.Common.{ℕ, ◌≡◌, ◌+◌, ◌-◌, ◌^◌, ◌≤◌, Bool, true, false, cond, List, [], ◌∷◌, ◌++◌, length, refl}
use Rattle.std.proofs.Common.{sym, ◌∙◌, ap, subst, arith}
use Rattle.std.specs.Prelude.{Some, None, Result, IfErr, IsErrAnd, Ok, Err, codes, string_bytes}
use Rattle.rosie_io.specs.Counts.{Rose, capped}
use Rattle.rosie_io.specs.Opening.{file_of}
use Rattle.rosie_run.specs.Runs.{RunFilesCause, HidesNoRead, CutShort, Breaks, Runs, IsCutOf, IsNoCut}
use Rattle.rosie_run.specs.Inputs.{is_standard, file_pieces, one_pieces}
use Rattle.rosie_run.specs.Lines.{Makes, input_message, input_pieces}
use Rattle.rosie_run.specs.Outputs.{Telling, Texts, Wrote, IsFront, Fronts}
use Rattle.rosie_run.specs.Report.{Piece, has, is_stop, up_to_stop, stop_piece}
use Rattle.rosie_run.specs.Tallies.{tally_of, counted, added}
use Rattle.rosie_run.specs.Sources.{Moment, Ends, Still, TookMany}
use Rattle.rosie_run.specs.Where.{Nowhere, not_opened, opened, InNamed}
use Rattle.rosie_run.specs.inside.Where.{InFileNamed, InOne, of_standard, of_file}
use Rattle.rosie_io.specs.Lines.{lines}
use Rattle.rosie_run.specs.declared.ended.Ended.{Ended}
use Rattle.rosie_run.specs.declared.ended.Ended.TheVariants as E
use Rattle.rosie_io.specs.declared.stop.ReadStop.{ReadStop}
use Rattle.rosie_io.specs.declared.stop.ReadStop.TheVariants.{ReadFault, Spent}
use Rattle.rosie_run.specs.declared.lines.Reading.{Reading}
use Rattle.rosie_run.specs.Made.{IsMade}
use Rattle.rosie_run.specs.declared.mark.Mark.{Mark}
use Rattle.rosie_run.specs.declared.tally.Tally.{Tally}
use Rattle.rosie_run.proofs.Onward.{up_alone, lines_none, pieces_none}
use Rattle.rosie_run.proofs.Pieces.{up_nil, outs_one, errs_one, costs_one, has_nil, tally_one, tally_append, up_append}
use Rattle.rosie_run.proofs.Pieces.{wrote_none, fronts_none, fronts_whole, fronts_longer}

pub add_none : (n : ℕ) → n ≡ n + 0
add_none n = omega arith

-- a run that isn't ended by reading leaves the counts of the files
pub files_still : (s : Result Tally Ended) (f0 f1 : Moment) → IfErr s IsNoCut → f1.faults ≡ f0.faults
    → f1.opens ≡ f0.opens → RunFilesCause s f0 f1
files_still (Err (E.Cut why text)) f0 f1 none f o = absurd none
files_still _ f0 f1 none f o = record { faults = f; opens = o }

-- want of memory hides no failed read, by why the run ended
pub hides_by_cause : (s : Result Tally Ended) (f0 f1 : Moment) → RunFilesCause s f0 f1 → HidesNoRead s f0 f1
hides_by_cause (Err E.NoMemory) f0 f1 h = h
hides_by_cause (Err E.WriteFault) f0 f1 h = tt
hides_by_cause (Err (E.Cut why text)) f0 f1 h = tt
hides_by_cause (Ok tally) f0 f1 h = tt

-- nor where nothing was read
pub hides_still : (s : Result Tally Ended) (f : Moment) → HidesNoRead s f f
hides_still (Err E.NoMemory) f = record { faults = refl; opens = refl }
hides_still (Err E.WriteFault) f = tt
hides_still (Err (E.Cut why text)) f = tt
hides_still (Ok tally) f = tt

-- and from an earlier moment on, if no read and no open failed in between
pub hides_later : (e : Ended) (f0 f f1 : Moment) → Still f0 f → HidesNoRead (Err e) f f1 → HidesNoRead (Err e) f0 f1
hides_later E.NoMemory f0 f f1 s h = record { faults = h.faults ∙ s.faults; opens = h.opens ∙ s.opens }
hides_later E.WriteFault f0 f f1 s h = tt
hides_later (E.Cut why text) f0 f f1 s h = tt

-- one piece
pub tally_alone : (p : Piece) (t t' : Tally) → t ≡ tally_of [] → t' ≡ counted t p.mark
    → t' ≡ tally_of (up_to_stop (p ∷ []))
tally_alone p t t' none e =
    e ∙ tally_one t p ∙ ap (λ x. added x (tally_of (p ∷ []))) none ∙ sym (tally_append [] (p ∷ []))
    ∙ ap tally_of (sym (up_alone p))

module _ (W : Telling) where
  pub wrote_one : (p : Piece) (a b : Texts) (mark : Mark) (out err : List ℕ) → IsMade mark out err p
      → (W.out → b.out ≡ a.out ++ out) → (W.err → b.err ≡ a.err ++ err)
      → (W.counts → b.number ≡ capped (a.number + length out)) → b.steps ≡ a.steps + p.cost → Wrote W (p ∷ []) a b
  wrote_one p a b mark out err m o e n s = record {
    out = λ t. o t ∙ ap (λ xs. a.out ++ xs) (m.writes ∙ sym (outs_one p));
    err = λ t. e t ∙ ap (λ xs. a.err ++ xs) (m.tells ∙ sym (errs_one p));
    number = λ t. n t ∙ ap (λ xs. capped (a.number + length xs)) (m.writes ∙ sym (outs_one p));
    steps = s ∙ ap (λ k. a.steps + k) (sym (costs_one p));
  }

  pub wrote_alone : (p : Piece) (a b : Texts) → Wrote W (p ∷ []) a b → Wrote W (up_to_stop (p ∷ [])) a b
  wrote_alone p a b h = subst (λ ps. Wrote W ps a b) (sym (up_alone p)) h

  pub fronts_one : (p : Piece) (a b : Texts) → (W.out → IsFront a.out b.out p.out) → (W.err → IsFront a.err b.err p.err)
      → Fronts W (up_to_stop (p ∷ [])) a b
  fronts_one p a b o e = subst (λ ps. Fronts W ps a b) (sym (up_alone p)) (record {
    out = λ t. subst (IsFront a.out b.out) (sym (outs_one p)) (o t);
    err = λ t. subst (IsFront a.err b.err) (sym (errs_one p)) (e t);
  })

  -- what was written is a front of all that there is
  pub fronts_cut : (all done todo : List Piece) (a b : Texts) → all ≡ done ++ todo → has is_stop done ≡ false
      → Wrote W done a b → Fronts W (up_to_stop all) a b
  fronts_cut all done todo a b split goes w =
      let whole : up_to_stop all ≡ done ++ up_to_stop todo = ap up_to_stop split ∙ up_append done todo goes in
      subst (λ ps. Fronts W ps a b) (sym whole) (fronts_longer W done (up_to_stop todo) a b (fronts_whole W done a b w))

  -- there was no memory for it
  pub memory_runs : (r : Result Tally Ended) (all : List Piece) (P : ReadStop → List ℕ → ℕ → Type 0) (a : Texts)
      → IsErrAnd r (λ x. x ≡ E.NoMemory) → Runs r W all P a a
  memory_runs (Ok tally) all P a h = absurd h
  memory_runs (Err e) all P a h = subst (λ x. Breaks x W all P a a) (sym h) (fronts_none W (up_to_stop all) a)

  -- it says less of where reading stood
  pub breaks_weaken : (e : Ended) (all : List Piece) (P Q : ReadStop → List ℕ → ℕ → Type 0) (a b : Texts)
      → ((why : ReadStop) (file : List ℕ) (k : ℕ) → P why file k → Q why file k) → Breaks e W all P a b
      → Breaks e W all Q a b
  breaks_weaken (E.Cut why text) all P Q a b f h = record {
    file = h.file;
    done = h.done;
    todo = h.todo;
    split = h.split;
    goes_on = h.goes_on;
    wrote = h.wrote;
    says = h.says;
    stood = f why h.file (length h.done) h.stood;
  }
  breaks_weaken _ all P Q a b f h = h

  -- what a run promises of where reading stood may be replaced by anything that follows from it
  pub runs_weaken : (r : Result Tally Ended) (all : List Piece) (P Q : ReadStop → List ℕ → ℕ → Type 0) (a b : Texts)
      → ((why : ReadStop) (file : List ℕ) (k : ℕ) → P why file k → Q why file k) → Runs r W all P a b
      → Runs r W all Q a b
  runs_weaken (Ok tally) all P Q a b f h = h
  runs_weaken (Err e) all P Q a b f h = breaks_weaken e all P Q a b f h

  -- the end of a run that reading ended
  pub breaks_cut : (e : Ended) (why : ReadStop) (name : List ℕ) (all done todo : List Piece) (P : ReadStop → List ℕ → ℕ
      → Type 0) (a b : Texts) → IsCutOf e W.tool why name → all ≡ done ++ todo → has is_stop done ≡ false
      → Wrote W done a b → P why name (length done) → Breaks e W all P a b
  breaks_cut E.NoMemory why name all done todo P a b is split goes w p = fronts_cut all done todo a b split goes w
  breaks_cut E.WriteFault why name all done todo P a b is split goes w p = absurd is
  breaks_cut (E.Cut w' text) why name all done todo P a b is split goes w p =
      subst (λ x. CutShort W all P x (string_bytes text) a b) (sym is.0) (record {
        file = name;
        done = done;
        todo = todo;
        split = split;
        goes_on = goes;
        wrote = w;
        says = is.1;
        stood = p;
      })

ends_from : (why : ReadStop) (m0 m m1 : Moment) → m.faults ≡ m0.faults → m.taken ≡ m0.taken → Ends why m m1
    → Ends why m0 m1
ends_from ReadFault m0 m m1 f t h = subst (λ x. Rose x m1.faults) f h
ends_from Spent m0 m m1 f t h = subst (λ x. TookMany x m1.taken) t h

module _ (W : Telling) (makes : Makes) (r : Reading) (path : List ℕ) (tree : List (List ℕ × List ℕ)) (f0 f f1 :
    Moment) where
  of_opened : file_of path tree ≡ Some f.rest → f.faults ≡ f0.faults → f.taken ≡ f0.taken → f.opens ≡ f0.opens
      → f1.opens ≡ f.opens → (why : ReadStop) (file : List ℕ) (k : ℕ) → InNamed path r.whole f f1 why file k
      → InFileNamed path tree r.whole f0 f1 why file k
  of_opened is faults taken opens opens1 why file k h = (
    h.0,
    opened h.1.got (opens1 ∙ opens) (ends_from why f0 f f1 faults taken h.1.ends) (ap (λ x. file_of x tree) h.0
        ∙ is ∙ ap Some h.1.took) h.1.count (λ e. let l = h.1.long e in let n = ap length h.1.took in omega arith),
  )

  pub breaks_opened : (e : Ended) (a b : Texts) → file_of path tree ≡ Some f.rest → f.faults ≡ f0.faults
      → f.taken ≡ f0.taken → f.opens ≡ f0.opens → f1.opens ≡ f.opens
      → Breaks e W (input_pieces makes r path f.rest) (InNamed path r.whole f f1) a b
      → Breaks e W (file_pieces makes r path (file_of path tree)) (InFileNamed path tree r.whole f0 f1) a b
  breaks_opened e a b is faults taken opens opens1 h =
      subst (λ o. Breaks e W (file_pieces makes r path o) (InFileNamed path tree r.whole f0 f1) a b) (sym is)
      (breaks_weaken W e (input_pieces makes r path f.rest) (InNamed path r.whole f f1)
      (InFileNamed path tree r.whole f0 f1) a b (of_opened is faults taken opens opens1) h)

module _ (W : Telling) (makes : Makes) (r : Reading) (path : List ℕ) (tree : List (List ℕ × List ℕ)) (f0 f1 :
    Moment) where
  pub runs_missing : (s : Result Tally Ended) (text : List ℕ) (a b : Texts) → file_of path tree ≡ None
      → text ≡ input_message r.tool path (codes "no such file") → Runs s W (stop_piece text ∷ []) Nowhere a b
      → Runs s W (file_pieces makes r path (file_of path tree)) (InFileNamed path tree r.whole f0 f1) a b
  runs_missing s text a b is e h =
      subst (λ o. Runs s W (file_pieces makes r path o) (InFileNamed path tree r.whole f0 f1) a b) (sym is)
      (subst (λ x. Runs s W (stop_piece x ∷ []) (InFileNamed path tree r.whole f0 f1) a b) e
      (runs_weaken W s (stop_piece text ∷ []) Nowhere (InFileNamed path tree r.whole f0 f1) a b
      (λ why file k h'. absurd h') h))

  pub breaks_failed : (e : Ended) (a : Texts) → (W.counts → a.number ≤ 2 ^ 64 - 1) → IsCutOf e W.tool ReadFault path
      → Rose f0.opens f1.opens
      → Breaks e W (file_pieces makes r path (file_of path tree)) (InFileNamed path tree r.whole f0 f1) a a
  breaks_failed e a fits is rose =
      breaks_cut W e ReadFault path (file_pieces makes r path (file_of path tree)) []
      (file_pieces makes r path (file_of path tree)) (InFileNamed path tree r.whole f0 f1) a a is refl
      (has_nil is_stop) (wrote_none W a a refl fits) (refl, not_opened refl rose refl)

module _ (W : Telling) (makes : Makes) (r : Reading) (name : List ℕ) (tree : List (List ℕ × List ℕ)) (left :
    List ℕ) where
  one_standard : is_standard name ≡ true → one_pieces makes r tree left name ≡ input_pieces makes r name left
  one_standard is = ap (λ b. cond b (input_pieces makes r name left) (file_pieces makes r name (file_of name tree))) is

  one_file : is_standard name ≡ false → one_pieces makes r tree left name ≡ file_pieces makes r name (file_of name tree)
  one_file is = ap (λ b. cond b (input_pieces makes r name left) (file_pieces makes r name (file_of name tree))) is

  -- the standard input a second time
  pub again : (a : Texts) (t : Tally) → is_standard name ≡ true → left ≡ [] → (W.counts → a.number ≤ 2 ^ 64 - 1)
      → t ≡ tally_of [] → Wrote W (up_to_stop (one_pieces makes r tree left name)) a a
      × (t ≡ tally_of (up_to_stop (one_pieces makes r tree left name)))
  again a t is none fits e =
      let z : one_pieces makes r tree left name ≡ [] = one_standard is
      ∙ pieces_none makes r name 0 (lines r.whole left) (ap (lines r.whole) none ∙ lines_none r.whole) in
      let u : up_to_stop (one_pieces makes r tree left name) ≡ [] = ap up_to_stop z ∙ up_nil in
      (subst (λ ps. Wrote W ps a a) (sym u) (wrote_none W a a refl fits), e ∙ ap tally_of (sym u))

  pub runs_file : (s : Result Tally Ended) (read : Bool) (i0 i1 f0 f1 : Moment) (a b : Texts) → is_standard name ≡ false
      → Runs s W (file_pieces makes r name (file_of name tree)) (InFileNamed name tree r.whole f0 f1) a b
      → Runs s W (one_pieces makes r tree left name) (InOne name read tree r.whole i0 i1 f0 f1) a b
  runs_file s read i0 i1 f0 f1 a b is h =
      subst (λ ps. Runs s W ps (InOne name read tree r.whole i0 i1 f0 f1) a b) (sym (one_file is))
      (runs_weaken W s (file_pieces makes r name (file_of name tree)) (InFileNamed name tree r.whole f0 f1)
      (InOne name read tree r.whole i0 i1 f0 f1) a b (λ why file k x. of_file is x) h)

  pub runs_standard : (s : Result Tally Ended) (read : Bool) (i0 i1 f0 f1 : Moment) (a b : Texts)
      → is_standard name ≡ true → read ≡ false
      → Runs s W (input_pieces makes r name left) (InNamed name r.whole i0 i1) a b
      → Runs s W (one_pieces makes r tree left name) (InOne name read tree r.whole i0 i1 f0 f1) a b
  runs_standard s read i0 i1 f0 f1 a b is first h =
      subst (λ ps. Runs s W ps (InOne name read tree r.whole i0 i1 f0 f1) a b) (sym (one_standard is))
      (runs_weaken W s (input_pieces makes r name left) (InNamed name r.whole i0 i1)
      (InOne name read tree r.whole i0 i1 f0 f1) a b (λ why file k x. of_standard is first x) h)
