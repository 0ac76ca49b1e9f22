-- The run over pieces, from piece to piece and to its end.
use Rattle.std.proofs.Common.{ℕ, ◌≡◌, ◌+◌, ◌-◌, ◌^◌, ◌≤◌, true, false, List, [], ◌∷◌, ◌++◌, length, length-append, refl}
use Rattle.std.proofs.Common.{sym, ◌∙◌, ap, subst, arith}
use Rattle.rosie_io.specs.Counts.{capped}
use Rattle.rosie_run.specs.Going.{CutBy, GivesPiece, How, IsSaidBy, LeavesEnd, LeavesRun, NeverReads, ReadsOn, StoodAt}
use Rattle.rosie_run.specs.Going.{end_of}
use Rattle.rosie_run.specs.inside.Going.{Went}
use Rattle.rosie_run.specs.inside.Writing.{how_of_break}
use Rattle.rosie_run.specs.Outputs.{Fronts, IsFront, Telling, Texts, Wrote}
use Rattle.rosie_run.specs.Report.{Piece, errs, has, is_stop, outs, up_to_stop}
use Rattle.rosie_run.specs.Runs.{Breaks, IsNoCut, Stands}
use Rattle.rosie_run.specs.Where.{Nowhere}
use Rattle.rosie_io.specs.declared.stop.ReadStop.{ReadStop}
use Rattle.std.specs.Prelude.{IfErr, Result, Err}
use Rattle.rosie_run.specs.Tallies.{counted, added, tally_of}
use Rattle.rosie_run.specs.declared.ended.Ended.{Ended}
use Rattle.rosie_run.specs.declared.ended.Ended.TheVariants as E
use Rattle.rosie_run.specs.declared.mark.Mark.{Mark}
use Rattle.rosie_run.specs.declared.tally.Tally.{Tally}
use Rattle.rosie_run.specs.declared.tool.Tool.{Tool}
use Rattle.rosie_run.proofs.Breaking.{breaks_cut, fronts_cut, fronts_one, wrote_one}
use Rattle.rosie_run.proofs.Onward.{Same, goes_by, stands_still, stops_by, up_alone}
use Rattle.rosie_run.proofs.Pieces.{has_one, stands_end, stands_first, stands_front, stands_on, stands_stop, tally_one}

pub went_start : (W : Telling) (all : List Piece) (C : List Piece → Type 0) (a b : Texts) (t : Tally) → b ≡ a
    → (W.counts → a.number ≤ 2 ^ 64 - 1) → t ≡ tally_of [] → C all → Went W all C 0 t a b
went_start W all C a b t e fits none c = record {
  done = [];
  todo = all;
  comes = c;
  stands = stands_first W all a b t e fits none;
  count = refl;
}

-- the last piece was written: what comes after it is as it was
pub went_later : (W : Telling) (all : List Piece) (C D : List Piece → Type 0) (k : ℕ) (t : Tally) (a b : Texts)
    → Went W all C k t a b → ((ps : List Piece) → C ps → D ps) → Went W all D k t a b
went_later W all C D k t a b h f = record {
  done = h.done;
  todo = h.todo;
  comes = f h.todo h.comes;
  stands = h.stands;
  count = h.count;
}

module _ (W : Telling) (all : List Piece) (C : List Piece → Type 0) (k : ℕ) (t : Tally) (a b : Texts) (h :
    Went W all C k t a b) where
  pub went_still : (d : Texts) → Same W b d → Went W all C k t a d
  went_still d s = record {
    done = h.done;
    todo = h.todo;
    comes = h.comes;
    stands = stands_still W all h.done h.todo a b d t h.stands s;
    count = h.count;
  }

  none_yet : t.stop ≡ false
  none_yet = ap (λ (x : Tally). x.stop) h.stands.comes_to ∙ h.stands.goes_on

  -- what is written is a front of all
  pub went_front : Fronts W (up_to_stop all) a b
  went_front = fronts_cut W all h.done h.todo a b h.stands.split h.stands.goes_on h.stands.wrote

  -- the next piece is made, and written or not
  module _ (D : List Piece → Type 0) (mark : Mark) (out err : List ℕ) (d : Texts) (g : (ps : List Piece) → C ps
      → GivesPiece ps D mark out err b.steps d.steps) where
    gave : GivesPiece h.todo D mark out err b.steps d.steps
    gave = g h.todo h.comes

    ahead : Stands W all h.done (gave.piece ∷ gave.more) a b t
    ahead = subst (λ ps. Stands W all h.done ps a b t) gave.is h.stands

    pub went_fault : (W.out → IsFront b.out d.out out) → (W.err → IsFront b.err d.err err)
        → Fronts W (up_to_stop all) a d
    went_fault o e =
        stands_front W all h.done (gave.piece ∷ []) gave.more a b d t ahead
        (fronts_one W gave.piece b d (λ x. subst (IsFront b.out d.out) gave.made.writes (o x))
        (λ x. subst (IsFront b.err d.err) gave.made.tells (e x)))

    module _ (t' : Tally) (sums : t' ≡ counted t mark) (o : W.out → d.out ≡ b.out ++ out) (e : W.err
        → d.err ≡ b.err ++ err) (n : W.counts → d.number ≡ capped (b.number + length out)) where
      wrote : Wrote W (gave.piece ∷ []) b d
      wrote = wrote_one W gave.piece b d mark out err gave.made o e n gave.steps

      adds : t' ≡ added t (tally_of (gave.piece ∷ []))
      adds = sums ∙ ap (counted t) gave.made.marks ∙ tally_one t gave.piece

      pub went_on : t'.stop ≡ false → Went W all D (k + 1) t' a d
      went_on goes =
          let on = goes_by t.stop (is_stop mark) none_yet (sym (ap (λ (x : Tally). x.stop) sums) ∙ goes) in
          let one : has is_stop (gave.piece ∷ []) ≡ false = has_one is_stop gave.piece
          ∙ ap is_stop (sym gave.made.marks) ∙ on in record {
            done = h.done ++ gave.piece ∷ [];
            todo = gave.more;
            comes = gave.comes;
            stands = stands_on W all h.done (gave.piece ∷ []) gave.more a b d t t' ahead wrote one adds;
            count = let c = h.count in omega (arith, length-append h.done (gave.piece ∷ []));
          }

      pub went_stop : t'.stop ≡ true → Wrote W (up_to_stop all) a d × (t' ≡ tally_of (up_to_stop all))
      went_stop stop =
          let off = stops_by t.stop (is_stop mark) none_yet (sym (ap (λ (x : Tally). x.stop) sums) ∙ stop) in
          let one : has is_stop (gave.piece ∷ []) ≡ true = has_one is_stop gave.piece ∙ ap is_stop (sym gave.made.marks)
          ∙ off in
          let alone : up_to_stop (gave.piece ∷ []) ≡ gave.piece ∷ [] = up_alone gave.piece in
          stands_stop W all h.done (gave.piece ∷ []) gave.more a b d t t' ahead one
          (subst (λ ps. Wrote W ps b d) (sym alone) wrote) (adds ∙ ap (λ ps. added t (tally_of ps)) (sym alone))

  -- nothing more is made
  module _ (d : Texts) (out : W.out → d.out ≡ b.out) (err : W.err → d.err ≡ b.err) (number : W.counts
      → d.number ≡ b.number) where
    pub went_end : ((ps : List Piece) → C ps → (ps ≡ []) × (d.steps ≡ b.steps)) → Wrote W (up_to_stop all) a d
        × (t ≡ tally_of (up_to_stop all))
    went_end g =
        let none = g h.todo h.comes in
        stands_end W all h.done h.todo a d t (stands_still W all h.done h.todo a b d t h.stands (record {
          out = out;
          err = err;
          number = number;
          steps = none.1;
        })) none.0

    pub went_broke : (e : Ended) (name : List ℕ) (L : How → ℕ → Type 0) → IsSaidBy W.tool name e
        → ((ps : List Piece) → C ps → ReadsOn e b.steps d.steps) → L (end_of e) k → Breaks e W all (StoodAt L name) a d
    went_broke E.NoMemory name L is g left = record {
      out = λ x. subst (λ w. IsFront a.out w (outs (up_to_stop all))) (sym (out x)) (went_front.out x);
      err = λ x. subst (λ w. IsFront a.err w (errs (up_to_stop all))) (sym (err x)) (went_front.err x);
    }
    went_broke E.WriteFault name L is g left = absurd is
    went_broke (E.Cut why text) name L is g left =
        let s = stands_still W all h.done h.todo a b d t h.stands (record {
          out = out;
          err = err;
          number = number;
          steps = g h.todo h.comes;
        }) in
        breaks_cut W (E.Cut why text) why name all h.done h.todo (StoodAt L name) a d (refl, is) s.split s.goes_on
        s.wrote (refl, subst (L (CutBy why)) (sym h.count) left)

-- a source that reads nothing
pub never_stood : (name : List ℕ) (why : ReadStop) (file : List ℕ) (k : ℕ)
    → StoodAt (λ how n. NeverReads how) name why file k → Nowhere why file k
never_stood name why file k h = h.1

-- a run over a source that reads nothing is never ended by reading
pub never_cut : (r : Result Tally Ended) → LeavesRun r (λ how n. NeverReads how) → IfErr r IsNoCut
never_cut (Err (E.Cut why text)) h = h.1
never_cut _ h = tt

-- what is left, by the end of the run
pub broke_leaves : (e : Ended) (tool : Tool) (name : List ℕ) (L : How → ℕ → Type 0) (k : ℕ) → IsSaidBy tool name e
    → L (end_of e) k → LeavesEnd e L
broke_leaves E.WriteFault tool name L k is left = absurd is
broke_leaves _ tool name L k is left = (k, left)

-- the writes of a piece ended it: there was no memory for a part, or a write failed
pub breaks_writing : (e : Ended) (W : Telling) (all : List Piece) (P : ReadStop → List ℕ → ℕ → Type 0) (a b : Texts)
    → IsNoCut e → Fronts W (up_to_stop all) a b → Breaks e W all P a b
breaks_writing (E.Cut why text) W all P a b none fronts = absurd none
breaks_writing _ W all P a b none fronts = fronts

pub leaves_writing : (e : Ended) (L : How → ℕ → Type 0) (k : ℕ) → IsNoCut e → L (how_of_break e) k → LeavesEnd e L
leaves_writing E.NoMemory L k none left = (k, left)
leaves_writing E.WriteFault L k none left = (k, left)
leaves_writing (E.Cut why text) L k none left = absurd none
