-- The answer of a run, from its end.
use Rattle.std.proofs.Common.{ℕ, ◌≡◌, ◌⊎◌, inl, inr, ◌+◌, Bool, true, false, List, ◌++◌, length, length-append, take}
use Rattle.std.proofs.Common.{refl, sym, ◌∙◌, ap, subst, append_assoc, arith}
use Rattle.std.specs.Prelude.{Result, Ok, Err, string_bytes}
use Rattle.std.proofs.lemmas.Bool.{false≢true}
use Rattle.rosie_io.specs.Counts.{Rose, capped}
use Rattle.std.proofs.Math.Seq.{take-append_seam, take-append-add, take-length}
use Rattle.rosie_run.specs.Causes.{AnswerWriteCause, AnswerReadCause}
use Rattle.rosie_run.specs.Runs.{RunReadCause, RunWriteCause, CutShort, GoesOn, Runs}
use Rattle.rosie_run.specs.Headline.{IsBehind, Reported, Left, in_the_run, at_the_end, CameToEnd, Headline, IsComplete}
use Rattle.rosie_run.specs.Outputs.{Telling, Texts, Wrote, IsFront, Fronts}
use Rattle.rosie_run.specs.Report.{Piece, costs, outs, errs, up_to_stop, has, is_hit, is_stop, is_fault, flags_status}
use Rattle.rosie_run.specs.Tallies.{tally_of}
use Rattle.rosie_run.specs.Sources.{Still, NoFewer, RoseIn, Moment}
use Rattle.rosie_run.specs.Closing.{stop_status, Stays, Closes, ClosesCause}
use Rattle.rosie_run.specs.declared.ended.Ended.{Ended}
use Rattle.rosie_run.specs.declared.ended.Ended.TheVariants as E
use Rattle.rosie_io.specs.declared.stop.ReadStop.{ReadStop}
use Rattle.rosie_io.specs.declared.stop.ReadStop.TheVariants as Y
use Rattle.rosie_run.specs.declared.status.Status.{Status}
use Rattle.rosie_run.specs.declared.status.Status.TheVariants.{Matched, NoMatch, Refused, LineFault, ReadFault}
use Rattle.rosie_run.specs.declared.status.Status.TheVariants.{WriteFault, NoMemory, Spent}
use Rattle.rosie_run.specs.declared.tally.Tally.{Tally}
use Rattle.rosie_run.proofs.Pieces.{up_append, fronts_whole}

-- the four statuses of a run that came to its end
flags_are : (s f h : Bool) (P : Status → Type 0) → P Refused → P LineFault → P Matched → P NoMatch
    → P (flags_status s f h)
flags_are true f h P a b d e = a
flags_are false true h P a b d e = b
flags_are false false true P a b d e = d
flags_are false false false P a b d e = e

front_still : (w0 w w' text : List ℕ) → IsFront w0 w text → w' ≡ w → IsFront w0 w' text
front_still w0 w w' text f e = subst (λ x. IsFront w0 x text) (sym e) f

last_text : (w0 w w' front text : List ℕ) → w ≡ w0 ++ front → w' ≡ w ++ text → w' ≡ w0 ++ (front ++ text)
last_text w0 w w' front text e f = f ∙ ap (λ xs. xs ++ text) e ∙ append_assoc w0 front text

last_front : (w0 w w' front text : List ℕ) → w ≡ w0 ++ front → IsFront w w' text → IsFront w0 w' (front ++ text)
last_front w0 w w' front text e f =
    let k = f.0 in let le = f.1 in (
      length front + k,
      omega (arith, length-append front text),
      f.2 ∙ ap (λ xs. xs ++ take k text) e ∙ append_assoc w0 front (take k text)
          ∙ ap (λ xs. w0 ++ xs) (sym (take-append-add front text k)),
    )

module _ (W : Telling) (all : List Piece) (Where : ReadStop → List ℕ → ℕ → Type 0) where
  wrote_still : (ps : List Piece) (a b d : Texts) → Wrote W ps a b → Stays W b d → Wrote W ps a d
  wrote_still ps a b d h s = record {
    out = λ t. s.out t ∙ h.out t;
    err = λ t. s.err t ∙ h.err t;
    number = λ t. s.number t ∙ h.number t;
    steps = s.steps ∙ h.steps;
  }

  fronts_still : (ps : List Piece) (a b d : Texts) → Fronts W ps a b → Stays W b d → Fronts W ps a d
  fronts_still ps a b d h s = record {
    out = λ t. front_still a.out b.out d.out (outs ps) (h.out t) (s.out t);
    err = λ t. front_still a.err b.err d.err (errs ps) (h.err t) (s.err t);
  }

  headline_flags : (s f h : Bool) (ps : List Piece) (a d : Texts) → Reported W ps (flags_status s f h) a d
      → Headline (flags_status s f h) W ps Where a d
  headline_flags true f h ps a d r = r
  headline_flags false true h ps a d r = r
  headline_flags false false true ps a d r = r
  headline_flags false false false ps a d r = r

  headline_ok : (tally : Tally) (s : Status) (a b d : Texts) → Wrote W (up_to_stop all) a b
      × (tally ≡ tally_of (up_to_stop all)) → Stays W b d → (s ≡ flags_status tally.stop tally.fault tally.hit)
      ⊎ (s ≡ WriteFault) → Headline s W (up_to_stop all) Where a d
  headline_ok tally s a b d r stays (inl e) =
      subst (λ x. Headline x W (up_to_stop all) Where a d) (sym e)
      (headline_flags tally.stop tally.fault tally.hit (up_to_stop all) a d (record {
        status =
            ap (λ (t : Tally). flags_status t.stop t.fault t.hit) r.1;
        wrote = wrote_still (up_to_stop all) a b d r.0 stays;
      }))
  headline_ok tally s a b d r stays (inr e) =
      subst (λ x. Headline x W (up_to_stop all) Where a d) (sym e)
      (in_the_run (fronts_still (up_to_stop all) a b d (fronts_whole W (up_to_stop all) a b r.0) stays))

  first_done : (done todo : List Piece) → up_to_stop all ≡ done ++ todo → take (length done) (up_to_stop all) ≡ done
  first_done done todo e = ap (take (length done)) e ∙ take-append_seam done todo

  behind_done : (done todo : List Piece) → all ≡ done ++ todo → has is_stop done ≡ false
      → IsBehind (up_to_stop all) (length done)
  behind_done done todo split goes =
      let whole = ap up_to_stop split ∙ up_append done todo goes in
      record {
        within = omega (arith, ap length whole, length-append done (up_to_stop todo));
        goes_on = ap (has is_stop) (first_done done (up_to_stop todo) whole) ∙ goes;
      }

  headline_why : (why : ReadStop) (a d : Texts) → Left W (up_to_stop all) Where why a d
      → Headline (stop_status why) W (up_to_stop all) Where a d
  headline_why Y.ReadFault a d h = h
  headline_why Y.Spent a d h = h

  headline_cut : (why : ReadStop) (text : List ℕ) (s : Status) (a b d : Texts) → CutShort W all Where why text a b
      → (W.out → d.out ≡ b.out) → (W.counts → d.number ≡ b.number) → d.steps ≡ b.steps
      → ((s ≡ stop_status why) × (W.err → d.err ≡ b.err ++ text))
      ⊎ ((s ≡ WriteFault) × (W.err → IsFront b.err d.err text)) → Headline s W (up_to_stop all) Where a d
  headline_cut why text s a b d h out number steps (inl e) =
      let first = first_done h.done (up_to_stop h.todo) (ap up_to_stop h.split ∙ up_append h.done h.todo h.goes_on) in
      subst (λ x. Headline x W (up_to_stop all) Where a d) (sym e.0) (headline_why why a d (record {
        file = h.file;
        k = length h.done;
        behind = behind_done h.done h.todo h.split h.goes_on;
        stood = h.stood;
        out = λ t. out t ∙ h.wrote.out t ∙ ap (λ ps. a.out ++ outs ps) (sym first);
        err = λ t. last_text a.err b.err d.err (errs h.done) text (h.wrote.err t) (e.1 t)
            ∙ ap (λ ps. a.err ++ (errs ps ++ text)) (sym first)
            ∙ ap (λ x. a.err ++ (errs (take (length h.done) (up_to_stop all)) ++ x)) h.says;
        number = λ t. number t ∙ h.wrote.number t ∙ ap (λ ps. capped (a.number + length (outs ps))) (sym first);
        steps = steps ∙ h.wrote.steps ∙ ap (λ ps. a.steps + costs ps) (sym first);
      }))
  headline_cut why text s a b d h out number steps (inr e) =
      let first = first_done h.done (up_to_stop h.todo) (ap up_to_stop h.split ∙ up_append h.done h.todo h.goes_on) in
      subst (λ x. Headline x W (up_to_stop all) Where a d) (sym e.0)
      (at_the_end why h.file (length h.done) (behind_done h.done h.todo h.split h.goes_on) h.stood
      (λ t. subst (λ ps. IsFront a.out d.out (outs ps)) (sym first)
      (front_still a.out b.out d.out (outs h.done) (
        length (outs h.done),
        omega arith,
        h.wrote.out t
            ∙ ap (λ xs. a.out ++ xs) (sym (take-length (outs h.done))),
      ) (out t)))
      (λ t. subst (λ x. IsFront a.err d.err (errs (take (length h.done) (up_to_stop all)) ++ x)) h.says
      (subst (λ ps. IsFront a.err d.err (errs ps ++ text)) (sym first)
      (last_front a.err b.err d.err (errs h.done) text (h.wrote.err t) (e.1 t)))))

  -- the one claim on what a run leaves, whatever the command
  pub headline : (r : Result Tally Ended) (s : Status) (a b d : Texts) → Runs r W all Where a b → Closes r s W b d
      → Headline s W (up_to_stop all) Where a d
  headline (Ok tally) s a b d r c = headline_ok tally s a b d r c.0 c.1
  headline (Err E.NoMemory) s a b d r c =
      subst (λ x. Headline x W (up_to_stop all) Where a d) (sym c.1) (fronts_still (up_to_stop all) a b d r c.0)
  headline (Err E.WriteFault) s a b d r c =
      subst (λ x. Headline x W (up_to_stop all) Where a d) (sym c.1)
      (in_the_run (fronts_still (up_to_stop all) a b d r c.0))
  headline (Err (E.Cut why text)) s a b d r c = headline_cut why (string_bytes text) s a b d r c.0 c.1 c.2 c.3

output_from : (s : Status) (o0 o1 o2 e0 e1 e2 : ℕ) → o1 ≡ o0 → e1 ≡ e0 → AnswerWriteCause s o1 o2 e1 e2
    → AnswerWriteCause s o0 o2 e0 e2
output_from s o0 o1 o2 e0 e1 e2 p q h =
    subst (λ x. AnswerWriteCause s x o2 e0 e2) p (subst (λ x. AnswerWriteCause s o1 o2 x e2) q h)

-- a fault of writing comes only where a count rose
pub output_cause : (r : Result Tally Ended) (s : Status) (W : Telling) (b d : Texts) (o0 o1 o2 e0 e1 e2 : ℕ)
    → Closes r s W b d → RunWriteCause r o0 o1 e0 e1 → ClosesCause r s o1 o2 e1 e2 → AnswerWriteCause s o0 o2 e0 e2
output_cause (Err E.NoMemory) s W b d o0 o1 o2 e0 e1 e2 c w h = subst (λ x. AnswerWriteCause x o0 o2 e0 e2) (sym c.1) (
  h.0
      ∙ w.0,
  h.1 ∙ w.1,
)
output_cause (Err E.WriteFault) s W b d o0 o1 o2 e0 e1 e2 c w h =
    subst (λ x. AnswerWriteCause x o0 o2 e0 e2) (sym c.1) (subst (λ x. AnswerWriteCause WriteFault o0 x e0 e2) (sym h.0)
    (subst (λ x. AnswerWriteCause WriteFault o0 o1 e0 x) (sym h.1) w))
output_cause _ s W b d o0 o1 o2 e0 e1 e2 c w h = output_from s o0 o1 o2 e0 e1 e2 w.0 w.1 h

-- and a fault of reading too
pub few_of : (m0 m1 : Moment) → Still m0 m1 → NoFewer m0 m1
few_of m0 m1 s = let a = s.faults in let b = s.opens in record { faults = omega arith; opens = omega arith }

-- what a run says of the counts of its sources holds of the status that it ends with
pub reads_cause : (r : Result Tally Ended) (s : Status) (W : Telling) (b d : Texts) (i0 i1 f0 f1 : Moment)
    → Closes r s W b d → RunReadCause r i0 i1 f0 f1 → AnswerReadCause s i0 i1 f0 f1
reads_cause (Ok tally) s W b d i0 i1 f0 f1 c h = by c.1 where
  by : (s ≡ flags_status tally.stop tally.fault tally.hit) ⊎ (s ≡ WriteFault) → AnswerReadCause s i0 i1 f0 f1
  by (inl e) = subst (λ x. AnswerReadCause x i0 i1 f0 f1) (sym e)
      (flags_are tally.stop tally.fault tally.hit (λ x. AnswerReadCause x i0 i1 f0 f1) h h h h)
  by (inr e) = subst (λ x. AnswerReadCause x i0 i1 f0 f1) (sym e) (few_of i0 i1 h.0, few_of f0 f1 h.1)
reads_cause (Err E.NoMemory) s W b d i0 i1 f0 f1 c h = subst (λ x. AnswerReadCause x i0 i1 f0 f1) (sym c.1) h
reads_cause (Err E.WriteFault) s W b d i0 i1 f0 f1 c h =
    subst (λ x. AnswerReadCause x i0 i1 f0 f1) (sym c.1) (few_of i0 i1 h.0, few_of f0 f1 h.1)
reads_cause (Err (E.Cut Y.ReadFault text)) s W b d i0 i1 f0 f1 c h = by c.3 where
  by : ((s ≡ ReadFault) × (W.err → d.err ≡ b.err ++ string_bytes text))
      ⊎ ((s ≡ WriteFault) × (W.err → IsFront b.err d.err (string_bytes text))) → AnswerReadCause s i0 i1 f0 f1
  by (inl e) = subst (λ x. AnswerReadCause x i0 i1 f0 f1) (sym e.0) h
  by (inr e) = subst (λ x. AnswerReadCause x i0 i1 f0 f1) (sym e.0) (h.0, h.1)
reads_cause (Err (E.Cut Y.Spent text)) s W b d i0 i1 f0 f1 c h = by c.3 where
  by : ((s ≡ Spent) × (W.err → d.err ≡ b.err ++ string_bytes text))
      ⊎ ((s ≡ WriteFault) × (W.err → IsFront b.err d.err (string_bytes text))) → AnswerReadCause s i0 i1 f0 f1
  by (inl e) = subst (λ x. AnswerReadCause x i0 i1 f0 f1) (sym e.0) h
  by (inr e) = subst (λ x. AnswerReadCause x i0 i1 f0 f1) (sym e.0) (few_of i0 i1 h.0, few_of f0 f1 h.1)

-- a run that came to its end went on
end_flags : (s f h : Bool) → CameToEnd (flags_status s f h) → s ≡ false
end_flags true f h is = absurd is
end_flags false f h is = refl

end_why : (why : ReadStop) → CameToEnd (stop_status why) → ⊥
end_why Y.ReadFault is = is
end_why Y.Spent is = is

-- what holds of a run that no piece ended holds if the status says that the run reached the end of its inputs
pub came_of : (r : Result Tally Ended) (s : Status) (W : Telling) (b d : Texts) (P : Type 0) → Closes r s W b d
    → CameToEnd s → GoesOn r P → P
came_of (Ok tally) s W b d P c is goes = elim c.1 [
  | inl e ↦ goes (end_flags tally.stop tally.fault tally.hit (subst CameToEnd e is))
  | inr e ↦ absurd (subst CameToEnd e is)
]
came_of (Err (E.Cut why text)) s W b d P c is goes = elim c.3 [
  | inl e ↦ absurd (end_why why (subst CameToEnd e.0 is))
  | inr e ↦ absurd (subst CameToEnd e.0 is)
]
came_of (Err _) s W b d P c is goes = absurd (subst CameToEnd c.1 is)

-- where nothing goes wrong there is an answer
hit_by : (s : Bool) (f : Bool) (h : Bool) → s ≡ false → f ≡ false → (answer : Status) → answer ≡ flags_status s f h
    → (ps : List Piece) → has is_hit ps ≡ h → IsComplete answer ps
hit_by true f h s' f' answer e ps is = absurd (false≢true (sym s'))
hit_by false true h s' f' answer e ps is = absurd (false≢true (sym f'))
hit_by false false true s' f' answer e ps is = subst (λ x. IsComplete x ps) (sym e) is
hit_by false false false s' f' answer e ps is = subst (λ x. IsComplete x ps) (sym e) is

module _ (W : Telling) (ps : List Piece) (Where : ReadStop → List ℕ → ℕ → Type 0) (a b : Texts) (i0 i1 f0 f1 :
    Moment) (o0 o1 e0 e1 : ℕ) (i : RoseIn i0 i1 → ⊥) (f : RoseIn f0 f1 → ⊥) (o : Rose o0 o1 → ⊥) (e : Rose e0 e1
    → ⊥) (few : (file : List ℕ) (k : ℕ) → Where Y.Spent file k → ⊥) (s : has is_stop ps ≡ false) (t :
    has is_fault ps ≡ false) where
  reported : (answer : Status) → Reported W ps answer a b → IsComplete answer ps
  reported answer r = hit_by (has is_stop ps) (has is_fault ps) (has is_hit ps) s t answer r.status ps refl

  -- if no count of failures rose, no file is too long and each piece has an answer, the status says whether a piece is
  -- a hit, or that memory ran out
  pub completes : (answer : Status) → Headline answer W ps Where a b → AnswerReadCause answer i0 i1 f0 f1
      → AnswerWriteCause answer o0 o1 e0 e1 → IsComplete answer ps
  completes Matched h r w = reported Matched h
  completes NoMatch h r w = reported NoMatch h
  completes Refused h r w = reported Refused h
  completes LineFault h r w = reported LineFault h
  completes ReadFault h r w = elim r.2 [ inl x ↦ i x | inr x ↦ f x ]
  completes Spent h r w = few h.file h.k h.stood
  completes WriteFault h r w = elim w.2 [ inl x ↦ o x | inr x ↦ e x ]
  completes NoMemory h r w = tt
