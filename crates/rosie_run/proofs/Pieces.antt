-- Pieces that are put together, and how a run stands.
use Rattle.std.proofs.Common.{ℕ, ◌≡◌, ◌+◌, ◌-◌, ◌^◌, ◌≤◌, Bool, true, false, ◌||◌, cond, List, [], ◌∷◌, ◌++◌, length}
use Rattle.std.proofs.Common.{length-append, take, refl, sym, ◌∙◌, ap, subst, append_assoc, arith}
use Rattle.std.proofs.Math.Bool.{or-false, or_assoc}
use Rattle.std.proofs.lemmas.Bool.{false≢true}
use Rattle.std.proofs.lemmas.List.{append-nil, take-append-le}
use Rattle.std.proofs.Math.Seq.{take-append-add, take-length}
use Rattle.rosie_run.specs.Outputs.{Telling, Texts, Wrote, IsFront, Fronts}
use Rattle.rosie_run.specs.Runs.{Stands}
use Rattle.rosie_run.specs.Report.{Piece, outs, errs, costs, has, is_stop, is_fault, is_hit, up_to_stop}
use Rattle.rosie_run.specs.Tallies.{tally_of, counted, added}
use Rattle.rosie_run.specs.declared.mark.Mark.{Mark}
use Rattle.rosie_run.specs.declared.tally.Tally.{Tally}

-- the output of two lists of pieces is that of the first and then that of the second
pub outs_append : (ps qs : List Piece) → outs (ps ++ qs) ≡ outs ps ++ outs qs
unfolding outs
outs_append [] qs = refl
outs_append (p ∷ ps) qs = ap (λ xs. p.out ++ xs) (outs_append ps qs) ∙ sym (append_assoc p.out (outs ps) (outs qs))

pub errs_append : (ps qs : List Piece) → errs (ps ++ qs) ≡ errs ps ++ errs qs
unfolding errs
errs_append [] qs = refl
errs_append (p ∷ ps) qs = ap (λ xs. p.err ++ xs) (errs_append ps qs) ∙ sym (append_assoc p.err (errs ps) (errs qs))

pub costs_append : (ps qs : List Piece) → costs (ps ++ qs) ≡ costs ps + costs qs
unfolding costs
costs_append [] qs = omega arith
costs_append (p ∷ ps) qs = let h = costs_append ps qs in omega arith

-- the output of one piece alone is its text
pub outs_one : (p : Piece) → outs (p ∷ []) ≡ p.out
unfolding outs
outs_one p = append-nil p.out

pub errs_one : (p : Piece) → errs (p ∷ []) ≡ p.err
unfolding errs
errs_one p = append-nil p.err

pub costs_one : (p : Piece) → costs (p ∷ []) ≡ p.cost
unfolding costs
costs_one p = omega arith

-- an empty list of pieces has no output
pub outs_nil : outs [] ≡ []
unfolding outs
outs_nil = refl

pub errs_nil : errs [] ≡ []
unfolding errs
errs_nil = refl

pub costs_nil : costs [] ≡ 0
unfolding costs
costs_nil = refl

-- no mark occurs in an empty list of pieces
pub has_nil : (test : Mark → Bool) → has test [] ≡ false
unfolding has
has_nil test = refl

-- a mark occurs in two lists of pieces, one after the other, if and only if it occurs in one of them
pub has_append : (test : Mark → Bool) (ps qs : List Piece) → has test (ps ++ qs) ≡ (has test ps || has test qs)
unfolding has
has_append test [] qs = refl
has_append test (p ∷ ps) qs = ap (λ b. test p.mark || b) (has_append test ps qs)
    ∙ sym (or_assoc (test p.mark) (has test ps) (has test qs))

-- a mark occurs in a list of one piece if and only if it is that of the piece
pub has_one : (test : Mark → Bool) (p : Piece) → has test (p ∷ []) ≡ test p.mark
unfolding has
has_one test p = or-false (test p.mark)

tallied : Bool → Bool → Bool → Tally
tallied s f h = record { stop = s; fault = f; hit = h }

same_tally : (s s' f f' h h' : Bool) → s ≡ s' → f ≡ f' → h ≡ h' → tallied s f h ≡ tallied s' f' h'
same_tally s s' f f' h h' a b d = ap (λ x. tallied x f h) a ∙ ap (λ x. tallied s' x h) b ∙ ap (λ x. tallied s' f' x) d

-- the tally of two lists of pieces is that of both, added
pub tally_append : (ps qs : List Piece) → tally_of (ps ++ qs) ≡ added (tally_of ps) (tally_of qs)
unfolding tallied
tally_append ps qs =
    same_tally _ _ _ _ _ _ (has_append is_stop ps qs) (has_append is_fault ps qs) (has_append is_hit ps qs)

pub tally_one : (t : Tally) (p : Piece) → counted t p.mark ≡ added t (tally_of (p ∷ []))
unfolding tallied
tally_one t p = same_tally _ _ _ _ _ _ (ap (λ b. t.stop || b) (sym (has_one is_stop p)))
    (ap (λ b. t.fault || b) (sym (has_one is_fault p))) (ap (λ b. t.hit || b) (sym (has_one is_hit p)))

-- up to the piece that ends the run
goes_past : (p : Piece) (ps : List Piece) → is_stop p.mark ≡ false → up_to_stop (p ∷ ps) ≡ p ∷ up_to_stop ps
unfolding up_to_stop
goes_past p ps h = ap (λ b. p ∷ cond b [] (up_to_stop ps)) h

stops_at : (p : Piece) (ps : List Piece) → is_stop p.mark ≡ true → up_to_stop (p ∷ ps) ≡ p ∷ []
unfolding up_to_stop
stops_at p ps h = ap (λ b. p ∷ cond b [] (up_to_stop ps)) h

or_none : (a b : Bool) → (a || b) ≡ false → (a ≡ false) × (b ≡ false)
or_none true b h = absurd (false≢true (sym h))
or_none false b h = (refl, h)

none_split : (p : Piece) (ps : List Piece) → has is_stop (p ∷ ps) ≡ false → (is_stop p.mark ≡ false)
    × (has is_stop ps ≡ false)
unfolding has
none_split p ps h = or_none (is_stop p.mark) (has is_stop ps) h

some_later : (p : Piece) (ps : List Piece) → is_stop p.mark ≡ false → has is_stop (p ∷ ps) ≡ true
    → has is_stop ps ≡ true
unfolding has
some_later p ps h e = ap (λ b. b || has is_stop ps) (sym h) ∙ e

pub up_append : (ps qs : List Piece) → has is_stop ps ≡ false → up_to_stop (ps ++ qs) ≡ ps ++ up_to_stop qs
up_append [] qs h = refl
up_append (p ∷ ps) qs h =
    let s = none_split p ps h in
    goes_past p (ps ++ qs) s.0 ∙ ap (λ xs. p ∷ xs) (up_append ps qs s.1)

pub up_nil : up_to_stop [] ≡ []
unfolding up_to_stop
up_nil = refl

-- if no piece ends the run, the pieces up to the first that ends it are all of them
pub up_all : (ps : List Piece) → has is_stop ps ≡ false → up_to_stop ps ≡ ps
up_all ps h = ap up_to_stop (sym (append-nil ps)) ∙ up_append ps [] h ∙ ap (λ xs. ps ++ xs) up_nil ∙ append-nil ps

up_by : (p : Piece) (ps qs : List Piece) (b : Bool) → is_stop p.mark ≡ b
    → (is_stop p.mark ≡ false → up_to_stop (ps ++ qs) ≡ up_to_stop ps)
    → up_to_stop (p ∷ (ps ++ qs)) ≡ up_to_stop (p ∷ ps)
up_by p ps qs true e h = stops_at p (ps ++ qs) e ∙ sym (stops_at p ps e)
up_by p ps qs false e h = goes_past p (ps ++ qs) e ∙ ap (λ xs. p ∷ xs) (h e) ∙ sym (goes_past p ps e)

-- nothing follows a piece that ends the run
pub up_stop : (ps qs : List Piece) → has is_stop ps ≡ true → up_to_stop (ps ++ qs) ≡ up_to_stop ps
up_stop [] qs h = absurd (false≢true (sym (has_nil is_stop) ∙ h))
up_stop (p ∷ ps) qs h = up_by p ps qs (is_stop p.mark) refl (λ goes. up_stop ps qs (some_later p ps goes h))

-- a piece that ends the run is the last one
has_by : (p : Piece) (ps : List Piece) (b : Bool) → is_stop p.mark ≡ b
    → (is_stop p.mark ≡ false → has is_stop (up_to_stop ps) ≡ has is_stop ps)
    → has is_stop (up_to_stop (p ∷ ps)) ≡ has is_stop (p ∷ ps)
unfolding has
has_by p ps true e h = ap (has is_stop) (stops_at p ps e) ∙ or-false (is_stop p.mark) ∙ e
    ∙ ap (λ b. b || has is_stop ps) (sym e)
has_by p ps false e h = ap (has is_stop) (goes_past p ps e) ∙ ap (λ b. is_stop p.mark || b) (h e)

-- a piece that ends the run is among all pieces if and only if it is among those up to the first that ends it
pub has_up : (ps : List Piece) → has is_stop (up_to_stop ps) ≡ has is_stop ps
has_up [] = ap (has is_stop) up_nil
has_up (p ∷ ps) = has_by p ps (is_stop p.mark) refl (λ goes. has_up ps)

-- fronts of texts
pub whole_front : (w0 w text : List ℕ) → w ≡ w0 ++ text → IsFront w0 w text
whole_front w0 w text e = (length text, omega arith, e ∙ ap (λ xs. w0 ++ xs) (sym (take-length text)))

pub front_after : (w0 w w' front text all : List ℕ) → w ≡ w0 ++ front → IsFront w w' text → all ≡ front ++ text
    → IsFront w0 w' all
front_after w0 w w' front text all e f g =
    let k = f.0 in let le = f.1 in (
      length front + k,
      let l = ap length g in omega (arith, length-append front text),
      f.2 ∙ ap (λ xs. xs ++ take k text) e ∙ append_assoc w0 front (take k text)
          ∙ ap (λ xs. w0 ++ xs) (sym (ap (λ xs. take (length front + k) xs) g ∙ take-append-add front text k)),
    )

pub front_none : (w : List ℕ) (text : List ℕ) → IsFront w w text
front_none w text = (0, omega arith, sym (append-nil w))

pub longer : (w0 w text more all : List ℕ) → IsFront w0 w text → all ≡ text ++ more → IsFront w0 w all
longer w0 w text more all f g =
    let k = f.0 in let le = f.1 in (
      k,
      let l = ap length g in omega (arith, length-append text more),
      f.2 ∙ ap (λ xs. w0 ++ xs) (sym (ap (take k) g ∙ take-append-le k text more le)),
    )

module _ (T : Telling) where
  -- adding no pieces changes no output
  pub wrote_none : (a b : Texts) → b ≡ a → (T.counts → a.number ≤ 2 ^ 64 - 1) → Wrote T [] a b
  wrote_none a b e fits = record {
    out = λ t. ap (λ (x : Texts). x.out) e ∙ sym (append-nil a.out) ∙ ap (λ xs. a.out ++ xs) (sym outs_nil);
    err = λ t. ap (λ (x : Texts). x.err) e ∙ sym (append-nil a.err) ∙ ap (λ xs. a.err ++ xs) (sym errs_nil);
    number = λ t. let n = ap (λ (x : Texts). x.number) e in let l = ap length outs_nil in let f = fits t in omega arith;
    steps = let n = ap (λ (x : Texts). x.steps) e in let z = costs_nil in omega arith;
  }

  pub wrote_append : (ps qs : List Piece) (a b d : Texts) → Wrote T ps a b → Wrote T qs b d → Wrote T (ps ++ qs) a d
  wrote_append ps qs a b d h k = record {
    out = λ t. k.out t ∙ ap (λ xs. xs ++ outs qs) (h.out t) ∙ append_assoc a.out (outs ps) (outs qs)
        ∙ ap (λ xs. a.out ++ xs) (sym (outs_append ps qs));
    err = λ t. k.err t ∙ ap (λ xs. xs ++ errs qs) (h.err t) ∙ append_assoc a.err (errs ps) (errs qs)
        ∙ ap (λ xs. a.err ++ xs) (sym (errs_append ps qs));
    number = λ t. let n = k.number t in let m = h.number t in let l = ap length (outs_append ps qs) in
        omega (arith, length-append (outs ps) (outs qs));
    steps = let n = k.steps in let m = h.steps in omega (arith, costs_append ps qs);
  }

  -- outputs that all pieces were added to have a front of what they add
  pub fronts_whole : (ps : List Piece) (a b : Texts) → Wrote T ps a b → Fronts T ps a b
  fronts_whole ps a b h = record { out = λ t. whole_front _ _ _ (h.out t); err = λ t. whole_front _ _ _ (h.err t) }

  -- outputs that nothing was added to have a front of what any pieces add
  pub fronts_none : (ps : List Piece) (a : Texts) → Fronts T ps a a
  fronts_none ps a = record { out = λ t. front_none a.out (outs ps); err = λ t. front_none a.err (errs ps) }

  pub fronts_after : (ps qs : List Piece) (a b d : Texts) → Wrote T ps a b → Fronts T qs b d → Fronts T (ps ++ qs) a d
  fronts_after ps qs a b d h k = record {
    out = λ t. front_after _ _ _ _ _ _ (h.out t) (k.out t) (outs_append ps qs);
    err = λ t. front_after _ _ _ _ _ _ (h.err t) (k.err t) (errs_append ps qs);
  }

  -- before the first piece a run has passed no piece, and all pieces are still to come
  pub stands_first : (all : List Piece) (a b : Texts) (t : Tally) → b ≡ a → (T.counts → a.number ≤ 2 ^ 64 - 1)
      → t ≡ tally_of [] → Stands T all [] all a b t
  stands_first all a b t e fits none = record {
    split = refl;
    goes_on = has_nil is_stop;
    wrote = wrote_none a b e fits;
    comes_to = none;
  }

  -- the run goes past some pieces more
  pub stands_on : (all done qs todo : List Piece) (a b d : Texts) (t t' : Tally) → Stands T all done (qs ++ todo) a b t
      → Wrote T qs b d → has is_stop qs ≡ false → t' ≡ added t (tally_of qs) → Stands T all (done ++ qs) todo a d t'
  stands_on all done qs todo a b d t t' h w goes e = record {
    split = h.split ∙ sym (append_assoc done qs todo);
    goes_on = has_append is_stop done qs ∙ ap (λ x. x || has is_stop qs) h.goes_on ∙ goes;
    wrote = wrote_append done qs a b d h.wrote w;
    comes_to = e ∙ ap (λ x. added x (tally_of qs)) h.comes_to ∙ sym (tally_append done qs);
  }

  -- it comes to its end
  pub stands_end : (all done todo : List Piece) (a b : Texts) (t : Tally) → Stands T all done todo a b t → todo ≡ []
      → Wrote T (up_to_stop all) a b × (t ≡ tally_of (up_to_stop all))
  stands_end all done todo a b t h none =
      let whole : up_to_stop all ≡ done = ap up_to_stop (h.split ∙ ap (λ xs. done ++ xs) none ∙ append-nil done)
      ∙ up_all done h.goes_on in
      (subst (λ ps. Wrote T ps a b) (sym whole) h.wrote, h.comes_to ∙ ap tally_of (sym whole))

  -- it is ended by a piece among the next ones
  pub stands_stop : (all done qs todo : List Piece) (a b d : Texts) (t t' : Tally)
      → Stands T all done (qs ++ todo) a b t → has is_stop qs ≡ true → Wrote T (up_to_stop qs) b d
      → t' ≡ added t (tally_of (up_to_stop qs)) → Wrote T (up_to_stop all) a d × (t' ≡ tally_of (up_to_stop all))
  stands_stop all done qs todo a b d t t' h stop w e =
      let whole : up_to_stop all ≡ done ++ up_to_stop qs = ap up_to_stop h.split ∙ up_append done (qs ++ todo) h.goes_on
      ∙ ap (λ xs. done ++ xs) (up_stop qs todo stop) in (
        subst (λ ps. Wrote T ps a d) (sym whole) (wrote_append done (up_to_stop qs) a b d h.wrote w),
        e ∙ ap (λ x. added x (tally_of (up_to_stop qs))) h.comes_to ∙ sym (tally_append done (up_to_stop qs))
            ∙ ap tally_of (sym whole),
      )

  front_by : (qs todo : List Piece) (b : Bool) → has is_stop qs ≡ b → (more : List Piece)
      × (up_to_stop (qs ++ todo) ≡ up_to_stop qs ++ more)
  front_by qs todo true e = ([], up_stop qs todo e ∙ sym (append-nil (up_to_stop qs)))
  front_by qs todo false e =
      (up_to_stop todo, up_append qs todo e ∙ ap (λ xs. xs ++ up_to_stop todo) (sym (up_all qs e)))

  pub fronts_longer : (ps qs : List Piece) (a b : Texts) → Fronts T ps a b → Fronts T (ps ++ qs) a b
  fronts_longer ps qs a b h = record {
    out = λ t. longer _ _ _ _ _ (h.out t) (outs_append ps qs);
    err = λ t. longer _ _ _ _ _ (h.err t) (errs_append ps qs);
  }

  -- it breaks off among the next pieces
  pub stands_front : (all done qs todo : List Piece) (a b d : Texts) (t : Tally) → Stands T all done (qs ++ todo) a b t
      → Fronts T (up_to_stop qs) b d → Fronts T (up_to_stop all) a d
  stands_front all done qs todo a b d t h f =
      let s = front_by qs todo (has is_stop qs) refl in
      let whole : up_to_stop all ≡ done ++ (up_to_stop qs ++ s.0) = ap up_to_stop h.split
      ∙ up_append done (qs ++ todo) h.goes_on ∙ ap (λ xs. done ++ xs) s.1 in
      subst (λ ps. Fronts T ps a d) (sym whole) (fronts_after done (up_to_stop qs ++ s.0) a b d h.wrote
      (fronts_longer (up_to_stop qs) s.0 b d f))
