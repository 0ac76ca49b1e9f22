-- The run over several inputs, from input to input.
use Rattle.std.proofs.Common.{ℕ, zero, suc, ◌≡◌, ◌+◌, ◌-◌, ◌^◌, ◌<◌, ◌≤◌, Bool, true, false, ◌||◌, cond, List, [], ◌∷◌}
use Rattle.std.proofs.Common.{◌++◌, length, length-append, get_or, drop, refl, sym, ◌∙◌, ap, subst, append_assoc, arith}
use Rattle.std.specs.List.{list_any}
use Rattle.std.specs.Prelude.{not}
use Rattle.std.proofs.Math.Bool.{or-false, or-true}
use Rattle.std.proofs.lemmas.Bool.{false_from_ne_true, false≢true}
use Rattle.std.proofs.lemmas.List.{append-nil, drop_more, drop_all}
use Rattle.std.proofs.lemmas.List.Folds.{list_any-append}
use Rattle.rosie_io.specs.Counts.{Rose}
use Rattle.rosie_run.specs.Inputs.{is_standard, one_pieces, left_after, inputs_pieces, reads_standard}
use Rattle.rosie_run.specs.Inputs.{AreTold, names_of}
use Rattle.rosie_run.specs.inside.Going.{left_all, Reached}
use Rattle.rosie_run.specs.Lines.{Makes}
use Rattle.rosie_run.specs.Outputs.{Telling, Texts, Wrote}
use Rattle.rosie_run.specs.Runs.{Stands, Breaks}
use Rattle.rosie_run.specs.Report.{Piece, has, is_stop, up_to_stop}
use Rattle.rosie_run.specs.Tallies.{tally_of, added}
use Rattle.rosie_run.specs.Sources.{Moment, Ends, Still}
use Rattle.rosie_run.specs.Where.{InFile, not_opened, opened, InSource, InInputs, in_file, in_standard}
use Rattle.rosie_run.specs.inside.Where.{InOne, of_standard, of_file}
use Rattle.rosie_run.specs.declared.ended.Ended.{Ended}
use Rattle.rosie_run.specs.declared.ended.Ended.TheVariants as E
use Rattle.rosie_io.specs.declared.stop.ReadStop.{ReadStop}
use Rattle.rosie_io.specs.declared.stop.ReadStop.TheVariants.{ReadFault, Spent}
use Rattle.rosie_run.specs.declared.lines.Reading.{Reading}
use Rattle.rosie_run.specs.declared.tally.Tally.{Tally}
use Rattle.rosie_run.proofs.Onward.{goes_by, stops_by}
use Rattle.rosie_run.proofs.Pieces.{has_append, has_up, up_all, wrote_append, stands_first, stands_on, stands_end}
use Rattle.rosie_run.proofs.Pieces.{stands_stop, stands_front}

-- what goes on breaks off in its next part
pub breaks_later : (W : Telling) (e : Ended) (all done qs todo : List Piece) (P Q : ReadStop → List ℕ → ℕ
    → Type 0) (a b d : Texts) (t : Tally) → Stands W all done (qs ++ todo) a b t
    → ((why : ReadStop) (file : List ℕ) (k : ℕ) → P why file k → Q why file (length done + k)) → Breaks e W qs P b d
    → Breaks e W all Q a d
breaks_later W (E.Cut why text) all done qs todo P Q a b d t s f h = record {
  file = h.file;
  done = done ++ h.done;
  todo = h.todo ++ todo;
  split = s.split ∙ ap (λ xs. done ++ (xs ++ todo)) h.split ∙ ap (λ xs. done ++ xs) (append_assoc h.done h.todo todo)
      ∙ sym (append_assoc done h.done (h.todo ++ todo));
  goes_on = has_append is_stop done h.done ∙ ap (λ x. x || has is_stop h.done) s.goes_on ∙ h.goes_on;
  wrote = wrote_append W done h.done a b d s.wrote h.wrote;
  says = h.says;
  stood = subst (Q why h.file) (sym (length-append done h.done)) (f why h.file (length h.done) h.stood);
}
breaks_later W _ all done qs todo P Q a b d t s f h = stands_front W all done qs todo a b d t s h

pub inputs_nil : (makes : Makes) (r : Reading) (tree : List (List ℕ × List ℕ)) (left : List ℕ)
    → inputs_pieces makes r tree left [] ≡ []
unfolding inputs_pieces
inputs_nil makes r tree left = refl

inputs_cons : (makes : Makes) (r : Reading) (tree : List (List ℕ × List ℕ)) (left name : List ℕ) (more : List (List ℕ))
    → inputs_pieces makes r tree left (name ∷ more) ≡ one_pieces makes r tree left name
    ++ inputs_pieces makes r tree (left_after name left) more
unfolding inputs_pieces
inputs_cons makes r tree left name more = refl

pub inputs_push : (makes : Makes) (r : Reading) (tree : List (List ℕ × List ℕ)) (left : List ℕ) (front :
    List (List ℕ)) (name : List ℕ) → inputs_pieces makes r tree left (front ++ name ∷ [])
    ≡ inputs_pieces makes r tree left front ++ one_pieces makes r tree (left_all front left) name
unfolding inputs_pieces left_all
inputs_push makes r tree left [] name = append-nil (one_pieces makes r tree left name)
inputs_push makes r tree left (n ∷ front) name =
    ap (λ xs. one_pieces makes r tree left n ++ xs) (inputs_push makes r tree (left_after n left) front name)
    ∙ sym (append_assoc (one_pieces makes r tree left n) (inputs_pieces makes r tree (left_after n left) front)
    (one_pieces makes r tree (left_all front (left_after n left)) name))

left_push : (front : List (List ℕ)) (name left : List ℕ)
    → left_all (front ++ name ∷ []) left ≡ left_after name (left_all front left)
unfolding left_all
left_push [] name left = refl
left_push (n ∷ front) name left = left_push front name (left_after n left)

reads_push : (front : List (List ℕ)) (name : List ℕ)
    → reads_standard (front ++ name ∷ []) ≡ (reads_standard front || is_standard name)
reads_push front name = list_any-append is_standard front (name ∷ [])
    ∙ ap (λ b. reads_standard front || b) (or-false (is_standard name))

-- the standard input was read, or it is not this one
read_by : (read read' is : Bool) (standard : Bool) → standard ≡ is → (standard ≡ true → read' ≡ true)
    → (standard ≡ false → read' ≡ read) → (read || is) ≡ read'
read_by true read' false standard e h k = sym (k e)
read_by false read' false standard e h k = sym (k e)
read_by true read' true standard e h k = sym (h e)
read_by false read' true standard e h k = sym (h e)

left_nil : (left : List ℕ) → left_all [] left ≡ left
unfolding left_all
left_nil left = refl

pub names_next : {Z : Type 0} (f : Z → List ℕ) (xs : List Z) (i : ℕ) (x : Z) (name : List ℕ) → i < length xs
    → x ≡ get_or xs i x → name ≡ f x → names_of f (drop i xs) ≡ name ∷ names_of f (drop (i + 1) xs)
names_next f xs i x name lt is e = ap (names_of f) (drop_more xs i x lt)
    ∙ ap (λ y. f y ∷ names_of f (drop (i + 1) xs)) (sym is) ∙ ap (λ n. n ∷ names_of f (drop (i + 1) xs)) (sym e)

pub names_none : {Z : Type 0} (f : Z → List ℕ) (xs : List Z) (i : ℕ) → length xs ≤ i → names_of f (drop i xs) ≡ []
names_none f xs i h = ap (names_of f) (drop_all i xs h)

-- the standard input was read, and nothing is left of it
by_standard : (standard : Bool) (left : List ℕ) (read read' : Bool) → (standard ≡ false → read' ≡ read)
    → (read ≡ true → left ≡ []) → read' ≡ true → cond standard [] left ≡ []
by_standard true left read read' stays h is = refl
by_standard false left read read' stays h is = h (sym (stays refl) ∙ is)

pub once_on : (name left left' : List ℕ) (read read' : Bool) → left' ≡ left_after name left
    → (is_standard name ≡ false → read' ≡ read) → (read ≡ true → left ≡ []) → read' ≡ true → left' ≡ []
once_on name left left' read read' e stays h is = e ∙ by_standard (is_standard name) left read read' stays h is

-- one that stands there is among them
any_drop : {Z : Type 0} (test : List ℕ → Bool) (f : Z → List ℕ) (xs : List Z) (i : ℕ)
    → list_any test (names_of f (drop i xs)) ≡ true → list_any test (names_of f xs) ≡ true
any_drop test f (x ∷ xs) (suc i) h = ap (λ b. test (f x) || b) (any_drop test f xs i h) ∙ or-true (test (f x))
any_drop test f xs zero h = h
any_drop test f [] (suc i) h = h

any_there : {Z : Type 0} (test : List ℕ → Bool) (f : Z → List ℕ) (xs : List Z) (i : ℕ) (name : List ℕ) (more :
    List (List ℕ)) → names_of f (drop i xs) ≡ name ∷ more → test name ≡ true → list_any test (names_of f xs) ≡ true
any_there test f xs i name more next is = any_drop test f xs i (ap (list_any test) next
    ∙ ap (λ b. b || list_any test more) is)

pub not_standard : {Z : Type 0} (f : Z → List ℕ) (xs : List Z) (i : ℕ) (name : List ℕ) (more : List (List ℕ))
    → names_of f (drop i xs) ≡ name ∷ more → reads_standard (names_of f xs) ≡ false → is_standard name ≡ false
not_standard f xs i name more next none =
    false_from_ne_true (is_standard name) (λ is. false≢true (sym none ∙ any_there is_standard f xs i name more next is))

-- what such a one needs is told
pub told_one : {Z : Type 0} (f : Z → List ℕ) (xs : List Z) (i : ℕ) (name : List ℕ) (more : List (List ℕ))
    (files input : Type 0) → names_of f (drop i xs) ≡ name ∷ more → AreTold (names_of f xs) files input
    → (is_standard name ≡ false → files) × (is_standard name ≡ true → input)
told_one f xs i name more files input next k = (
  λ n. k.of_files (any_there (λ x. not (is_standard x)) f xs i name more next (ap not n)),
  λ n. k.of_input (any_there is_standard f xs i name more next n),
)

pub untouched_on : {I : Type 0} (standard read read' : Bool) (i0 i i' : I) → (standard ≡ true → read' ≡ true)
    → (standard ≡ false → (read' ≡ read) × (i' ≡ i)) → (read ≡ false → i ≡ i0) → read' ≡ false → i' ≡ i0
untouched_on true read read' i0 i i' is isn't h e = absurd (false≢true (sym e ∙ is refl))
untouched_on false read read' i0 i i' is isn't h e = (isn't refl).1 ∙ h (sym (isn't refl).0 ∙ e)

-- if the counts of a source stay the same in two steps, they stay the same in both together
pub still_on : (m0 m m1 : Moment) → Still m0 m → Still m m1 → Still m0 m1
still_on m0 m m1 a b = record { faults = b.faults ∙ a.faults; opens = b.opens ∙ a.opens }

ends_later : (why : ReadStop) (m0 m m1 : Moment) → m.faults ≡ m0.faults → (m.taken < 2 ^ 64 - 1 → m0.taken ≤ m.taken)
    → Ends why m m1 → Ends why m0 m1
ends_later ReadFault m0 m m1 f t h = subst (λ x. Rose x m1.faults) f h
ends_later Spent m0 m m1 f t h = λ lt. let a = h lt in let b = t (omega arith) in omega arith

-- where reading stood in a file holds from an earlier moment on, if no fault and no failed open came in between
pub file_later : (tree : List (List ℕ × List ℕ)) (whole : Bool) (f0 f f1 : Moment) (why : ReadStop) (file : List ℕ) (k :
    ℕ) → f.faults ≡ f0.faults → f.opens ≡ f0.opens → (f.taken < 2 ^ 64 - 1 → f0.taken ≤ f.taken)
    → InFile tree whole f f1 why file k → InFile tree whole f0 f1 why file k
file_later tree whole f0 f f1 why file k faults opens taken (not_opened w rose z) =
    not_opened w (subst (λ x. Rose x f1.opens) opens rose) z
file_later tree whole f0 f f1 why file k faults opens taken (opened got o e is z long) =
    opened got (o ∙ opens) (ends_later why f0 f f1 faults taken e) is z long

module _ (W : Telling) (makes : Makes) (r : Reading) (tree : List (List ℕ × List ℕ)) (input : List ℕ) (names :
    List (List ℕ)) where
  pub reached_start : (a b : Texts) (t : Tally) (back : List (List ℕ)) → back ≡ names → b ≡ a
      → (W.counts → a.number ≤ 2 ^ 64 - 1) → t ≡ tally_of [] → Reached W makes r tree input input names back false t a b
  reached_start a b t back is e fits none = record {
    front = [];
    split = sym is;
    leaves = sym (left_nil input);
    reads = refl;
    stands = subst (λ ps. Stands W (inputs_pieces makes r tree input names) ps (inputs_pieces makes r tree input back) a
        b t) (sym (inputs_nil makes r tree input))
        (subst (λ xs. Stands W (inputs_pieces makes r tree input names) [] (inputs_pieces makes r tree input xs) a b t)
        (sym is) (stands_first W (inputs_pieces makes r tree input names) a b t e fits none));
  }

  -- no piece has ended the run so far
  pub none_reached : (left : List ℕ) (back : List (List ℕ)) (read : Bool) (t : Tally) (a b : Texts)
      → Reached W makes r tree input left names back read t a b → t.stop ≡ false
  none_reached left back read t a b h = ap (λ (x : Tally). x.stop) h.stands.comes_to ∙ h.stands.goes_on

  module _ (left name : List ℕ) (back back' : List (List ℕ)) (read : Bool) (t : Tally) (a b : Texts) (h :
      Reached W makes r tree input left names back read t a b) (next : back ≡ name ∷ back') where
    ahead : Stands W (inputs_pieces makes r tree input names) (inputs_pieces makes r tree input h.front)
        (one_pieces makes r tree left name ++ inputs_pieces makes r tree (left_after name left) back') a b t
    ahead = subst (λ ps. Stands W (inputs_pieces makes r tree input names) (inputs_pieces makes r tree input h.front) ps
        a b t) (ap (inputs_pieces makes r tree left) next ∙ inputs_cons makes r tree left name back') h.stands

    none_yet : t.stop ≡ false
    none_yet = none_reached left back read t a b h

    whole : names ≡ h.front ++ name ∷ back'
    whole = h.split ∙ ap (λ xs. h.front ++ xs) next

    module _ (d : Texts) (part t' : Tally) (w : Wrote W (up_to_stop (one_pieces makes r tree left name)) b d
        × (part ≡ tally_of (up_to_stop (one_pieces makes r tree left name)))) (sums : t' ≡ added t part) where
      part_stop : part.stop ≡ has is_stop (one_pieces makes r tree left name)
      part_stop = ap (λ (x : Tally). x.stop) w.1 ∙ has_up (one_pieces makes r tree left name)

      pub part_goes : t'.stop ≡ false → part.stop ≡ false
      part_goes goes = goes_by t.stop part.stop none_yet (sym (ap (λ (x : Tally). x.stop) sums) ∙ goes)

      -- an input was passed
      pub reached_on : (left' : List ℕ) (read' : Bool) → t'.stop ≡ false
          → (part.stop ≡ false → left' ≡ left_after name left) → (is_standard name ≡ true → read' ≡ true)
          → (is_standard name ≡ false → read' ≡ read) → Reached W makes r tree input left' names back' read' t' a d
      reached_on left' read' goes leaves' is isn't =
          let off = part_goes goes in
          let leaves = leaves' off in
          let clear : has is_stop (one_pieces makes r tree left name) ≡ false = sym part_stop ∙ off in
          let same = up_all (one_pieces makes r tree left name) clear in
          let on : Stands W (inputs_pieces makes r tree input names) (inputs_pieces makes r tree input h.front
          ++ one_pieces makes r tree left name) (inputs_pieces makes r tree (left_after name left) back') a d t' =
          stands_on W (inputs_pieces makes r tree input names) (inputs_pieces makes r tree input h.front)
          (one_pieces makes r tree left name) (inputs_pieces makes r tree (left_after name left) back') a b d t t'
          ahead (subst (λ ps. Wrote W ps b d) same w.0) clear (sums ∙ ap (added t) (w.1 ∙ ap tally_of same)) in
          record {
            front = h.front ++ name ∷ [];
            split = whole ∙ sym (append_assoc h.front (name ∷ []) back');
            leaves = leaves ∙ ap (left_after name) h.leaves ∙ sym (left_push h.front name input);
            reads = reads_push h.front name ∙ ap (λ x. x || is_standard name) h.reads
                ∙ read_by read read' (is_standard name) (is_standard name) refl is isn't;
            stands = subst (λ ps. Stands W (inputs_pieces makes r tree input names) ps
                (inputs_pieces makes r tree left' back') a d t')
                (ap (λ x. inputs_pieces makes r tree input h.front ++ one_pieces makes r tree x name) h.leaves
                ∙ sym (inputs_push makes r tree input h.front name))
                (subst (λ x. Stands W (inputs_pieces makes r tree input names) (inputs_pieces makes r tree input h.front
                ++ one_pieces makes r tree left name) (inputs_pieces makes r tree x back') a d t') (sym leaves) on);
          }

      -- a piece of it ends the run
      pub reached_stop : t'.stop ≡ true → Wrote W (up_to_stop (inputs_pieces makes r tree input names)) a d
          × (t' ≡ tally_of (up_to_stop (inputs_pieces makes r tree input names)))
      reached_stop stop =
          let off : part.stop ≡ true = stops_by t.stop part.stop none_yet (sym (ap (λ (x : Tally). x.stop) sums)
          ∙ stop) in
          stands_stop W (inputs_pieces makes r tree input names) (inputs_pieces makes r tree input h.front)
          (one_pieces makes r tree left name) (inputs_pieces makes r tree (left_after name left) back') a b d t t'
          ahead (sym part_stop ∙ off) w.0 (sums ∙ ap (added t) w.1)

      -- and that piece is one of the inputs up to this one
      pub ends_there : t'.stop ≡ true → has is_stop (inputs_pieces makes r tree input (h.front ++ name ∷ [])) ≡ true
      ends_there stop =
          let off : part.stop ≡ true = stops_by t.stop part.stop none_yet (sym (ap (λ (x : Tally). x.stop) sums)
          ∙ stop) in
          let before = inputs_pieces makes r tree input h.front in
          ap (has is_stop) (inputs_push makes r tree input h.front name
          ∙ ap (λ x. before ++ one_pieces makes r tree x name) (sym h.leaves))
          ∙ has_append is_stop before (one_pieces makes r tree left name)
          ∙ ap (λ x. has is_stop before || x) (sym part_stop ∙ off) ∙ or-true (has is_stop before)

    module _ (i0 i i1 f0 f f1 : Moment) (first : read ≡ false → i ≡ i0) (faults : f.faults ≡ f0.faults) (opens :
        f.opens ≡ f0.opens) (taken : f.taken < 2 ^ 64 - 1 → f0.taken ≤ f.taken) where
      stood : (why : ReadStop) (file : List ℕ) (k : ℕ) → InOne name read tree r.whole i i1 f f1 why file k
          → InInputs names (λ front. length (inputs_pieces makes r tree input front)) tree r.whole i0 i1 f0 f1 why file
          (length (inputs_pieces makes r tree input h.front) + k)
      stood why file k (of_standard is once x) =
          in_standard h.front back' k (whole ∙ ap (λ n. h.front ++ n ∷ back') (sym x.0)) (ap is_standard x.0
          ∙ is) (h.reads ∙ once) (subst (λ m. InSource r.whole m i1 why k) (first once) x.1) refl
      stood why file k (of_file isn't x) =
          in_file h.front back' k (whole ∙ ap (λ n. h.front ++ n ∷ back') (sym x.0)) (ap is_standard x.0
          ∙ isn't) (file_later tree r.whole f0 f f1 why file k faults opens taken x.1) refl

      pub reached_break : (e : Ended) (d : Texts)
          → Breaks e W (one_pieces makes r tree left name) (InOne name read tree r.whole i i1 f f1) b d
          → Breaks e W (inputs_pieces makes r tree input names)
          (InInputs names (λ front. length (inputs_pieces makes r tree input front)) tree r.whole i0 i1 f0 f1) a d
      reached_break e d x =
          breaks_later W e (inputs_pieces makes r tree input names) (inputs_pieces makes r tree input h.front)
          (one_pieces makes r tree left name) (inputs_pieces makes r tree (left_after name left) back')
          (InOne name read tree r.whole i i1 f f1)
          (InInputs names (λ front. length (inputs_pieces makes r tree input front)) tree r.whole i0 i1 f0 f1) a b d t
          ahead stood x

  -- all inputs were passed
  pub reached_end : (left : List ℕ) (back : List (List ℕ)) (read : Bool) (t : Tally) (a b : Texts)
      → Reached W makes r tree input left names back read t a b → back ≡ []
      → Wrote W (up_to_stop (inputs_pieces makes r tree input names)) a b
      × (t ≡ tally_of (up_to_stop (inputs_pieces makes r tree input names)))
  reached_end left back read t a b h none =
      stands_end W (inputs_pieces makes r tree input names) (inputs_pieces makes r tree input h.front)
      (inputs_pieces makes r tree left back) a b t h.stands (ap (inputs_pieces makes r tree left) none
      ∙ inputs_nil makes r tree left)

  pub reached_all : (left : List ℕ) (back : List (List ℕ)) (read : Bool) (t : Tally) (a b : Texts)
      → Reached W makes r tree input left names back read t a b → back ≡ [] → reads_standard names ≡ read
  reached_all left back read t a b h none = ap reads_standard (h.split ∙ ap (λ xs. h.front ++ xs) none
      ∙ append-nil h.front) ∙ h.reads
