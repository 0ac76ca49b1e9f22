-- Which files a run over several inputs asked for, from input to input.
use Rattle.std.proofs.Common.{ℕ, ◌≡◌, inl, inr, Bool, true, false, ◌||◌, cond, List, [], ◌∷◌, ◌++◌, length, refl}
use Rattle.std.proofs.Common.{take, length-append, sym, ◌∙◌, ap, subst, append_assoc, arith}
use Rattle.std.specs.Prelude.{Result, Ok, Err, IfErr, IfOk, IsErrAnd, not}
use Rattle.std.proofs.lemmas.List.{append-nil, append_cancel_right, take_at}
use Rattle.std.proofs.lemmas.List.Elements.{filter-append}
use Rattle.rosie_run.specs.Asked.{AsksFor, AsksInputs, CutInLast, files_among}
use Rattle.rosie_run.specs.Course.{Course}
use Rattle.rosie_run.specs.Going.{CutSays, IsSaidBy}
use Rattle.rosie_run.specs.Inputs.{AreTold, inputs_pieces, is_standard, one_pieces}
use Rattle.rosie_run.specs.inside.Going.{Asked, Reached, left_all}
use Rattle.rosie_run.specs.Lines.{Makes}
use Rattle.rosie_run.specs.Outputs.{Telling, Texts}
use Rattle.rosie_run.specs.Report.{has, is_stop}
use Rattle.rosie_run.specs.Runs.{GoesOn, IsNoCut}
use Rattle.rosie_run.specs.declared.ended.Ended.{Ended}
use Rattle.rosie_run.specs.declared.ended.Ended.TheVariants as E
use Rattle.rosie_run.specs.declared.lines.Reading.{Reading}
use Rattle.rosie_run.specs.declared.tally.Tally.{Tally}
use Rattle.rosie_run.specs.declared.tool.Tool.{Tool}
use Rattle.rosie_run.proofs.Inward.{inputs_nil, inputs_push}
use Rattle.rosie_run.proofs.Pieces.{has_append, has_nil}

-- ---- the line that says why reading ended the run

pub cut_said : (e : Ended) (tool : Tool) (name : List ℕ) → IsSaidBy tool name e → CutSays tool name e
cut_said E.NoMemory tool name h = tt
cut_said E.WriteFault tool name h = absurd h
cut_said (E.Cut why text) tool name h = h

pub cut_none : (e : Ended) (tool : Tool) (name : List ℕ) → IsNoCut e → CutSays tool name e
cut_none (E.Cut why text) tool name h = absurd h
cut_none _ tool name h = tt

-- ---- one input

asks_for : (r : Result Tally Ended) (paths asked0 asked1 : List (List ℕ)) → asked1 ≡ asked0 ++ paths
    → AsksFor paths r asked0 asked1
asks_for (Err E.NoMemory) paths asked0 asked1 e = inl e
asks_for (Err E.WriteFault) paths asked0 asked1 e = e
asks_for (Err (E.Cut why text)) paths asked0 asked1 e = e
asks_for (Ok tally) paths asked0 asked1 e = e

pub asks_memory : (r : Result Tally Ended) (paths asked : List (List ℕ)) → IsErrAnd r (λ e. e ≡ E.NoMemory)
    → AsksFor paths r asked asked
asks_memory (Ok tally) paths asked h = absurd h
asks_memory (Err e) paths asked h = subst (λ x. AsksFor paths (Err x) asked asked) (sym h) (inr refl)

-- a file is asked for, and the standard input isn't
pub asks_file : (r : Result Tally Ended) (name : List ℕ) (asked0 asked1 : List (List ℕ)) → is_standard name ≡ false
    → AsksFor (name ∷ []) r asked0 asked1 → AsksFor (files_among (name ∷ [])) r asked0 asked1
asks_file r name asked0 asked1 is h =
    subst (λ paths. AsksFor paths r asked0 asked1) (ap (λ b. cond (not b) (name ∷ []) []) (sym is)) h

pub asks_standard : (r : Result Tally Ended) (name : List ℕ) (asked0 asked1 : List (List ℕ))
    → is_standard name ≡ true → asked1 ≡ asked0 → AsksFor (files_among (name ∷ [])) r asked0 asked1
asks_standard r name asked0 asked1 is e =
    asks_for r (files_among (name ∷ [])) asked0 asked1 (e ∙ sym (append-nil asked0)
    ∙ ap (λ b. asked0 ++ cond (not b) (name ∷ []) []) (sym is))

-- ---- the inputs in turn

pub asks_start : (names asked : List (List ℕ)) → Asked names names asked asked
asks_start names asked = record { front = []; split = refl; asked = sym (append-nil asked) }

one_split : (front names back back' : List (List ℕ)) (name : List ℕ) → names ≡ front ++ back → back ≡ name ∷ back'
    → names ≡ (front ++ name ∷ []) ++ back'
one_split front names back back' name split next =
    split ∙ ap (λ xs. front ++ xs) next ∙ sym (append_assoc front (name ∷ []) back')

one_asked : (front asked0 asked asked1 : List (List ℕ)) (name : List ℕ) → asked ≡ asked0 ++ files_among front
    → asked1 ≡ asked ++ files_among (name ∷ []) → asked1 ≡ asked0 ++ files_among (front ++ name ∷ [])
one_asked front asked0 asked asked1 name h e =
    e ∙ ap (λ xs. xs ++ files_among (name ∷ [])) h
    ∙ append_assoc asked0 (files_among front) (files_among (name ∷ []))
    ∙ ap (λ xs. asked0 ++ xs) (sym (filter-append (λ n. not (is_standard n)) front (name ∷ [])))

pub asks_on : (names back back' asked0 asked asked1 : List (List ℕ)) (name : List ℕ) → Asked names back asked0 asked
    → back ≡ name ∷ back' → asked1 ≡ asked ++ files_among (name ∷ []) → Asked names back' asked0 asked1
asks_on names back back' asked0 asked asked1 name h next e = record {
  front = h.front ++ name ∷ [];
  split = one_split h.front names back back' name h.split next;
  asked = one_asked h.front asked0 asked asked1 name h.asked e;
}

first_off : (a b : Bool) → (a || b) ≡ false → a ≡ false
first_off true b h = h
first_off false b h = refl

-- what stands before the last is the same where the whole is
before_last : {X : Type 0} (xs ys : List X) (x y : X) → xs ++ x ∷ [] ≡ ys ++ y ∷ [] → xs ≡ ys
before_last xs ys x y e =
    let m : length (xs ++ x ∷ []) ≡ length (ys ++ y ∷ []) = ap length e in
    let n : length ys ≡ length xs = omega (arith, length-append xs (x ∷ []), length-append ys (y ∷ [])) in
    sym (take_at xs (x ∷ []) (length xs) refl) ∙ ap (take (length xs)) e ∙ take_at ys (y ∷ []) (length xs) n

module _ (makes : Makes) (r : Reading) (tree : List (List ℕ × List ℕ)) (input : List ℕ) where
  -- no piece of these inputs ends the run
  abbrev Clear : List (List ℕ) → Type 0
  Clear front = has is_stop (inputs_pieces makes r tree input front) ≡ false

  clear_nil : has is_stop (inputs_pieces makes r tree input []) ≡ false
  clear_nil = ap (has is_stop) (inputs_nil makes r tree input) ∙ has_nil is_stop

  clear_front : (front before : List (List ℕ)) (last : List ℕ) → front ≡ before ++ last ∷ []
      → has is_stop (inputs_pieces makes r tree input front) ≡ false
      → has is_stop (inputs_pieces makes r tree input before) ≡ false
  clear_front front before last is h =
      let a = inputs_pieces makes r tree input before in
      let b = one_pieces makes r tree (left_all before input) last in
      first_off (has is_stop a) (has is_stop b) (sym (has_append is_stop a b)
      ∙ ap (has is_stop) (sym (inputs_push makes r tree input before last))
      ∙ ap (λ xs. has is_stop (inputs_pieces makes r tree input xs)) (sym is) ∙ h)

  -- none of those that were passed ends it
  pub clear_reached : (W : Telling) (left : List ℕ) (names back front : List (List ℕ)) (read : Bool) (t : Tally) (a b :
      Texts) → Reached W makes r tree input left names back read t a b → names ≡ front ++ back
      → has is_stop (inputs_pieces makes r tree input front) ≡ false
  clear_reached W left names back front read t a b h split =
      subst Clear (append_cancel_right h.front front back (sym h.split ∙ split)) h.stands.goes_on

  -- the next input has the piece that ends it
  pub ends_reached : (W : Telling) (left : List ℕ) (names back front : List (List ℕ)) (read : Bool) (t : Tally) (a b :
      Texts) (h : Reached W makes r tree input left names back read t a b) (name : List ℕ) → names ≡ front ++ back
      → has is_stop (inputs_pieces makes r tree input (h.front ++ name ∷ [])) ≡ true
      → has is_stop (inputs_pieces makes r tree input (front ++ name ∷ [])) ≡ true
  ends_reached W left names back front read t a b h name split is =
      subst (λ xs. has is_stop (inputs_pieces makes r tree input (xs ++ name ∷ [])) ≡ true)
      (append_cancel_right h.front front back (sym h.split ∙ split)) is

module _ (makes : Makes) (r : Reading) (names : List (List ℕ)) (c : Course) (back asked0 asked : List (List ℕ)) (h :
    Asked names back asked0 asked) (clear : AreTold names c.files_tell c.input_tells
    → has is_stop (inputs_pieces makes r c.tree c.input.before.rest h.front) ≡ false) where
  -- where a piece ended the run, it is one of these inputs'
  abbrev EndsIn : List (List ℕ) → Tally → Type 0
  EndsIn front tally = tally.stop ≡ true → has is_stop (inputs_pieces makes r c.tree c.input.before.rest front) ≡ true

  -- the run asks for no more
  pub asks_end : (result : Result Tally Ended) → GoesOn result (back ≡ []) → IfErr result (CutInLast r.tool h.front)
      → (AreTold names c.files_tell c.input_tells → IfOk result (EndsIn h.front))
      → AsksInputs result makes r names c asked0 asked
  asks_end result all cut ended = record {
    front = h.front;
    back = back;
    split = h.split;
    asked = h.asked;
    all = all;
    cut = cut;
    goes_on = λ k before last is. clear_front makes r c.tree c.input.before.rest h.front before last is (clear k);
    ended = ended;
  }

  module _ (name : List ℕ) (back' asked1 : List (List ℕ)) (next : back ≡ name ∷ back') where
    -- it asks for one more
    pub asks_last : (result : Result Tally Ended) → asked1 ≡ asked ++ files_among (name ∷ [])
        → GoesOn result (back' ≡ []) → IfErr result (CutInLast r.tool (h.front ++ name ∷ []))
        → (AreTold names c.files_tell c.input_tells → IfOk result (EndsIn (h.front ++ name ∷ [])))
        → AsksInputs result makes r names c asked0 asked1
    asks_last result e all cut ended = record {
      front = h.front ++ name ∷ [];
      back = back';
      split = one_split h.front names back back' name h.split next;
      asked = one_asked h.front asked0 asked asked1 name h.asked e;
      all = all;
      cut = cut;
      goes_on = λ k before last is.
          subst (λ xs. has is_stop (inputs_pieces makes r c.tree c.input.before.rest xs) ≡ false)
          (before_last h.front before name last is) (clear k);
      ended = ended;
    }

    -- it breaks off there
    pub asks_broke : (e : Ended) → AsksFor (files_among (name ∷ [])) (Err e) asked asked1 → CutSays r.tool name e
        → AsksInputs (Err e) makes r names c asked0 asked1
    asks_broke E.NoMemory (inl x) says = asks_last (Err E.NoMemory) x tt tt (λ _. tt)
    asks_broke E.NoMemory (inr x) says =
        subst (λ z. AsksInputs (Err E.NoMemory) makes r names c asked0 z) (sym x)
        (asks_end (Err E.NoMemory) tt tt (λ _. tt))
    asks_broke E.WriteFault x says = asks_last (Err E.WriteFault) x tt tt (λ _. tt)
    asks_broke (E.Cut why text) x says = asks_last (Err (E.Cut why text)) x tt (h.front, name, refl, says) (λ _. tt)

-- there was no memory to begin
pub asks_nothing : (makes : Makes) (r : Reading) (names : List (List ℕ)) (c : Course) (asked : List (List ℕ))
    → AsksInputs (Err E.NoMemory) makes r names c asked asked
asks_nothing makes r names c asked = record {
  front = [];
  back = names;
  split = refl;
  asked = sym (append-nil asked);
  all = tt;
  cut = tt;
  goes_on = λ k before last is.
      clear_front makes r c.tree c.input.before.rest [] before last is (clear_nil makes r c.tree c.input.before.rest);
  ended = λ _. tt;
}
