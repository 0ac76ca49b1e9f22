-- What is said at the end, from line to line and from input to input.
use Rattle.std.proofs.Common.{ℕ, ◌≡◌, ◌<◌, ◌≤◌, Bool, true, false, cond, List, [], ◌∷◌, ◌++◌, length}
use Rattle.std.proofs.Common.{Result, Ok, Err, Option, None, Some, refl, sym, ◌∙◌, ap, subst, arith}
use Rattle.std.specs.List.{filter}
use Rattle.std.specs.Prelude.{IsErrAnd, nat_lt}
use Rattle.std.specs.Str.{is_utf8}
use Rattle.std.proofs.lemmas.Bool.{cond-false, cond-true, false≢true}
use Rattle.rosie_io.specs.Answering.{Passes}
use Rattle.rosie_io.specs.Gathering.{Splits}
use Rattle.rosie_io.specs.Lines.{lines}
use Rattle.rosie_io.specs.Opening.{file_of}
use Rattle.rosie_io.specs.Reader.{Reader}
use Rattle.rosie_io.specs.declared.reader.Line.{Line}
use Rattle.rosie_io.specs.declared.reader.Line.TheVariants as L
use Rattle.rosie_io.specs.declared.reader.LineFault.{LineFault}
use Rattle.rosie_io.specs.declared.reader.LineFault.TheVariants as F
use Rattle.rosie_run.specs.Given.{bytes_given, file_given, inputs_given, is_given, one_given}
use Rattle.rosie_run.specs.Going.{OnPiece, how_of}
use Rattle.rosie_run.specs.Inputs.{is_standard, left_after}
use Rattle.rosie_run.specs.Lines.{Makes}
use Rattle.rosie_run.specs.Report.{Piece}
use Rattle.rosie_run.specs.Runs.{GoesOn}
use Rattle.rosie_run.specs.declared.ended.Ended.{Ended}
use Rattle.rosie_run.specs.declared.ended.Ended.TheVariants as E
use Rattle.rosie_io.specs.declared.stop.ReadStop.TheVariants as Y
use Rattle.rosie_run.specs.declared.lines.Reading.{Reading}
use Rattle.rosie_run.specs.declared.mark.Mark.{Mark}
use Rattle.rosie_run.specs.declared.tally.Tally.{Tally}
use Rattle.rosie_run.specs.declared.tool.Tool.{Tool}
use Rattle.rosie_run.specs.FromLines.{SaysBy, to_give}
use Rattle.rosie_run.specs.Passing.{IsStop, IsStopOrMemory, MakesOf, MakesPiece, SaysOf}
use Rattle.rosie_run.proofs.Onward.{lines_none}

abbrev pub Says : Type 0
Says = List (List ℕ) → List ℕ

-- ---- from line to line

long_given : (most : ℕ) (line : List ℕ) → most < length line → is_given most line ≡ false
long_given most line h =
    let test : nat_lt most (length line) ≡ true = grind (arith, h) in
    cond-true (nat_lt most (length line)) false (is_utf8 line) test

short_given : (most : ℕ) (line : List ℕ) → length line ≤ most → is_given most line ≡ is_utf8 line
short_given most line h =
    let test : nat_lt most (length line) ≡ false = grind (arith, h) in
    cond-false (nat_lt most (length line)) false (is_utf8 line) test

-- the line is given, or not
filter_by : (test : List ℕ → Bool) (line : List ℕ) (more : List (List ℕ)) (b : Bool) → test line ≡ b
    → filter test (line ∷ more) ≡ cond b (line ∷ filter test more) (filter test more)
filter_by test line more b e = ap (λ x. cond x (line ∷ filter test more) (filter test more)) e

module _ (old now : Reader) (left0 left1 : List ℕ) (whole : now.whole ≡ old.whole) (most : now.most ≡ old.most) where
  given_now : filter (is_given old.most) (lines old.whole left1) ≡ to_give now left1
  given_now =
      ap (λ m. filter (is_given m) (lines old.whole left1)) (sym most)
      ∙ ap (λ w. filter (is_given now.most) (lines w left1)) (sym whole)

  given_next : (line : List ℕ) (b : Bool) → Splits old.whole now.held.ended line left0 left1
      → is_given old.most line ≡ b
      → to_give old left0 ≡ cond b (line ∷ to_give now left1) (to_give now left1)
  given_next line b sp is =
      ap (filter (is_given old.most)) sp.lines
      ∙ filter_by (is_given old.most) line (lines old.whole left1) b is
      ∙ ap (λ xs. cond b (line ∷ xs) xs) given_now

  given_none : left0 ≡ [] → to_give old left0 ≡ []
  given_none none = ap (to_give old) none ∙ ap (filter (is_given old.most)) (lines_none old.whole)

  module _ (begin says0 says1 : Says) (first : List (List ℕ))
      (h : (more : List (List ℕ)) → says0 (to_give old left0 ++ more) ≡ begin (first ++ more)) where
    abbrev By : Result (Option Mark) Ended → Type 0
    By result = SaysBy (how_of result) begin says1 first (to_give now left1)

    ended_says : (e : Ended) → By (Err e)
    ended_says E.NoMemory = tt
    ended_says _ = tt

    failed_says : (result : Result (Option Mark) Ended) (P : Ended → Type 0) → IsErrAnd result P → By result
    failed_says (Ok found) P m = absurd m
    failed_says (Err e) P m = ended_says e

    module _ (out err : List ℕ) (s0 s1 : ℕ) where
      text_says : (result : Result (Option Mark) Ended) (p : Piece) (line : List ℕ) → MakesPiece result p out err s0 s1
          → OnPiece result ((more : List (List ℕ)) → says1 more ≡ says0 (line ∷ more))
          → to_give old left0 ≡ line ∷ to_give now left1 → By result
      text_says (Ok (Some mark)) p line m s is = λ more.
          s (to_give now left1 ++ more) ∙ ap (λ xs. says0 (xs ++ more)) (sym is) ∙ h more
      text_says (Ok None) p line m s is = absurd m
      text_says (Err e) p line m s is = ended_says e

      other_says : (result : Result (Option Mark) Ended) (p : Piece) → MakesPiece result p out err s0 s1 → says1 ≡ says0
          → to_give old left0 ≡ to_give now left1 → By result
      other_says (Ok (Some mark)) p m s is = λ more.
          ap (λ (f : Says). f (to_give now left1 ++ more)) s ∙ ap (λ xs. says0 (xs ++ more)) (sym is) ∙ h more
      other_says (Ok None) p m s is = absurd m
      other_says (Err e) p m s is = ended_says e

      -- by the answer of the reader
      pub says_of : (found : Result Line LineFault) (result : Result (Option Mark) Ended) (makes : Makes) (tool : Tool)
          (file : List ℕ) → MakesOf found result makes tool file now.number now.text out err s0 s1
          → Passes found old now left0 left1 → SaysOf found result says1 says0 now.text
          → SaysBy (how_of result) begin says1 first (to_give now left1)
      says_of (Ok L.Text) result makes tool file m p s =
          text_says result (makes file now.number now.text) now.text m s
          (given_next now.text true p.0 (short_given old.most now.text p.1 ∙ p.2))
      says_of (Ok L.End) result makes tool file m p s =
          let ends : (more : List (List ℕ)) → says1 more ≡ begin (first ++ more) = λ more.
          ap (λ (f : Says). f more) s ∙ ap (λ xs. says0 (xs ++ more)) (sym (given_none p.0)) ∙ h more in
          subst By (sym m.0) ends
      says_of (Err (F.TooLong k)) result makes tool file m p s =
          other_says result _ m s (given_next p.0 false p.1 (long_given old.most p.0 p.2))
      says_of (Err (F.NotText k)) result makes tool file m p s =
          other_says result _ m s (given_next p.0 false p.1 (short_given old.most p.0 p.2 ∙ p.3))
      says_of (Err F.NoMemory) result makes tool file m p s = subst By (sym m) tt
      says_of (Err (F.Stopped Y.ReadFault)) result makes tool file m p s = failed_says result (IsStop Y.ReadFault) m.0
      says_of (Err (F.Stopped Y.Spent)) result makes tool file m p s = failed_says result (IsStopOrMemory Y.Spent) m.0

-- ---- from input to input

pub goes_stopped : (tally : Tally) (P : Type 0) → tally.stop ≡ true → GoesOn (Ok tally) P
goes_stopped tally P stop = λ goes. absurd (false≢true (sym goes ∙ stop))

module _ (r : Reading) (tree : List (List ℕ × List ℕ)) (left name : List ℕ) where
  one_standard : is_standard name ≡ true → bytes_given r left ≡ one_given r tree left name
  one_standard is = ap (λ b. cond b (bytes_given r left) (file_given r (file_of name tree))) (sym is)

  -- the standard input a second time
  pub again_given : is_standard name ≡ true → left ≡ [] → one_given r tree left name ≡ []
  again_given is none =
      sym (one_standard is) ∙ ap (bytes_given r) none ∙ ap (filter (is_given r.most)) (lines_none r.whole)

inputs_nil : (r : Reading) (tree : List (List ℕ × List ℕ)) (left : List ℕ) → inputs_given r tree left [] ≡ []
unfolding inputs_given
inputs_nil r tree left = refl

inputs_cons : (r : Reading) (tree : List (List ℕ × List ℕ)) (left name : List ℕ) (more : List (List ℕ))
    → inputs_given r tree left (name ∷ more) ≡ one_given r tree left name
    ++ inputs_given r tree (left_after name left) more
unfolding inputs_given
inputs_cons r tree left name more = refl

module _ (r : Reading) (tree : List (List ℕ × List ℕ)) (begin : Says) (all : List (List ℕ)) where
  -- an input was passed
  pub says_on : (says says' : Says) (left left' name : List ℕ) (back more : List (List ℕ)) → back ≡ name ∷ more
      → left' ≡ left_after name left
      → ((later : List (List ℕ)) → says' later ≡ says (one_given r tree left name ++ later))
      → says (inputs_given r tree left back) ≡ begin all → says' (inputs_given r tree left' more) ≡ begin all
  says_on says says' left left' name back more next e s h =
      ap (λ x. says' (inputs_given r tree x more)) e ∙ s (inputs_given r tree (left_after name left) more)
      ∙ ap says (sym (ap (inputs_given r tree left) next ∙ inputs_cons r tree left name more)) ∙ h

  -- all were
  pub says_end : (says : Says) (left : List ℕ) (back : List (List ℕ)) → back ≡ []
      → says (inputs_given r tree left back) ≡ begin all → says [] ≡ begin all
  says_end says left back none h =
      ap says (sym (ap (inputs_given r tree left) none ∙ inputs_nil r tree left)) ∙ h
