-- The run over the lines of one input, from line to line and to its end.
use Rattle.std.proofs.Common.{ℕ, ◌≡◌, ◌+◌, ◌<◌, ◌≤◌, Bool, true, false, ◌||◌, cond, List, [], ◌∷◌, ◌++◌, length, refl}
use Rattle.std.proofs.Common.{sym, ◌∙◌, ap, arith}
use Rattle.std.specs.Prelude.{codes, nat_lt}
use Rattle.std.specs.Str.{is_utf8}
use Rattle.std.proofs.lemmas.Bool.{cond-false, cond-true, false_from_ne_true, false≢true}
use Rattle.rosie_io.specs.Gathering.{left, unread, Splits}
use Rattle.rosie_io.specs.Held.{Held}
use Rattle.rosie_io.specs.Lines.{feeds, lines}
use Rattle.rosie_io.proofs.Cut.{cut_nil, feeds_append}
use Rattle.rosie_run.specs.Lines.{Makes, line_message, line_piece, passed, pieces_from}
use Rattle.rosie_run.specs.Outputs.{Telling, Texts, Wrote}
use Rattle.rosie_run.specs.Runs.{Stands}
use Rattle.rosie_run.specs.Report.{Piece, fault_piece, is_stop, up_to_stop}
use Rattle.rosie_run.specs.declared.lines.Reading.{Reading}
use Rattle.rosie_run.specs.declared.tally.Tally.{Tally}

-- what is told of the outputs is the same
pub record Same (W : Telling) (a b : Texts) : Type 0 where
  pub out : W.out → b.out ≡ a.out
  pub err : W.err → b.err ≡ a.err
  pub number : W.counts → b.number ≡ a.number
  pub steps : b.steps ≡ a.steps

pub wrote_still : (W : Telling) (ps : List Piece) (a b d : Texts) → Wrote W ps a b → Same W b d → Wrote W ps a d
wrote_still W ps a b d h s = record {
  out = λ t. s.out t ∙ h.out t;
  err = λ t. s.err t ∙ h.err t;
  number = λ t. s.number t ∙ h.number t;
  steps = s.steps ∙ h.steps;
}

pub stands_still : (W : Telling) (all done todo : List Piece) (a b d : Texts) (t : Tally) → Stands W all done todo a b t
    → Same W b d → Stands W all done todo a d t
stands_still W all done todo a b d t h s = record {
  split = h.split;
  goes_on = h.goes_on;
  wrote = wrote_still W done a b d h.wrote s;
  comes_to = h.comes_to;
}

pub is_open : (before now : Bool) → (before ≡ true → now ≡ true) → now ≡ false → before ≡ false
is_open before now h e = false_from_ne_true before (λ is. false≢true (sym e ∙ h is))

-- the end of the input stays its end
pub end_next : (ended ended' : Bool) (rest rest' : List ℕ) → (ended ≡ true → rest ≡ [])
    → (ended ≡ false → ended' ≡ true → rest' ≡ []) → (ended ≡ true → rest' ≡ rest) → ended' ≡ true → rest' ≡ []
end_next true ended' rest rest' h f s e = s refl ∙ h refl
end_next false ended' rest rest' h f s e = f refl e

feeds_left : (held : Held) (rest : List ℕ) → held.ended ≡ false → feeds (left held rest) ≡ feeds held.bytes + feeds rest
feeds_left held rest opened = ap (λ e. feeds (held.bytes ++ unread e rest)) opened ∙ feeds_append held.bytes rest

-- an empty text has no lines
pub lines_none : (whole : Bool) → lines whole [] ≡ []
lines_none true = refl
lines_none false = cut_nil

-- no lines have no pieces
pub pieces_none : (makes : Makes) (r : Reading) (file : List ℕ) (n : ℕ) (ls : List (List ℕ)) → ls ≡ []
    → pieces_from makes r file n ls ≡ []
unfolding pieces_from
pieces_none makes r file n ls e = ap (pieces_from makes r file n) e

-- the pieces of some lines are the piece of the first line, and then those of the other lines
pub pieces_next : (makes : Makes) (r : Reading) (file : List ℕ) (n : ℕ) (line : List ℕ) (more ls : List (List ℕ))
    → ls ≡ line ∷ more → pieces_from makes r file n ls ≡ line_piece makes r file (n + 1) line ∷ pieces_from makes r file
    (n + 1) more
unfolding pieces_from
pieces_next makes r file n line more ls e = ap (pieces_from makes r file n) e

-- the piece of one line, case by case
module _ (makes : Makes) (r : Reading) (file : List ℕ) (n : ℕ) (line : List ℕ) where
  abbrev long : Piece
  long = fault_piece (line_message r.tool file n (codes "line too long"))

  abbrev no_text : Piece
  no_text = fault_piece (line_message r.tool file n (codes "not UTF-8"))

  short : length line ≤ r.most → line_piece makes r file n line ≡ cond (is_utf8 line) (makes file n line) no_text
  unfolding line_piece
  short h =
      let test : nat_lt r.most (length line) ≡ false = grind (arith, h) in
      cond-false (nat_lt r.most (length line)) long (cond (is_utf8 line) (makes file n line) no_text) test

  pub long_is : r.most < length line → line_piece makes r file n line ≡ long
  unfolding line_piece
  long_is h =
      let test : nat_lt r.most (length line) ≡ true = grind (arith, h) in
      cond-true (nat_lt r.most (length line)) long (cond (is_utf8 line) (makes file n line) no_text) test

  pub no_text_is : length line ≤ r.most → is_utf8 line ≡ false → line_piece makes r file n line ≡ no_text
  no_text_is h u = short h ∙ cond-false (is_utf8 line) (makes file n line) no_text u

  -- the piece of a line of text that is not too long is what the job makes of it
  pub text_is : length line ≤ r.most → is_utf8 line ≡ true → line_piece makes r file n line ≡ makes file n line
  text_is h u = short h ∙ cond-true (is_utf8 line) (makes file n line) no_text u

-- the mark of the next piece ends the run or not
pub goes_by : (t m : Bool) → t ≡ false → (t || m) ≡ false → m ≡ false
goes_by true m h e = absurd (false≢true (sym h))
goes_by false m h e = e

-- if one of two tests is true and the first one is not, the second one is
pub stops_by : (t m : Bool) → t ≡ false → (t || m) ≡ true → m ≡ true
stops_by true m h e = absurd (false≢true (sym h))
stops_by false m h e = e

-- a piece alone
up_by : (p : Piece) (b : Bool) → is_stop p.mark ≡ b → up_to_stop (p ∷ []) ≡ p ∷ []
unfolding up_to_stop
up_by p true e = ap (λ x. p ∷ cond x [] []) e
up_by p false e = ap (λ x. p ∷ cond x [] []) e

-- one piece alone is all of the pieces up to the first that ends the run
pub up_alone : (p : Piece) → up_to_stop (p ∷ []) ≡ p ∷ []
up_alone p = up_by p (is_stop p.mark) refl

-- the line feeds that were taken are the lines that were passed
pub passed_cut : (whole : Bool) (held : Held) (input rest rest' before got : List ℕ) (n : ℕ) → held.ended ≡ false
    → passed whole input ≡ n + passed whole (left held rest) → input ≡ before ++ rest → rest ≡ got ++ rest'
    → (whole ≡ false → feeds (held.bytes ++ got) ≡ 0) → n ≡ passed whole (before ++ got)
passed_cut true held input rest rest' before got n opened h e took none = omega arith
passed_cut false held input rest rest' before got n opened h e took none =
    let z = none refl in let d = ap feeds e in let f = ap feeds took in let b = feeds_left held rest opened in
    omega (
      arith,
      feeds_append before rest,
      feeds_append got rest',
      feeds_append held.bytes got,
      feeds_append before got,
    )

pub passed_next : (whole ended' : Bool) (input left0 left1 line : List ℕ) (n n' : ℕ) → n' ≡ n + 1
    → Splits whole ended' line left0 left1 → ended' ≡ false → passed whole input ≡ n + passed whole left0
    → passed whole input ≡ n' + passed whole left1
passed_next true ended' input left0 left1 line n n' count s opened h = absurd (false≢true (sym opened ∙ s.last refl))
passed_next false ended' input left0 left1 line n n' count s opened h = let f = s.feeds refl opened in omega arith
