-- What the scanner's steps say of the symbols of a text: the words of the private functions' contracts, which no reader
-- needs to believe.
use Rattle.std.specs.Prelude.{◌≡◌, ◌≢◌, ℕ, ◌+◌, ◌<◌, ◌≤◌, Bool, true, false, ◌&&◌, List, [], ◌∷◌, Option, Some}
use Rattle.std.specs.Prelude.{None, Result, Ok, Err, if◌then◌else◌, slice_get, slice_range}
use Rattle.regex_class.specs.Ranges.{Range}
use Rattle.rpl_text.specs.Places.{index, IsPlace}
use Rattle.rpl_classes.specs.Symbols.{Placed, symbols_from, first, place, rest, begins}
use Rattle.rpl_classes.specs.Lists.{Reading, is_member, char_of, is_range, each, changed}
use Rattle.rpl_classes.specs.Brackets.{word, past_word, is_name, is_class}
use Rattle.rpl_classes.specs.declared.symbols.Symbol.{Symbol}
use Rattle.rpl_classes.specs.declared.symbols.Symbol.TheVariants.{Plain, Escaped, End}
use Rattle.rpl_classes.specs.declared.fault.SetFault.{SetFault}
use Rattle.rpl_classes.specs.declared.fault.SetFault.TheVariants.{NoMemory}

-- what stands after a symbol, where q is the place after it
abbrev pub behind : List ℕ → Symbol → ℕ → List Placed
behind t (Plain c) q = symbols_from t q
behind t (Escaped c) q = symbols_from t q
behind t End q = []

-- a symbol that is there goes on; a plain one is the text's own character
abbrev pub GoesOn : List ℕ → Symbol → ℕ → ℕ → Type 0
GoesOn t (Plain c) p q = (p < q) × (slice_get t (index t p) ≡ Some c) × (index t q ≡ index t p + 1)
GoesOn t (Escaped c) p q = p < q
GoesOn t End p q = p ≡ q

-- the symbol at the place p is x, and the next place is q
pub record Scanned (t : List ℕ) (p : ℕ) (x : Symbol) (q : ℕ) : Type 0 where
  pub symbols : symbols_from t p ≡ (p, x) ∷ behind t x q
  pub next : IsPlace t q
  pub forward : GoesOn t x p q

-- the symbols s, after the place p, begin at the place q
pub record Passed (t : List ℕ) (p : ℕ) (s : List Placed) (q : ℕ) : Type 0 where
  pub left : s ≡ symbols_from t q
  pub next : IsPlace t q
  pub forward : p < q

-- the place after a plain character, where it stands at the place p
abbrev pub Accepts : List ℕ → ℕ → ℕ → Option ℕ → Type 0
Accepts t p c None = begins c (symbols_from t p) ≡ false
Accepts t p c (Some q) = (begins c (symbols_from t p) ≡ true) × Passed t p (rest (symbols_from t p)) q

-- the place q after blanks, or after a name
pub record Skipped (t : List ℕ) (p : ℕ) (s : List Placed) (q : ℕ) : Type 0 where
  pub left : s ≡ symbols_from t q
  pub next : IsPlace t q
  pub forward : p ≤ q

pub record Worded (t : List ℕ) (p q : ℕ) : Type 0 where
  pub word : word (symbols_from t p) ≡ slice_range t (index t p) (index t q)
  pub past : Skipped t p (past_word (symbols_from t p)) q

-- a character of a list at the place p, and the place after it
abbrev pub TakesMember : List ℕ → ℕ → Option (ℕ × ℕ) → Type 0
TakesMember t p None = is_member (first (symbols_from t p)) ≡ false
TakesMember t p (Some (c, q)) =
    (is_member (first (symbols_from t p)) ≡ true)
    × (char_of (first (symbols_from t p)) ≡ c)
    × Passed t p (rest (symbols_from t p)) q

-- a list of three with its ends, the place of its `-`, and the place after its `]`
pub record RangeFound (t : List ℕ) (p low dash high q : ℕ) : Type 0 where
  pub is : is_range (symbols_from t p) ≡ true
  pub low_end : char_of (first (symbols_from t p)) ≡ low
  pub high_end : char_of (first (rest (rest (symbols_from t p)))) ≡ high
  pub dash_place : place (rest (symbols_from t p)) ≡ dash
  pub behind : Passed t p (rest (rest (rest (rest (symbols_from t p))))) q

-- one step of any other list: its end, one more character, or its fault
abbrev pub StepsList : List ℕ → ℕ → Bool → Result (Option ℕ × ℕ) SetFault → Type 0
StepsList t p is_first (Err e) = each is_first (symbols_from t p) ≡ Err e
StepsList t p is_first (Ok (None, q)) =
    (each is_first (symbols_from t p) ≡ Ok ([], symbols_from t q)) × IsPlace t q × (p < q)
StepsList t p is_first (Ok (Some c, q)) =
    (each is_first (symbols_from t p) ≡ changed (λ a. (c, c) ∷ a) (each false (symbols_from t q)))
    × IsPlace t q
    × (p < q)

-- what was read is the reading: the set and the place after it, or the fault; or memory ran out
abbrev pub Gives : List ℕ → Result (List Range × ℕ) SetFault → Reading → Type 0
Gives t (Ok (a, q)) r = r ≡ Ok (a, symbols_from t q)
Gives t (Err e) r = e ≢ NoMemory → r ≡ Err e

-- it ends at a place after p
abbrev pub Ends : List ℕ → ℕ → Result (List Range × ℕ) SetFault → Type 0
Ends t p (Ok (a, q)) = IsPlace t q × (p < q)
Ends t p (Err e) = Unit {0}

-- a class's name from the place o to the place e, and the place after the class
pub record NameFound (t : List ℕ) (o e q : ℕ) : Type 0 where
  pub is : is_name (symbols_from t o) ≡ true
  pub text : word (symbols_from t o) ≡ slice_range t (index t o) (index t e)
  pub start : IsPlace t o
  pub end : IsPlace t e
  pub order : o ≤ e
  pub behind : Passed t o (rest (rest (past_word (symbols_from t o)))) q

-- a class after its `[`, which stands at the place p
pub record ClassFound (t : List ℕ) (p : ℕ) (negated : Bool) (o e q : ℕ) : Type 0 where
  pub is : is_class (symbols_from t p) ≡ true
  pub mark : begins 94 (rest (symbols_from t p)) ≡ negated
  pub start : (if negated then rest (rest (symbols_from t p)) else rest (symbols_from t p)) ≡ symbols_from t o
  pub behind : p < o
  pub name : NameFound t o e q

-- a set that was read up to a place
abbrev pub with_place : Result (List Range) SetFault → ℕ → Result (List Range × ℕ) SetFault
with_place (Ok a) q = Ok (a, q)
with_place (Err e) q = Err e

-- the place after a plain character that stands twice at the place p
abbrev pub AcceptsTwice : List ℕ → ℕ → ℕ → Option ℕ → Type 0
AcceptsTwice t p c None = (begins c (symbols_from t p) && begins c (rest (symbols_from t p))) ≡ false
AcceptsTwice t p c (Some q) =
    ((begins c (symbols_from t p) && begins c (rest (symbols_from t p))) ≡ true)
    × Passed t p (rest (rest (symbols_from t p))) q
