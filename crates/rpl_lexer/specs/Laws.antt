-- What is true of tokens and cuts, whatever the text.
use Rattle.std.specs.Prelude.{◌≡◌, ◌≢◌, ℕ, ◌+◌, List, ◌∷◌, ◌++◌, Some, length, slice_get, slice_index, IsUtf8, ◌↔◌}
use Rattle.std.specs.Prelude.{IsCharBoundary, ◌⊎◌, Ok, Err}
use Rattle.rpl_lexer.specs.declared.token.Token.{Token}
use Rattle.rpl_lexer.specs.declared.token.TokenKind.{TokenKind}
use Rattle.rpl_lexer.specs.declared.token.TokenKind.TheVariants as K
use Rattle.rpl_lexer.specs.declared.fault.LexKind.{LexKind}
use Rattle.rpl_lexer.specs.declared.fault.LexKind.TheVariants.{NumberTooWide}
use Rattle.rpl_lexer.specs.declared.front.Stand.TheVariants.{Found, Fault}
use Rattle.rpl_lexer.specs.Keywords.{keyword_named}
use Rattle.rpl_lexer.specs.Signs.{punct}
use Rattle.rpl_lexer.specs.Fronts.{stands}
use Rattle.rpl_lexer.specs.Cut.{End, Chain, IsCut, IsToken, FailsAt}
use Rattle.rpl_lexer.specs.Forms.{Fits, Form, Longest}
use Rattle.rpl_lexer.specs.Payloads.{span, bounds_of, keyword_of, punct_of}
use Rattle.rpl_lexer.specs.Written.{Writes, ReadsBack, InBracket, WritesBounds, BoundsBack, IsText, IsBracket}
use Rattle.rpl_lexer.specs.Written.{IsBounds, InText, SaysBounds, WideBounds, SaysBetween}
use Rattle.rpl_lexer.specs.declared.bounds.Bounds.{Bounds}
use Rattle.rpl_lexer.specs.declared.fault.LexFault.{LexFault}
use Rattle.rpl_lexer.specs.Cutting.{cut_of}

-- a text has only one cut: all its tokens, or the tokens before its first fault together with that fault
abbrev pub OneCut : Type 0
OneCut =
    (s : List ℕ) (ts us : List Token) (e f : End) → Chain s 0 0 ts e → Chain s 0 0 us f → (ts ≡ us) × (e ≡ f)

-- each token of a cut is a token of the text at its span
abbrev pub TokensStand : Type 0
TokensStand = (s : List ℕ) (ts : List Token) (i : ℕ) (t : Token) → IsCut s ts → slice_get ts i ≡ Some t → IsToken s t

-- in a UTF-8 text, each token begins and ends on character boundaries
abbrev pub BetweenCharacters : Type 0
BetweenCharacters =
    (s : List ℕ) (t : Token) → IsUtf8 s → IsToken s t → IsCharBoundary s t.start × IsCharBoundary s t.end

-- the token at a place has the longest of all forms that fit there, and no other kind has a form of that length there
abbrev pub LongestForm : Type 0
LongestForm = (s : List ℕ) (kind : TokenKind) (n : ℕ) → stands s ≡ Found kind n → Longest kind s n

-- where there is a fault, no form fits, unless the fault is that a number is too wide
abbrev pub NoForm : Type 0
NoForm =
    (b : ℕ) (bs : List ℕ) (fault : LexKind) (skip : ℕ) → stands (b ∷ bs) ≡ Fault fault skip → fault ≢ NumberTooWide
    → (kind : TokenKind) (n : ℕ) → Fits kind (b ∷ bs) n → ⊥

-- a Keyword token spells a keyword and a Sign token a sign, so that the values defined for them are never defaults
abbrev pub KeywordsTold : Type 0
KeywordsTold =
    (s : List ℕ) (t : Token) → t.kind ≡ K.Keyword → IsToken s t → keyword_named (span s t) ≡ Some (keyword_of s t)

abbrev pub SignsTold : Type 0
SignsTold =
    (s : List ℕ) (t : Token) → t.kind ≡ K.Sign → IsToken s t → punct (slice_index s t.start) ≡ Some (punct_of s t)

-- characters and escapes between quotes are one text, whatever follows, and are read as the characters that they denote
abbrev pub WrittenReadsBack : Type 0
WrittenReadsBack = (w cs r : List ℕ) → Writes w cs → ReadsBack w cs r

-- bytes, escapes and further brackets between two brackets are one bracket, whatever follows
abbrev pub BracketStands : Type 0
BracketStands = (u r : List ℕ) → InBracket u → stands (91 ∷ u ++ 93 ∷ r) ≡ Found K.Bracket (length u + 2)

-- numbers between braces, without blanks, are one Bounds token, whatever follows, and are read as those numbers
abbrev pub BoundsReadBack : Type 0
BoundsReadBack = (w r : List ℕ) (b : Bounds) → WritesBounds w b → BoundsBack w b r

-- each Text token is written as a text
abbrev pub TextsAreWritten : Type 0
TextsAreWritten = (s : List ℕ) (t : Token) → t.kind ≡ K.Text → IsToken s t → IsText (span s t)

-- each Bracket token is written as a bracket
abbrev pub BracketsAreWritten : Type 0
BracketsAreWritten = (s : List ℕ) (t : Token) → t.kind ≡ K.Bracket → IsToken s t → IsBracket (span s t)

-- each Bounds token is written as bounds
abbrev pub BoundsAreWritten : Type 0
BoundsAreWritten = (s : List ℕ) (t : Token) → t.kind ≡ K.Bounds → IsToken s t → IsBounds (span s t)

-- bytes and escapes between quotes are one text, whatever follows
abbrev pub TextStands : Type 0
TextStands = (u r : List ℕ) → InText u → stands (34 ∷ u ++ 34 ∷ r) ≡ Found K.Text (length u + 2)

-- bounds between braces, with or without blanks, are one token, whatever follows, and are read as the numbers written
-- there
abbrev pub BoundsStand : Type 0
BoundsStand = (w r : List ℕ) (b : Bounds) → SaysBounds w b → BoundsBack w b r

-- if some of the numbers don't fit in 64 bits, the first of these is the fault
abbrev pub WideBoundsFail : Type 0
WideBoundsFail =
    (w r : List ℕ) (at : ℕ) → WideBounds w at → stands (123 ∷ w ++ 125 ∷ r) ≡ Fault NumberTooWide (1 + at)

-- each Bounds token is written with the numbers that are read from it
abbrev pub BoundsSay : Type 0
BoundsSay = (s : List ℕ) (t : Token) → t.kind ≡ K.Bounds → IsToken s t → SaysBetween (span s t) (bounds_of s t)

-- bytes have the form of a text, a bracket or bounds exactly when they are written as one
abbrev pub TextForm : Type 0
TextForm = (w : List ℕ) → Form K.Text w ↔ IsText w

abbrev pub BracketForm : Type 0
BracketForm = (w : List ℕ) → Form K.Bracket w ↔ IsBracket w

abbrev pub BoundsForm : Type 0
BoundsForm = (w : List ℕ) → Form K.Bounds w ↔ IsBounds w

abbrev pub CutComputes : Type 0
CutComputes = (s : List ℕ) (ts : List Token) → IsCut s ts → cut_of s ≡ Ok ts

abbrev pub FaultComputes : Type 0
FaultComputes = (s : List ℕ) (f : LexFault) → FailsAt s f.at f.kind → cut_of s ≡ Err f

-- what `cut_of` returns is true of the text, so each text has a cut or a first fault
abbrev pub CutFound : Type 0
CutFound = (s : List ℕ) (ts : List Token) → cut_of s ≡ Ok ts → IsCut s ts

abbrev pub FaultFound : Type 0
FaultFound = (s : List ℕ) (f : LexFault) → cut_of s ≡ Err f → FailsAt s f.at f.kind

-- each text has a cut, or a first fault
abbrev pub CutOrFault : Type 0
CutOrFault = (s : List ℕ) → ((ts : List Token) × IsCut s ts) ⊎ ((f : LexFault) × FailsAt s f.at f.kind)
