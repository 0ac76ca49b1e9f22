-- What the tokens of a text are to the grammar. A payload is one whatever the token spells: a bracket without a set
-- gives the empty set, and a number above 256 gives 256. So a text has its reading, or none, before its sets and
-- numbers are looked at; where none of them is bad, they are those that the text spells.
use Rattle.std.specs.Prelude.{◌≡◌, ℕ, ◌+◌, ◌-◌, ◌^◌, Bool, false, ◌||◌, nat_lt, List, [], ◌∷◌, Option, Some, None}
use Rattle.std.specs.Prelude.{Result, Ok, Err, if◌then◌else◌, chars, map, slice_get, min}
use Rattle.std.specs.Option.{option_map, option_or, unwrap_or}
use Rattle.regex_class.specs.Ranges.{Range}
use Rattle.rpl_classes.specs.Brackets.{bracket_of}
use Rattle.rpl_classes.specs.declared.fault.SetFault.{SetFault}
use Rattle.rpl_classes.specs.declared.fault.SetFault.TheVariants as F
use Rattle.rpl_lexer.specs.Cut.{IsToken}
use Rattle.rpl_lexer.specs.Payloads.{span, prefix_of, name_of, keyword_of, punct_of, number_of, bounds_of, text_of}
use Rattle.rpl_lexer.specs.declared.bounds.Bounds.{Bounds}
use Rattle.rpl_lexer.specs.declared.token.Token.{Token}
use Rattle.rpl_lexer.specs.declared.token.TokenKind.{TokenKind}
use Rattle.rpl_lexer.specs.declared.token.TokenKind.TheVariants as K
use Rattle.rpl_syntax.specs.Bounds.{least_of, most_of}
use Rattle.rpl_syntax.specs.declared.token.Token.{Token as Seen}
use Rattle.rpl_syntax.specs.declared.token.Token.TheVariants as T
use Rattle.rpl_parser.specs.declared.fault.ParseFault.{ParseFault}
use Rattle.rpl_parser.specs.declared.fault.ParseKind.TheVariants.{BadBounds, Class}

-- each of the tokens stands in the text
abbrev pub AllStand : List ℕ → List Token → Type 0
AllStand s ts = (i : ℕ) (t : Token) → slice_get ts i ≡ Some t → IsToken s t

-- ---- bounds: their numbers are those that the tokens of a text say, where none is above 256

abbrev pub capped : ℕ → ℕ
capped n = min n 256

-- the upper number, or the lower one once more
abbrev pub top_of : Bounds → ℕ
top_of b = unwrap_or b.most (least_of b)

abbrev pub bounds_token : Bounds → Seen
bounds_token b = T.Bounds (capped (least_of b)) (option_map capped (most_of b))

abbrev pub is_bad : Bounds → Bool
is_bad b = nat_lt (top_of b) (least_of b) || (nat_lt 255 (least_of b) || nat_lt 255 (top_of b))

abbrev pub bounds_fault : (at : ℕ) → Bounds → Option ParseFault
bounds_fault at b = if is_bad b then Some (record { at = at; kind = BadBounds (least_of b) (top_of b) }) else None

-- ---- brackets

abbrev pub class_token : Result (List Range × Bool) SetFault → Seen
class_token (Ok b) = T.Class b.0 b.1
class_token (Err e) = T.Class [] false

abbrev pub place_in : SetFault → ℕ
place_in F.NoMemory = 0
place_in (F.UnknownClass at) = at
place_in (F.BadRange at) = at
place_in (F.BadSet at) = at

-- a place after another; every place of a text fits in 64 bits
abbrev pub place_behind : (at by : ℕ) → ℕ
place_behind at by = min (at + by) (2 ^ 64 - 1)

abbrev pub class_fault : (at : ℕ) → Result (List Range × Bool) SetFault → Option ParseFault
class_fault at (Ok b) = None
class_fault at (Err e) = Some (record { at = place_behind at (place_in e); kind = Class e })

-- ---- tokens

abbrev pub token_by : TokenKind → List ℕ → Token → Seen
token_by K.Name s t = T.Name (chars (span s t)) t.start
token_by K.Qualified s t = T.Qualified (chars (prefix_of s t)) (chars (name_of s t)) t.start
token_by K.Keyword s t = T.Keyword (keyword_of s t)
token_by K.Text s t = T.Text (text_of s t)
token_by K.Bracket s t = class_token (bracket_of (chars (span s t)))
token_by K.Bounds s t = bounds_token (bounds_of s t)
token_by K.Number s t = T.Number (number_of s t)
token_by K.Sign s t = T.Sign (punct_of s t)

-- the tokens, as the grammar sees them
abbrev pub tokens_of : List ℕ → List Token → List Seen
tokens_of s = map (λ t. token_by t.kind s t)

-- what is bad about a token
abbrev pub fault_by : TokenKind → List ℕ → Token → Option ParseFault
fault_by K.Bracket s t = class_fault t.start (bracket_of (chars (span s t)))
fault_by K.Bounds s t = bounds_fault t.start (bounds_of s t)
fault_by _ s t = None

-- the place of the first token, or 0 where there is none
abbrev pub first_place : List Token → ℕ
first_place [] = 0
first_place (t ∷ ts) = t.start

-- the first bad bounds or bracket
abbrev pub first_bad : List ℕ → List Token → Option ParseFault
first_bad s [] = None
first_bad s (t ∷ ts) = option_or (fault_by t.kind s t) (first_bad s ts)
