-- Which faults a pattern has.
use Rattle.std.proofs.Common.{◌≡◌, ℕ, List, [], ◌∷◌, Option, Some, None, Result, Ok, Err, sym, subst}
use Rattle.std.specs.Prelude.{◌≢◌, Bool, true, false, if◌then◌else◌, IfSome}
use Rattle.regex_class.specs.Ranges.{Range}
use Rattle.rpl_classes.specs.Brackets.{bracket_of}
use Rattle.rpl_classes.specs.declared.fault.SetFault.{SetFault}
use Rattle.std.specs.Prelude.{chars}
use Rattle.std.specs.Option.{option_or}
use Rattle.rpl_lexer.specs.Payloads.{span, bounds_of}
use Rattle.rpl_lexer.specs.declared.bounds.Bounds.{Bounds}
use Rattle.rpl_lexer.specs.declared.token.Token.{Token}
use Rattle.rpl_lexer.specs.declared.token.TokenKind.{TokenKind}
use Rattle.rpl_lexer.specs.declared.token.TokenKind.TheVariants as K
use Rattle.rpl_syntax.specs.Expression.{Expr}
use Rattle.rpl_syntax.specs.Reading.{read}
use Rattle.rpl_parser.specs.Levels.{ground_level, too_deep}
use Rattle.rpl_parser.specs.Patterns.{FaultBy, IsPatternFault}
use Rattle.rpl_parser.specs.Tokens.{tokens_of, is_bad, bounds_fault, class_fault, fault_by, first_bad}
use Rattle.rpl_parser.specs.declared.fault.ParseFault.{ParseFault}
use Rattle.rpl_parser.specs.declared.fault.ParseKind.{ParseKind}
use Rattle.rpl_parser.specs.declared.fault.ParseKind.TheVariants.{NoMemory, TooDeep, Syntax, BadBounds, Class, Version}

-- a fault of bounds or of a bracket
abbrev pub OfPayload : ParseKind → Type 0
OfPayload (BadBounds least most) = Unit {0}
OfPayload (Class fault) = Unit {0}
OfPayload _ = ⊥

abbrev OfPayloads : Option ParseFault → Type 0
OfPayloads None = Unit {0}
OfPayloads (Some f) = OfPayload f.kind

bounds_kind : (at : ℕ) (b : Bounds) → OfPayloads (bounds_fault at b)
bounds_kind at b = by_test (is_bad b) _ tt
  where
    by_test : (c : Bool) (f : ParseFault) → OfPayload f.kind → OfPayloads (if c then Some f else None)
    by_test true f h = h
    by_test false f h = tt

class_kind : (at : ℕ) (r : Result (List Range × Bool) SetFault) → OfPayloads (class_fault at r)
class_kind at (Ok b) = tt
class_kind at (Err e) = tt

kind_by : (k : TokenKind) (s : List ℕ) (t : Token) → OfPayloads (fault_by k s t)
kind_by K.Bracket s t = class_kind t.start (bracket_of (chars (span s t)))
kind_by K.Bounds s t = bounds_kind t.start (bounds_of s t)
kind_by K.Name s t = tt
kind_by K.Qualified s t = tt
kind_by K.Keyword s t = tt
kind_by K.Text s t = tt
kind_by K.Number s t = tt
kind_by K.Sign s t = tt

either_kind : (o p : Option ParseFault) → OfPayloads o → OfPayloads p → OfPayloads (option_or o p)
either_kind (Some f) p h k = h
either_kind None p h k = k

bad_kinds : (s : List ℕ) (ts : List Token) → OfPayloads (first_bad s ts)
bad_kinds s [] = tt
bad_kinds s (t ∷ ts) = either_kind (fault_by t.kind s t) (first_bad s ts) (kind_by t.kind s t) (bad_kinds s ts)

pub bad_kind : (s : List ℕ) (ts : List Token) (f : ParseFault) → first_bad s ts ≡ Some f → OfPayload f.kind
bad_kind s ts f e = subst OfPayloads e (bad_kinds s ts)

fault_kind : (k : ParseKind) (s : List ℕ) (ts : List Token) (f : ParseFault) → OfPayload k
    → too_deep s ground_level ts ≡ None → ((x : Expr) × (read (tokens_of s ts) ≡ Some x)) → first_bad s ts ≡ Some f
    → FaultBy k s ts f
fault_kind (BadBounds least most) s ts f h d r e = (d, r, e)
fault_kind (Class fault) s ts f h d r e = (d, r, e)
fault_kind NoMemory s ts f h d r e = absurd h
fault_kind TooDeep s ts f h d r e = absurd h
fault_kind Syntax s ts f h d r e = absurd h
fault_kind Version s ts f h d r e = absurd h

pub bad_fault : (s : List ℕ) (ts : List Token) (f : ParseFault) (x : Expr) → too_deep s ground_level ts ≡ None
    → read (tokens_of s ts) ≡ Some x → first_bad s ts ≡ Some f → IsPatternFault s ts f
bad_fault s ts f x d r e = fault_kind f.kind s ts f (bad_kind s ts f e) d (x, r) e

pub no_memory : (s : List ℕ) (ts : List Token) (f : ParseFault) → first_bad s ts ≡ Some f → f.kind ≡ NoMemory → ⊥
no_memory s ts f e h = subst OfPayload h (bad_kind s ts f e)

-- what is bad in a text is not out of memory
pub bad_no_memory : (s : List ℕ) (ts : List Token) (o : Option ParseFault) → o ≡ first_bad s ts
    → IfSome o (λ f. f.kind ≢ NoMemory)
bad_no_memory s ts None e = tt
bad_no_memory s ts (Some f) e = λ h. no_memory s ts f (sym e) h
