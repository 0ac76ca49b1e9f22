-- A pattern has one answer: its expression, or its first fault.
use Rattle.std.proofs.Common.{◌≡◌, ℕ, List, Option, Some, None, Result, Ok, Err, refl, sym, ap, ◌∙◌, ◌⊎◌, inl, inr}
use Rattle.rpl_lexer.specs.declared.token.Token.{Token}
use Rattle.rpl_syntax.specs.Expression.{Expr}
use Rattle.rpl_syntax.specs.Reading.{read}
use Rattle.rpl_parser.specs.Levels.{ground_level, too_deep}
use Rattle.rpl_parser.specs.Patterns.{IsPattern, FaultBy, IsPatternFault}
use Rattle.rpl_parser.specs.Tokens.{tokens_of, first_place, first_bad}
use Rattle.rpl_parser.specs.declared.fault.ParseFault.{ParseFault}
use Rattle.rpl_parser.proofs.Faults.{bad_fault}
use Rattle.rpl_parser.proofs.Readings.{some_is}
use Rattle.rpl_parser.specs.declared.fault.ParseKind.{ParseKind}
use Rattle.rpl_parser.specs.declared.fault.ParseKind.TheVariants.{NoMemory, TooDeep, Syntax, BadBounds, Class, Version}

abbrev by_bad : Expr → Option ParseFault → Result Expr ParseFault
by_bad x None = Ok x
by_bad x (Some f) = Err f

abbrev by_reading : (at : ℕ) → Option ParseFault → Option Expr → Result Expr ParseFault
by_reading at bad None = Err (record { at = at; kind = Syntax })
by_reading at bad (Some x) = by_bad x bad

abbrev by_level : Result Expr ParseFault → Option ℕ → Result Expr ParseFault
by_level r None = r
by_level r (Some at) = Err (record { at = at; kind = TooDeep })

module _ (s : List ℕ) (ts : List Token) where
  abbrev below : Result Expr ParseFault
  below = by_reading (first_place ts) (first_bad s ts) (read (tokens_of s ts))

  -- the level, the reading, then what is bad
  abbrev answer : Result Expr ParseFault
  answer = by_level below (too_deep s ground_level ts)

  read_answer : (x : Expr) (b : Option ParseFault) → too_deep s ground_level ts ≡ None
      → read (tokens_of s ts) ≡ Some x → first_bad s ts ≡ b → answer ≡ by_bad x b
  read_answer x b d r e =
      ap (by_level below) d ∙ (ap (by_reading (first_place ts) (first_bad s ts)) r ∙ ap (by_bad x) e)

  pattern_answer : (x : Expr) → IsPattern s ts x → answer ≡ Ok x
  pattern_answer x h = read_answer x None h.shallow h.reads h.good

  kind_answer : (f : ParseFault) (k : ParseKind) → f.kind ≡ k → FaultBy k s ts f → answer ≡ Err f
  kind_answer f TooDeep e h = ap (by_level below) h ∙ ap (λ k. Err (record { at = f.at; kind = k })) (sym e)
  kind_answer f Syntax e h =
      ap (by_level below) h.0
      ∙ (ap (by_reading (first_place ts) (first_bad s ts)) h.1
      ∙ (ap (λ a. Err (record { at = a; kind = Syntax })) (sym h.2)
      ∙ ap (λ k. Err (record { at = f.at; kind = k })) (sym e)))
  kind_answer f (BadBounds least most) e h = read_answer h.1.0 (Some f) h.0 h.1.1 h.2
  kind_answer f (Class fault) e h = read_answer h.1.0 (Some f) h.0 h.1.1 h.2
  kind_answer f NoMemory e h = absurd h
  kind_answer f Version e h = absurd h

  fault_answer : (f : ParseFault) → IsPatternFault s ts f → answer ≡ Err f
  fault_answer f h = kind_answer f f.kind refl h

-- the tokens of a text are at most one pattern
pub pattern_unique : (s : List ℕ) (ts : List Token) (x y : Expr) → IsPattern s ts x → IsPattern s ts y → x ≡ y
pattern_unique s ts x y h k = some_is x y (sym h.reads ∙ k.reads)

-- tokens that are a pattern have no first fault
pub pattern_apart : (s : List ℕ) (ts : List Token) (x : Expr) (f : ParseFault) → IsPattern s ts x
    → IsPatternFault s ts f → ⊥
pattern_apart s ts x f h k = absurd (cc (pattern_answer s ts x h, fault_answer s ts f k))

abbrev refused : ParseFault → Result Expr ParseFault
refused f = Err f

err_is : (f g : ParseFault) → refused f ≡ Err g → f ≡ g
err_is f g e = cc

-- the tokens of a text have at most one first fault
pub fault_unique : (s : List ℕ) (ts : List Token) (f g : ParseFault) → IsPatternFault s ts f → IsPatternFault s ts g
    → f ≡ g
fault_unique s ts f g h k = err_is f g (sym (fault_answer s ts f h) ∙ fault_answer s ts g k)

-- there is an answer
module _ (s : List ℕ) (ts : List Token) where
  abbrev Either : Type 0
  Either = ((x : Expr) × IsPattern s ts x) ⊎ ((f : ParseFault) × IsPatternFault s ts f)

  by_payloads : (x : Expr) (b : Option ParseFault) → too_deep s ground_level ts ≡ None → read (tokens_of s ts) ≡ Some x
      → first_bad s ts ≡ b → Either
  by_payloads x None d r e = inl (x, record { shallow = d; reads = r; good = e })
  by_payloads x (Some f) d r e = inr (f, bad_fault s ts f x d r e)

  by_tokens : (o : Option Expr) → too_deep s ground_level ts ≡ None → read (tokens_of s ts) ≡ o → Either
  by_tokens (Some x) d r = by_payloads x (first_bad s ts) d r refl
  by_tokens None d r = inr (record { at = first_place ts; kind = Syntax }, (d, r, refl))

  by_depth : (o : Option ℕ) → too_deep s ground_level ts ≡ o → Either
  by_depth None d = by_tokens (read (tokens_of s ts)) d refl
  by_depth (Some at) d = inr (record { at = at; kind = TooDeep }, d)

-- the tokens of a text are a pattern, or have a first fault
pub either : (s : List ℕ) (ts : List Token) → ((x : Expr) × IsPattern s ts x)
    ⊎ ((f : ParseFault) × IsPatternFault s ts f)
either s ts = by_depth s ts (too_deep s ground_level ts) refl
