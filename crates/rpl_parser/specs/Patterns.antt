-- The reading of a pattern, and its first fault.
use Rattle.std.specs.Prelude.{◌≡◌, ℕ, List, Some, None}
use Rattle.rpl_lexer.specs.declared.token.Token.{Token}
use Rattle.rpl_syntax.specs.Expression.{Expr}
use Rattle.rpl_syntax.specs.Reading.{read}
use Rattle.rpl_parser.specs.Levels.{ground_level, too_deep}
use Rattle.rpl_parser.specs.Tokens.{tokens_of, first_place, first_bad}
use Rattle.rpl_parser.specs.declared.fault.ParseFault.{ParseFault}
use Rattle.rpl_parser.specs.declared.fault.ParseKind.{ParseKind}
use Rattle.rpl_parser.specs.declared.fault.ParseKind.TheVariants.{TooDeep, Syntax, BadBounds, Class}

-- the tokens of the text are read as the expression, and none of them is at fault
pub record IsPattern (s : List ℕ) (ts : List Token) (x : Expr) : Type 0 where
  pub shallow : too_deep s ground_level ts ≡ None
  pub reads : read (tokens_of s ts) ≡ Some x
  pub good : first_bad s ts ≡ None

-- which fault stands where: the level first, then the syntax, then the first bad bounds or bracket
abbrev pub FaultBy : ParseKind → List ℕ → List Token → ParseFault → Type 0
FaultBy TooDeep s ts f = too_deep s ground_level ts ≡ Some f.at
FaultBy Syntax s ts f =
    (too_deep s ground_level ts ≡ None) × (read (tokens_of s ts) ≡ None) × (f.at ≡ first_place ts)
FaultBy (BadBounds least most) s ts f =
    (too_deep s ground_level ts ≡ None) × ((x : Expr) × (read (tokens_of s ts) ≡ Some x)) × (first_bad s ts ≡ Some f)
FaultBy (Class fault) s ts f =
    (too_deep s ground_level ts ≡ None) × ((x : Expr) × (read (tokens_of s ts) ≡ Some x)) × (first_bad s ts ≡ Some f)
FaultBy _ s ts f = ⊥

abbrev pub IsPatternFault : List ℕ → List Token → ParseFault → Type 0
IsPatternFault s ts f = FaultBy f.kind s ts f
