-- A piece that is read as a statement.
use Rattle.std.specs.Prelude.{ℕ, List, Option, Some, None, Result, Ok, Err}
use Rattle.rpl_lexer.specs.declared.token.Token.{Token}
use Rattle.rpl_parser.specs.Levels.{ground_level, too_deep}
use Rattle.rpl_parser.specs.Lines.{line_of}
use Rattle.rpl_parser.specs.Spelling.{Line}
use Rattle.rpl_parser.specs.Tokens.{tokens_of, first_place, first_bad}
use Rattle.rpl_parser.specs.Walks.{syntax_at}
use Rattle.rpl_parser.specs.declared.fault.ParseFault.{ParseFault}
use Rattle.rpl_parser.specs.declared.fault.ParseKind.TheVariants.{TooDeep}

-- a statement, and what is bad in it
abbrev pub Piece : Type 0
Piece = Line × Option ParseFault

abbrev pub by_line : (at : ℕ) → Option ParseFault → Option Line → Result Piece ParseFault
by_line at bad None = syntax_at at
by_line at bad (Some l) = Ok (l, bad)

abbrev pub by_level : Option ℕ → Result Piece ParseFault → Result Piece ParseFault
by_level None r = r
by_level (Some at) r = Err (record { at = at; kind = TooDeep })

-- the statement that a piece spells, or its first fault: the level, then the syntax
abbrev pub piece_of : List ℕ → List Token → Result Piece ParseFault
piece_of s p = by_level (too_deep s ground_level p) (by_line (first_place p) (first_bad s p) (line_of (tokens_of s p)))
