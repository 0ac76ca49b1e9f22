-- The printed text of a pattern is that pattern again.
use Rattle.std.specs.Prelude.{◌≡◌, List, None, encode_utf8_all}
use Rattle.rpl_lexer.specs.Cut.{IsCut}
use Rattle.rpl_lexer.specs.declared.token.Token.{Token}
use Rattle.rpl_syntax.specs.Braces.{again, plain}
use Rattle.rpl_syntax.specs.Expression.{Expr}
use Rattle.rpl_syntax.specs.Printed.{printed}
use Rattle.rpl_parser.specs.Levels.{ground_level, too_deep}
use Rattle.rpl_parser.specs.Patterns.{IsPattern}

-- the printed text of x, unless it is nested too deeply, is parsed as x with the braces that printing adds; nothing
-- else changes except the byte offsets of names
abbrev pub IsPrintedAgain : Expr → Type 0
IsPrintedAgain x =
    (ts : List Token) → IsCut (encode_utf8_all (printed x)) ts
    → too_deep (encode_utf8_all (printed x)) ground_level ts ≡ None
    → (y : Expr) × IsPattern (encode_utf8_all (printed x)) ts y × (plain y ≡ plain (again x))
