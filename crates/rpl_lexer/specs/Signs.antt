-- The bytes that are tokens alone.
use Rattle.std.specs.Prelude.{ℕ, nat_eq, Option, Some, None, if◌then◌else◌}
use Rattle.rpl_lexer.specs.declared.punct.Punct.{Punct}
use Rattle.rpl_lexer.specs.declared.punct.Punct.TheVariants.{OpenBrace, CloseBrace, OpenParen, CloseParen, Slash}
use Rattle.rpl_lexer.specs.declared.punct.Punct.TheVariants.{Ampersand, Bang, Greater, Less, Star, Plus, Question, Dot}
use Rattle.rpl_lexer.specs.declared.punct.Punct.TheVariants.{Caret, Dollar, Tilde, Equals, Comma, Colon}

-- the sign that a byte is, where it is one
abbrev pub punct : ℕ → Option Punct
punct b =
    if nat_eq b 123 then Some OpenBrace  -- {
    else (if nat_eq b 125 then Some CloseBrace  -- }
    else (if nat_eq b 40 then Some OpenParen  -- (
    else (if nat_eq b 41 then Some CloseParen  -- )
    else (if nat_eq b 47 then Some Slash  -- /
    else (if nat_eq b 38 then Some Ampersand  -- &
    else (if nat_eq b 33 then Some Bang  -- !
    else (if nat_eq b 62 then Some Greater  -- >
    else (if nat_eq b 60 then Some Less  -- <
    else (if nat_eq b 42 then Some Star  -- *
    else (if nat_eq b 43 then Some Plus  -- +
    else (if nat_eq b 63 then Some Question  -- ?
    else (if nat_eq b 46 then Some Dot  -- .
    else (if nat_eq b 94 then Some Caret  -- ^
    else (if nat_eq b 36 then Some Dollar  -- $
    else (if nat_eq b 126 then Some Tilde  -- ~
    else (if nat_eq b 61 then Some Equals  -- =
    else (if nat_eq b 44 then Some Comma  -- ,
    else (if nat_eq b 58 then Some Colon  -- :
    else None))))))))))))))))))
