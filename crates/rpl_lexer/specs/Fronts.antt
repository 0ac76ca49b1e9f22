-- Which token stands at the front of some bytes, and how long it is; or which fault, and how far after the front.
use Rattle.std.specs.Prelude.{ℕ, ◌+◌, Bool, not, ◌&&◌, nat_eq, is_some, List, [], ◌∷◌, if◌then◌else◌, take, drop}
use Rattle.rpl_text.specs.Ascii.{is_letter, is_digit}
use Rattle.rpl_lexer.specs.declared.token.TokenKind.TheVariants as K
use Rattle.rpl_lexer.specs.declared.fault.LexKind.TheVariants.{BadChar, NumberTooWide}
use Rattle.rpl_lexer.specs.declared.front.Stand.{Stand}
use Rattle.rpl_lexer.specs.declared.front.Stand.TheVariants.{Found, Fault}
use Rattle.rpl_lexer.specs.declared.enclosed.Enclosure.TheVariants.{Quotes, Brackets}
use Rattle.rpl_lexer.specs.Bytes.{is_word, run, past, begins, has}
use Rattle.rpl_lexer.specs.Keywords.{is_keyword}
use Rattle.rpl_lexer.specs.Signs.{punct}
use Rattle.rpl_text.specs.Numbers.{value, narrow}
use Rattle.rpl_lexer.specs.Enclosed.{enclosed}
use Rattle.rpl_lexer.specs.Braces.{brace_stands}

-- the longest front that is a name, where a letter comes first
abbrev pub first_name : List ℕ → List ℕ
first_name s = take (run is_word s) s

-- at the front stands a name that is no keyword
abbrev pub begins_name : List ℕ → Bool
begins_name s = begins is_letter s && not (is_keyword (first_name s))

-- after the first n bytes stand a dot and a name that is no keyword
abbrev pub qualifies : List ℕ → ℕ → Bool
qualifies s n = has s n 46 && begins_name (drop (n + 1) s)

-- what stands where a letter comes first; names go as far as they can before anything else is asked
unfoldable pub name_stands : List ℕ → Stand
name_stands s =
    let n = run is_word s in
    if is_keyword (first_name s) then Found K.Keyword n
    else (if qualifies s n then Found K.Qualified (past is_word s (n + 1))
    else Found K.Name n)

-- what stands where a digit comes first
unfoldable pub number_stands : List ℕ → Stand
number_stands s =
    if is_some (narrow (value 0 (take (run is_digit s) s))) then Found K.Number (run is_digit s)
    else Fault NumberTooWide 0

-- what stands at the front: `"` is 34, `[` 91, `{` 123
unfoldable pub stands : List ℕ → Stand
stands [] = Fault BadChar 0
stands (b ∷ bs) =
    if is_letter b then name_stands (b ∷ bs)
    else (if is_digit b then number_stands (b ∷ bs)
    else (if nat_eq b 34 then enclosed Quotes bs
    else (if nat_eq b 91 then enclosed Brackets bs
    else (if nat_eq b 123 then brace_stands bs
    else (if is_some (punct b) then Found K.Sign 1
    else Fault BadChar 0)))))
