-- What a brace begins, from after it: bounds where a digit or a comma comes next but for blanks, else the sign.
-- Bounds are a number or none, perhaps a comma and a number or none, and the closing brace; spaces and tabs may stand
-- between.
use Rattle.std.specs.Prelude.{ℕ, ◌+◌, Bool, true, false, ◌||◌, not, nat_eq, nat_lt, is_some, List, Option, None}
use Rattle.std.specs.Prelude.{if◌then◌else◌, drop, slice_range}
use Rattle.rpl_text.specs.Ascii.{is_digit}
use Rattle.rpl_lexer.specs.declared.token.TokenKind.TheVariants as K
use Rattle.rpl_lexer.specs.declared.fault.LexKind.TheVariants.{BadChar, NumberTooWide}
use Rattle.rpl_lexer.specs.declared.front.Stand.{Stand}
use Rattle.rpl_lexer.specs.declared.front.Stand.TheVariants.{Found, Fault}
use Rattle.rpl_lexer.specs.declared.bounds.Span.{Span}
use Rattle.rpl_lexer.specs.declared.bounds.Parts.{Parts}
use Rattle.rpl_lexer.specs.declared.bounds.Bounds.{Bounds}
use Rattle.rpl_lexer.specs.Bytes.{is_space, past, begins, has}
use Rattle.rpl_text.specs.Numbers.{value, narrow}

-- the digits, perhaps none, that stand after blanks from the place i on
abbrev pub digits_from : List ℕ → ℕ → Span
digits_from bs i = record { start = past is_space bs i; end = past is_digit bs (past is_space bs i) }

-- the parts where there is no comma at the place c after the first number, and where there is one
abbrev pub parts_by : List ℕ → Span → ℕ → Bool → Parts
parts_by bs least c false = record { least = least; comma = false; most = record { start = c; end = c }; close = c }
parts_by bs least c true =
    let most = digits_from bs (c + 1) in
    record { least = least; comma = true; most = most; close = past is_space bs most.end }

-- the parts of bounds, and the place where the closing brace is due
abbrev pub parts : List ℕ → Parts
parts bs =
    let least = digits_from bs 0 in
    let c = past is_space bs least.end in
    parts_by bs least c (has bs c 44)

abbrev pub is_empty : Span → Bool
is_empty p = not (nat_lt p.start p.end)

-- the bytes of a part
abbrev pub part : List ℕ → Span → List ℕ
part bs p = slice_range bs p.start p.end

-- the number of a part is above what 64 bits hold
abbrev pub is_wide : List ℕ → Span → Bool
is_wide bs p = not (is_some (narrow (value 0 (part bs p))))

abbrev pub bounds_by : List ℕ → Parts → Stand
bounds_by bs p =
    if not (has bs p.close 125) then Fault BadChar 0
    else (if is_wide bs p.least then Fault NumberTooWide (1 + p.least.start)
    else (if is_wide bs p.most then Fault NumberTooWide (1 + p.most.start)
    else Found K.Bounds (p.close + 2)))

-- a digit or a comma stands at the front, or after blanks
abbrev pub begins_bounds : List ℕ → Bool
begins_bounds bs = begins (λ b. is_digit b || nat_eq b 44) (drop (past is_space bs 0) bs)

abbrev pub brace_stands : List ℕ → Stand
brace_stands bs = if begins_bounds bs then bounds_by bs (parts bs) else Found K.Sign 1

-- the number of a part, where it has one
abbrev pub number_in : List ℕ → Span → Option ℕ
number_in bs p = if is_empty p then None else narrow (value 0 (part bs p))

-- the numbers of bounds
abbrev pub bounds_in : List ℕ → Bounds
bounds_in bs =
    let p = parts bs in
    record { least = number_in bs p.least; comma = p.comma; most = number_in bs p.most }
