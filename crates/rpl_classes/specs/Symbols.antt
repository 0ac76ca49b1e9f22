-- A bracket's text as symbols: each a character as it stands or one that an escape gives, with its byte place.
use Rattle.std.specs.Prelude.{ℕ, zero, suc, ◌+◌, Bool, false, ◌||◌, nat_eq, if◌then◌else◌, List, [], ◌∷◌}
use Rattle.std.specs.Prelude.{length, Option, Some, None, drop}
use Rattle.std.specs.Char.{len_utf8}
use Rattle.rpl_text.specs.Places.{at, index}
use Rattle.rpl_text.specs.Escapes.{escape}
use Rattle.rpl_classes.specs.declared.symbols.Symbol.{Symbol}
use Rattle.rpl_classes.specs.declared.symbols.Symbol.TheVariants.{Plain, Escaped, End}

-- a symbol at a byte place
abbrev pub Placed : Type 0
Placed = ℕ × Symbol

abbrev pub escaped : ℕ → Option (ℕ × ℕ) → (ℕ → List Placed) → List Placed
escaped p None rest = (p, End) ∷ []
escaped p (Some (c, k)) rest = (p, Escaped c) ∷ rest k

-- the symbols from a byte place on, after k characters that belong to an escape; End is last, at the text's end or at
-- a backslash that begins no escape
unfoldable pub symbols : ℕ → ℕ → List ℕ → List Placed
symbols k p [] = (p, End) ∷ []
symbols (suc k) p (c ∷ cs) = symbols k (p + len_utf8 c) cs
symbols zero p (c ∷ cs) =
    if nat_eq c 92 then escaped p (escape cs) (λ k. symbols k (p + 1) cs)
    else (p, Plain c) ∷ symbols 0 (p + len_utf8 c) cs

-- the symbols of a text from one of its places on
abbrev pub symbols_from : List ℕ → ℕ → List Placed
symbols_from t p = symbols 0 p (drop (index t p) t)

-- how many bytes a text has
abbrev pub size : List ℕ → ℕ
size t = at t (length t)

-- the symbol at the front, its place, and what stands after it
abbrev pub first : List Placed → Symbol
first [] = End
first (x ∷ s) = x.1

abbrev pub place : List Placed → ℕ
place [] = 0
place (x ∷ s) = x.0

abbrev pub rest : List Placed → List Placed
rest [] = []
rest (x ∷ s) = s

-- the character as it stands, and not by an escape
abbrev pub is_plain : ℕ → Symbol → Bool
is_plain c (Plain d) = nat_eq d c
is_plain c (Escaped d) = false
is_plain c End = false

-- the character at the front stands there as it is
abbrev pub begins : ℕ → List Placed → Bool
begins c s = is_plain c (first s)

-- a space or a tab
abbrev pub is_blank : Symbol → Bool
is_blank x = is_plain 32 x || is_plain 9 x

-- after the spaces and tabs at the front
unfoldable pub past_blanks : List Placed → List Placed
past_blanks [] = []
past_blanks (x ∷ s) = if is_blank x.1 then past_blanks s else x ∷ s
