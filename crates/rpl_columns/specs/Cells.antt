-- The text of a cell, and how cells are put next to each other.
use Rattle.std.specs.Prelude.{ℕ, zero, suc, Bool, true, false, if◌then◌else◌, ◌&&◌, ◌||◌, not, nat_eq}
use Rattle.std.specs.Prelude.{List, [], ◌∷◌, ◌++◌}
use Rattle.std.specs.Prelude.{length, drop, flat_map, Option, None, Some, option_map}
use Rattle.rpl_columns.specs.Spelling.{control_in}

-- the byte that a short escape with this letter stands for
abbrev pub unescaped : ℕ → ℕ
unescaped letter =
    if nat_eq letter 98 then 8 else (if nat_eq letter 102 then 12 else (if nat_eq letter 110 then 10
    else (if nat_eq letter 114 then 13 else (if nat_eq letter 116 then 9 else letter))))

-- the first byte that a spelled text stands for, and what is spelled after it; in a text that nothing is spelled as
-- there may be none
abbrev pub first_escaped : List ℕ → Option (ℕ × List ℕ)
first_escaped [] = None
first_escaped (letter ∷ rest) =
    if nat_eq letter 117 then option_map (λ byte. (byte, drop 4 rest)) (control_in rest)
    else Some (unescaped letter, rest)

abbrev pub first_in : List ℕ → Option (ℕ × List ℕ)
first_in [] = None
first_in (b ∷ bs) = if nat_eq b 92 then first_escaped bs else Some (b, bs)

abbrev pub go_by : (List ℕ → List ℕ) → Option (ℕ × List ℕ) → List ℕ
go_by read None = []
go_by read (Some r) = r.0 ∷ read r.1

-- at most so many bytes of the text that is spelled so
unfoldable pub text_by : ℕ → List ℕ → List ℕ
text_by zero spelled = []
text_by (suc most) spelled = go_by (text_by most) (first_in spelled)

-- the text that is spelled so
unfoldable pub text_of : List ℕ → List ℕ
text_of spelled = text_by (length spelled) spelled

-- in comma-separated values, a text that contains a comma, a quote or a character that ends a line is put in quotes
abbrev pub wants_quotes : ℕ → Bool
wants_quotes b = nat_eq b 44 || (nat_eq b 34 || (nat_eq b 10 || nat_eq b 13))

abbrev pub is_to_be_quoted : List ℕ → Bool
is_to_be_quoted [] = false
is_to_be_quoted (b ∷ bs) = wants_quotes b || is_to_be_quoted bs

-- inside quotes, a quote is doubled
abbrev pub doubled_byte : ℕ → List ℕ
doubled_byte b = if nat_eq b 34 then 34 ∷ 34 ∷ [] else b ∷ []

abbrev pub doubled : List ℕ → List ℕ
doubled text = flat_map doubled_byte text

-- a cell of comma-separated values (RFC 4180)
abbrev pub csv_cell : List ℕ → List ℕ
csv_cell text = if is_to_be_quoted text then 34 ∷ (doubled text ++ 34 ∷ []) else text

-- a cell of tab-separated values
abbrev pub tsv_byte : ℕ → List ℕ
tsv_byte b =
    if nat_eq b 9 then 92 ∷ 116 ∷ [] else (if nat_eq b 10 then 92 ∷ 110 ∷ [] else (if nat_eq b 13 then 92 ∷ 114 ∷ []
    else (if nat_eq b 92 then 92 ∷ 92 ∷ [] else b ∷ [])))

abbrev pub tsv_cell : List ℕ → List ℕ
tsv_cell text = flat_map tsv_byte text

-- no byte is a comma
abbrev pub has_no_comma : List ℕ → Bool
has_no_comma [] = true
has_no_comma (b ∷ bs) = not (nat_eq b 44) && has_no_comma bs

-- cells with the separator between them
unfoldable pub between : ℕ → List (List ℕ) → List ℕ
between separator [] = []
between separator (first ∷ more) = first ++ flat_map (λ c. separator ∷ c) more

-- what stands before a cell that so many come before
abbrev pub before : ℕ → ℕ → List ℕ
before separator zero = []
before separator (suc n) = separator ∷ []

-- the cells that so many come before
abbrev pub later : ℕ → ℕ → List (List ℕ) → List ℕ
later separator zero cells = between separator cells
later separator (suc n) cells = flat_map (λ c. separator ∷ c) cells
