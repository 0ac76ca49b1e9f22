-- Blanks and comments, which stand between tokens. A comment goes from `--` up to the line feed.
use Rattle.std.specs.Prelude.{ℕ, suc, Bool, true, false, not, ◌&&◌, nat_eq, List, [], ◌∷◌, Option, Some, None}
use Rattle.std.specs.Prelude.{if◌then◌else◌}
use Rattle.rpl_lexer.specs.Bytes.{is_blank, begins}

-- a dash stands at the front
abbrev pub dash_next : List ℕ → Bool
dash_next bs = begins (λ b. nat_eq b 45) bs

-- whether the byte b before bs belongs to blanks and comments, and whether it is then in a comment
abbrev pub goes_on : (comment : Bool) → ℕ → List ℕ → Option Bool
goes_on true b bs = Some (not (nat_eq b 10))
goes_on false b bs = if is_blank b then Some false else (if nat_eq b 45 && dash_next bs then Some true else None)

abbrev pub gap_by : Option Bool → (Bool → ℕ) → ℕ
gap_by None rest = 0
gap_by (Some comment) rest = suc (rest comment)

-- how many bytes of blanks and comments stand at the front, in a comment or not
abbrev pub gap : (comment : Bool) → List ℕ → ℕ
gap comment [] = 0
gap comment (b ∷ bs) = gap_by (goes_on comment b bs) (λ c. gap c bs)
