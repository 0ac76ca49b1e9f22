-- What holds for the definitions.
use Rattle.std.specs.Prelude.{ℕ, ◌≡◌, List}
use Rattle.json.specs.Print.{escape}
use Rattle.rpl_columns.specs.Cells.{text_of}

-- a spelled text is read back as the text itself
abbrev pub AreReadBack : Type 0
AreReadBack = (text : List ℕ) → text_of (escape text) ≡ text
