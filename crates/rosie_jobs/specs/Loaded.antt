-- The result of loading a code file: its code, or the line that says why there is none.
use Rattle.std.specs.Prelude.{◌≡◌, ◌⊎◌, ℕ, ◌<◌, ◌≤◌, List, length, Option, Some, None, Result, Ok, Err, codes}
use Rattle.rosie_run.specs.Lines.{input_fault}
use Rattle.rpl_codefile.specs.Spelling.{Spells, SpellsNone, SpellsUnsafe}
use Rattle.rpl_core.specs.Instr.{Instr}
use Rattle.rpl_safe.specs.Safe.{IsSafe}

abbrev pub CodeOrLine : Type 0
CodeOrLine = Result (List Instr) (List ℕ)

-- the greatest number of bytes in a code file
abbrev pub max_code_bytes : ℕ
max_code_bytes = 67108864

-- the line of a file: `rosie: FILE: TEXT`
abbrev pub not_loaded : List ℕ → List ℕ → CodeOrLine
not_loaded path text = Err (input_fault path text)

-- the bytes come to this code, which is safe, or to the line that says why not
abbrev pub IsRead : List ℕ → List ℕ → CodeOrLine → Type 0
IsRead path bytes (Ok code) = Spells code bytes × IsSafe code
IsRead path bytes (Err line) =
    (SpellsNone bytes × (line ≡ input_fault path (codes "not a code file")))
    ⊎ (SpellsUnsafe bytes × (line ≡ input_fault path (codes "unsafe code")))

-- the file of this path comes to this code, or to the line that says why not
abbrev pub IsLoaded : List ℕ → Option (List ℕ) → CodeOrLine → Type 0
IsLoaded path None r = r ≡ not_loaded path (codes "no such file")
IsLoaded path (Some bytes) r =
    ((max_code_bytes < length bytes) × (r ≡ not_loaded path (codes "text too long")))
    ⊎ ((length bytes ≤ max_code_bytes) × IsRead path bytes r)
