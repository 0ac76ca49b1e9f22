-- A file comes to a code, or to a line.
use Rattle.std.proofs.Common.{ℕ, List, length, Some, None, refl, inl, inr, ⊎_elim}
use Rattle.std.proofs.lemmas.Bool.{cases_lt}
use Rattle.std.specs.Prelude.{◌⊎◌, Ok, Err, codes}
use Rattle.rosie_run.specs.Lines.{input_fault}
use Rattle.rpl_codefile.proofs.Deciding.{spelled_decided}
use Rattle.rpl_codefile.specs.Spelling.{Spells, SpellsNone}
use Rattle.rpl_core.specs.Instr.{Instr}
use Rattle.rpl_codefile.proofs.Shapes.{safe_decided}
use Rattle.rosie_jobs.specs.Laws.{SomeLoading}
use Rattle.rosie_jobs.specs.Loaded.{IsRead, CodeOrLine, max_code_bytes, not_loaded}

by_spelling : (path bytes : List ℕ) → ((code : List Instr) × Spells code bytes) ⊎ SpellsNone bytes
    → (r : CodeOrLine) × IsRead path bytes r
by_spelling path bytes (inr none) = (Err (input_fault path (codes "not a code file")), inl (none, refl))
by_spelling path bytes (inl (code, spells)) = ⊎_elim
    (λ safe. (Ok code, (spells, safe)))
    (λ unsafe. (Err (input_fault path (codes "unsafe code")), inr ((code, spells, unsafe), refl)))
    (safe_decided code)

-- loading a code file has a result
pub some_loading : SomeLoading
some_loading path None = (not_loaded path (codes "no such file"), refl)
some_loading path (Some bytes) = ⊎_elim
    (λ long. (not_loaded path (codes "text too long"), inl (long, refl)))
    (λ fits. let r = by_spelling path bytes (spelled_decided bytes) in (r.0, inr (fits, r.1)))
    (cases_lt max_code_bytes (length bytes))
