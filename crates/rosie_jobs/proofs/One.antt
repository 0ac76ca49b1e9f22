-- A file comes to one code, or to one line.
use Rattle.std.proofs.Common.{◌≡◌, ℕ, List, Some, None, sym, ap, ◌∙◌, subst, arith, ⊎_elim}
use Rattle.std.specs.Prelude.{Ok, Err}
use Rattle.rpl_codefile.specs.Spelling.{Spells}
use Rattle.rpl_codefile.proofs.Decides.{one_reading_holds}
use Rattle.rpl_core.specs.Instr.{Instr}
use Rattle.rpl_safe.specs.Safe.{IsSafe}
use Rattle.rosie_jobs.specs.Loaded.{IsRead, CodeOrLine}
use Rattle.rosie_jobs.specs.Laws.{OneLoading}

-- bytes that spell a safe code spell neither nothing nor an unsafe one
only_safe : (bytes : List ℕ) (code : List Instr) (line : List ℕ) (path : List ℕ) → Spells code bytes × IsSafe code
    → IsRead path bytes (Err line) → ⊥
only_safe bytes code line path h k = ⊎_elim
    (λ none. none.0 code h.0)
    (λ bad. bad.0.2 (subst IsSafe (one_reading_holds code bad.0.0 bytes h.0 bad.0.1) h.1))
    k

one_read : (path bytes : List ℕ) (r s : CodeOrLine) → IsRead path bytes r → IsRead path bytes s → r ≡ s
one_read path bytes (Ok c) (Ok d) h k = ap Ok (one_reading_holds c d bytes h.0 k.0)
one_read path bytes (Ok c) (Err l) h k = absurd (only_safe bytes c l path h k)
one_read path bytes (Err l) (Ok d) h k = absurd (only_safe bytes d l path k h)
one_read path bytes (Err l) (Err m) h k = ⊎_elim
    (λ a. ⊎_elim (λ b. ap Err (a.1 ∙ sym b.1)) (λ b. absurd (a.0 b.0.0 b.0.1)) k)
    (λ a. ⊎_elim (λ b. absurd (b.0 a.0.0 a.0.1)) (λ b. ap Err (a.1 ∙ sym b.1)) k)
    h

-- loading a code file has at most one result
pub one_loading_holds : OneLoading
one_loading_holds path None r s h k = h ∙ sym k
one_loading_holds path (Some bytes) r s h k = ⊎_elim
    (λ a. ⊎_elim (λ b. a.1 ∙ sym b.1) (λ b. absurd (omega (arith, a.0, b.0))) k)
    (λ a. ⊎_elim (λ b. absurd (omega (arith, a.0, b.0))) (λ b. one_read path bytes r s a.1 b.1) k)
    h
