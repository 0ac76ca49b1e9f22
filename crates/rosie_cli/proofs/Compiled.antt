-- From a pattern that is ready to its code file.
use Rattle.std.proofs.Common.{ℕ, ◌≡◌, ◌+◌, ◌<◌, ◌≤◌, List, ◌∷◌, length, ◌∙◌, ap, subst, arith, ⊎_elim}
use Rattle.std.specs.Prelude.{Ok}
use Rattle.std.proofs.lemmas.List.{length-append, length-map}
use Rattle.rosie_prepare.specs.Lines.{compile_line}
use Rattle.rosie_prepare.specs.Prepared.{Ready, bodies}
use Rattle.rpl_codefile.specs.Spelling.{Spells}
use Rattle.rpl_codefile.proofs.One.{one_spelling_holds}
use Rattle.rpl_codegen.specs.Compiled.{HasLongCode}
use Rattle.rpl_core.specs.Core.{Core}
use Rattle.rpl_core.specs.Instr.{Instr}
use Rattle.rpl_core.specs.Instr as I
use Rattle.rpl_core.specs.Code.{code, size}
use Rattle.rpl_core.specs.Numbers.{instr_of}
use Rattle.rpl_core.specs.Program.{code_of, instructions, labels_of, sets_of}
use Rattle.rpl_core.specs.Programs.{IsCode, address, bodies as rule_codes}
use Rattle.rpl_core.specs.declared.program.Program.{Program}
use Rattle.rpl_core.proofs.Codes.{code_holds}
use Rattle.rosie_cli.specs.Planned.{CompilesTo, IsWritten}
use Rattle.rosie_cli.specs.Plans.{Plan, Writes, refusal}

-- a program has as many instructions as its code
pub code_counts : (p : Program) → length (instructions p) ≡ length (code_of p)
code_counts p = length-map (code_of p) (instr_of (sets_of p) (labels_of p))

-- a code has its end, so it isn't empty
pub code_is_some : (R : List Core) (g : Core) (ins : List Instr) → IsCode R g ins → 0 < length ins
code_is_some R g ins h =
    let at = address h.marks R g in
    let long = ap length h.same ∙ length-append (code at g 0) (I.Finish ∷ rule_codes h.marks at R 0 (size g + 1)) in
    omega (arith, long)

-- what is ready has the rules R, as cores
module _ (r : Ready) (R : List Core) (same : bodies r.rules ≡ R) (p : Plan) (is : CompilesTo (Ok r) p) where
  written : (ins : List Instr) → IsCode R r.goal ins → IsWritten ins p
  written ins h =
      subst (λ c. IsWritten c p) (code_holds R r.goal is.0 ins (subst (λ x. IsCode x r.goal is.0) same is.1) h) is.2

  -- a code that has a spelling is written so
  pub file_plan : (ins : List Instr) → IsCode R r.goal ins → length ins ≤ 1048576 → (bytes : List ℕ) → Spells ins bytes
      → p ≡ Writes bytes
  file_plan ins h fits bytes spells = ⊎_elim
      (λ long. let more = long.0 in absurd (omega (arith, more, fits)))
      (λ w. w.2 ∙ ap Writes (one_spelling_holds ins w.0 bytes w.1 spells))
      (written ins h)

  -- and one that is too long isn't
  pub long_file : HasLongCode R r.goal → p ≡ refusal compile_line
  long_file long = ⊎_elim
      (λ l. l.1)
      (λ w. let s = w.1 in absurd (omega (
        arith,
        s.is_file.limit,
        ap length s.code_is,
        length-map s.file.code (instr_of s.file.sets s.file.texts),
        long.2,
      )))
      (written long.0 long.1)
