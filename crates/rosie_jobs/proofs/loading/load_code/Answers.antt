use Rattle.std.proofs.Common.{subst, ap, ◌∙◌, ◌++◌, ◌∷◌, []}
use Rattle.rosie_io.specs.Opening.{file_of}
use Rattle.rosie_jobs.proofs.Told.{fault_asked, loads_read, read_asked}
use Rattle.rosie_jobs.specs.Answers.{Loads}
use Rattle.rosie_jobs.specs.inside.Telling.{Reads}
use Rattle.rosie_jobs.proofs.loading.load_code.Goals as goal

pub returns-in-Ok-clause-loads : goal.returns-in-Ok-clause-loads
returns-in-Ok-clause-loads g c = λ tells.
    let h = c.in-Ok.ensures.ok tells in
    let name = c.text_of-name.result.now in
    let tree = g.F.Source.tree c.args.files.now in
    subst (λ x. Loads x (file_of x tree) c.program_of.result) c.text_of-name.ensures
    (loads_read name c.in-Ok.bytes (file_of name tree) c.program_of.result h.0 h.1
    (subst (λ b. Reads name b c.program_of.result) c.as_slice.ensures c.program_of.ensures))

pub returns-in-Ok-clause-asked : goal.returns-in-Ok-clause-asked
returns-in-Ok-clause-asked g c =
    read_asked c.text_of-name.result.now c.as_slice.result.now _ _ _ c.program_of.result c.program_of.ensures
    (c.read_bytes.ensures.asked ∙ ap (λ p. g.F.Source.asked c.args.files.now ++ p ∷ []) c.text_of-name.ensures)

pub returns-in-Err-clause-asked : goal.returns-in-Err-clause-asked
returns-in-Err-clause-asked g c =
    fault_asked c.args.path c.in-Err.fault _ _ c.of_file.result c.of_file.ensures
    (c.read_bytes.ensures.asked ∙ ap (λ p. g.F.Source.asked c.args.files.now ++ p ∷ []) c.text_of-name.ensures)
