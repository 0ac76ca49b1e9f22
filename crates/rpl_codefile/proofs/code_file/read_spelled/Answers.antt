use Rattle.std.proofs.Common.{sym, ap, ◌∙◌, subst, arith}
use Rattle.std.proofs.lemmas.Bool.{false≢true}
use Rattle.std.proofs.lemmas.Result.{err_from_is_err_and}
use Rattle.rpl_codefile.specs.Spelling.{file_of}
use Rattle.rpl_codefile.specs.inside.Reading.{file_at}
use Rattle.rpl_codefile.proofs.Items.{Fails}
use Rattle.rpl_codefile.proofs.Decides.{no_file, not_read, other_spelling_holds, parts_of_file}
use Rattle.rpl_codefile.proofs.Parts.{parts_few}
use Rattle.rpl_codefile.proofs.code_file.read_spelled.Goals as goal

pub returns-in_err-code : goal.returns-in_err-code
returns-in_err-code c =
    let p = err_from_is_err_and c.from_residual.result c.from_residual.ensures.1 in
    rw (p.1, p.2) (not_read c.args.bytes.now c.in_err-code.field-0.0
    (subst (λ b. Fails c.in_err-code.field-0.0 (file_at b)) c.split_at.ensures.back c.in_err-code.ensures))

pub returns-then-not-branch : goal.returns-then-not-branch
returns-then-not-branch c =
    let f = file_of c.in_ok-code.code c.in_ok-code.sets c.in_ok-code.texts in
    no_file c.args.bytes.now f (sym (ap file_at c.split_at.ensures.back) ∙ c.in_ok-code.ensures)
    (λ is. false≢true (sym c.if-not-branch.true ∙ c.in_ok-are_parts.ensures.1 (parts_of_file f is)))

pub returns-else-same_bytes : goal.returns-else-same_bytes
returns-else-same_bytes c =
    other_spelling_holds c.args.bytes.now (file_of c.in_ok-code.code c.in_ok-code.sets c.in_ok-code.texts)
    (sym (ap file_at c.split_at.ensures.back) ∙ c.in_ok-code.ensures)
    (λ same. false≢true (sym c.if-same_bytes.false
    ∙ c.same_bytes.ensures.1 (c.as_slice.ensures ∙ c.in_ok-written.ensures.bytes ∙ same)))

pub write_parts-requires : goal.write_parts-requires
write_parts-requires c =
    let h = c.in_ok-are_parts.ensures.0 c.if-not-branch.false in
    let few = parts_few c.in_ok-code.code c.in_ok-code.sets c.in_ok-code.texts h in
    record { code_few = omega (arith, h.limit); sets_few = omega (arith, few.0); texts_few = omega (arith, few.1) }
