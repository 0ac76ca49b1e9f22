use Rattle.std.specs.Prelude.{Err, Ok}
use Rattle.rosie_run.specs.declared.unready.Unready.TheVariants.{NoMemory, ReadFault}
use Rattle.rosie_suites.proofs.Loads.{again_missing, again_long, again_no_text, memory_of, once_asked}
use Rattle.rosie_suites.proofs.Loads.{refusal_of}
use Rattle.rosie_suites.proofs.reading.read_again.Goals as goal

pub returns-in-Missing-clause-reads : goal.returns-in-Missing-clause-reads
returns-in-Missing-clause-reads g c = λ t.
    again_missing c.refused.result c.args.file.now _ c.refused.ensures
    (rw (c.in-Missing.is, c.text_of.ensures) at (c.in-Err.ensures.err t))

pub returns-in-TooLong-clause-reads : goal.returns-in-TooLong-clause-reads
returns-in-TooLong-clause-reads g c = λ t.
    let h = rw (c.in-TooLong.is, c.text_of.ensures) at (c.in-Err.ensures.err t) in
    again_long c.refused-in-TooLong.result c.args.file.now h.0 _ c.refused-in-TooLong.ensures h.1 h.2

pub returns-in-NotText-clause-reads : goal.returns-in-NotText-clause-reads
returns-in-NotText-clause-reads g c = λ t.
    let h = rw (c.in-NotText.is, c.text_of.ensures) at (c.in-Err.ensures.err t) in
    again_no_text c.refused-in-NotText.result c.args.file.now h.0 _ c.refused-in-NotText.ensures h.1 h.2 h.3

pub returns-in-Ok-clause-asked : goal.returns-in-Ok-clause-asked
returns-in-Ok-clause-asked g c =
    once_asked (Ok c.in-Ok.text) _ _ c.args.file.now (rw c.text_of.ensures at c.read_file.ensures.asked) tt

pub returns-in-NoMemory-clause-asked : goal.returns-in-NoMemory-clause-asked
returns-in-NoMemory-clause-asked g c =
    once_asked {X = Unit {0}} (Err NoMemory) _ _ c.args.file.now (rw c.text_of.ensures at c.read_file.ensures.asked) tt

pub returns-in-Missing-clause-asked : goal.returns-in-Missing-clause-asked
returns-in-Missing-clause-asked g c =
    once_asked {X = Unit {0}} (Err c.refused.result) _ _ c.args.file.now
    (rw c.text_of.ensures at c.read_file.ensures.asked)
    (refusal_of c.args.file.now _ c.refused.result c.refused.ensures)

pub returns-in-TooLong-clause-asked : goal.returns-in-TooLong-clause-asked
returns-in-TooLong-clause-asked g c =
    once_asked {X = Unit {0}} (Err c.refused-in-TooLong.result) _ _ c.args.file.now
    (rw c.text_of.ensures at c.read_file.ensures.asked)
    (refusal_of c.args.file.now _ c.refused-in-TooLong.result c.refused-in-TooLong.ensures)

pub returns-in-NotText-clause-asked : goal.returns-in-NotText-clause-asked
returns-in-NotText-clause-asked g c =
    once_asked {X = Unit {0}} (Err c.refused-in-NotText.result) _ _ c.args.file.now
    (rw c.text_of.ensures at c.read_file.ensures.asked)
    (refusal_of c.args.file.now _ c.refused-in-NotText.result c.refused-in-NotText.ensures)

pub returns-in_ok-copy-in-ReadFault-clause-asked : goal.returns-in_ok-copy-in-ReadFault-clause-asked
returns-in_ok-copy-in-ReadFault-clause-asked g c =
    once_asked {X = Unit {0}} (Err (ReadFault c.in_ok-copy-in-ReadFault.field-0)) _ _ c.args.file.now
    (rw c.text_of.ensures at c.read_file.ensures.asked) c.in_ok-copy-in-ReadFault.ensures

pub returns-in_err-copy-in-ReadFault-clause-asked : goal.returns-in_err-copy-in-ReadFault-clause-asked
returns-in_err-copy-in-ReadFault-clause-asked g c =
    once_asked c.from_residual.result _ _ c.args.file.now (rw c.text_of.ensures at c.read_file.ensures.asked)
    (memory_of c.from_residual.result c.args.file.now c.from_residual.ensures.1)
