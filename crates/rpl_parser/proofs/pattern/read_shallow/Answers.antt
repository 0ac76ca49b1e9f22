use Rattle.std.proofs.Common.{sym, ap, subst, ◌≢◌, ◌∙◌}
use Rattle.rpl_syntax.specs.Reading.{read}
use Rattle.rpl_parser.specs.inside.Gives.{Fails}
use Rattle.rpl_parser.specs.Patterns.{IsPatternFault}
use Rattle.rpl_parser.specs.declared.fault.ParseKind.TheVariants.{NoMemory}
use Rattle.rpl_parser.proofs.Shallow.{read_answered, refused}
use Rattle.rpl_parser.proofs.pattern.read_shallow.Goals as goal

pub returns-in-Ok-clause-ok : goal.returns-in-Ok-clause-ok
returns-in-Ok-clause-ok c =
    (read_answered c.args.text.now c.args.lexemes.now c.in-Ok.read c.in_ok-converted.converted.bad c.unless_bad.result
    c.requires.shallow
    (ap read (sym (c.deref.ensures.value ∙ c.in_ok-converted.ensures.tokens))
    ∙ c.in-Ok.ensures) c.in_ok-converted.ensures.bad c.unless_bad.ensures).ok

pub returns-in-Ok-clause-err : goal.returns-in-Ok-clause-err
returns-in-Ok-clause-err c =
    (read_answered c.args.text.now c.args.lexemes.now c.in-Ok.read c.in_ok-converted.converted.bad c.unless_bad.result
    c.requires.shallow
    (ap read (sym (c.deref.ensures.value ∙ c.in_ok-converted.ensures.tokens))
    ∙ c.in-Ok.ensures) c.in_ok-converted.ensures.bad c.unless_bad.ensures).err

pub returns-in-Ok-clause-memory : goal.returns-in-Ok-clause-memory
returns-in-Ok-clause-memory c =
    (read_answered c.args.text.now c.args.lexemes.now c.in-Ok.read c.in_ok-converted.converted.bad c.unless_bad.result
    c.requires.shallow
    (ap read (sym (c.deref.ensures.value ∙ c.in_ok-converted.ensures.tokens))
    ∙ c.in-Ok.ensures) c.in_ok-converted.ensures.bad c.unless_bad.ensures).memory

pub returns-clause-err : goal.returns-clause-err
returns-clause-err c =
    let s = c.args.text.now in
    let ts = c.args.lexemes.now in
    let h = subst (λ p. Fails c.in-Err.refusal (read p)) (c.deref.ensures.value
    ∙ c.in_ok-converted.ensures.tokens) c.in-Err.ensures in
    subst (λ f. f.kind ≢ NoMemory → IsPatternFault s ts f) (sym c.fault_at.ensures)
    (refused s ts c.in-Err.refusal c.start_of.result c.requires.shallow h c.start_of.ensures)
