use Rattle.std.proofs.Common.{subst, sym, ◌∙◌, Err}
use Rattle.rpl_classes.specs.Faults.{IsNamed}
use Rattle.rpl_classes.specs.inside.Signed.{signed_named}
use Rattle.std.specs.Prelude.{chars}
use Rattle.rpl_classes.proofs.Names.{class_set_found, class_unknown}
use Rattle.rpl_classes.proofs.brackets.class_set.Goals as goal

pub returns-in-Ok : goal.returns-in-Ok
returns-in-Ok c =
    let t = chars c.args.text.now in
    let b = c.part.ensures ∙ sym c.requires.name.text in
    class_set_found t c.args.inside c.args.at c.args.found.negated c.args.found.start c.args.found.end c.args.found.next
    (chars c.part.result.now) c.in-Ok.set c.requires b c.in-Ok.ensures

pub returns-in-Err-UnknownClass : goal.returns-in-Err-UnknownClass
returns-in-Err-UnknownClass c =
    let t = chars c.args.text.now in
    let b = c.part.ensures ∙ sym c.requires.name.text in
    let n = c.args.found.negated in
    λ _. class_unknown t c.args.inside c.args.at n c.args.found.start c.args.found.end c.args.found.next _
    (chars c.part.result.now) c.requires b (subst (λ e. IsNamed (signed_named n (chars c.part.result.now)) (Err e))
    c.in-Err-UnknownClass.field-0-is c.in-Err-UnknownClass.ensures)
