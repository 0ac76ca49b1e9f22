use Rattle.std.proofs.Common.{ap, sym, ◌∙◌, subst}
use Rattle.rpl_syntax.specs.Modules.{said}
use Rattle.rpl_scope.specs.Faults.{Gives}
use Rattle.rpl_package.specs.inside.Reading.{IsRead}
use Rattle.rpl_names.specs.Texts.{module_text}
use Rattle.rpl_package.proofs.Causes.{all_loud}
use Rattle.rpl_package.proofs.reading.read_module.Goals as goal

pub returns-in-Text-clause-gives : goal.returns-in-Text-clause-gives
returns-in-Text-clause-gives c = λ bytes r.
    let h = subst (λ x. IsRead x bytes) c.in-Text.is r in
    subst (Gives said c.read_text.result) (ap (module_text c.args.file.now) (c.deref.ensures ∙ sym h.0))
    c.read_text.ensures.gives

pub returns-in-Text-clause-loud : goal.returns-in-Text-clause-loud
returns-in-Text-clause-loud c =
    all_loud said c.read_text.result (module_text c.args.file.now c.deref.result.now) c.read_text.ensures.gives
