use Rattle.std.proofs.Common.{Ok, ap, subst, ◌∙◌, sym}
use Rattle.std.specs.Prelude.{chars, false}
use Rattle.rpl_classes.specs.Symbols.{symbols_from}
use Rattle.rpl_classes.specs.Laws.{content}
use Rattle.rpl_classes.specs.inside.Stack.{opened, signed, Begins, IsMarked, GivesSet}
use Rattle.rpl_classes.proofs.brackets.content_set.Goals as goal

pub returns-in-Compound : goal.returns-in-Compound
returns-in-Compound c =
    let t = chars c.args.text.now in
    let b = subst (λ x. Begins t c.args.place (content (symbols_from t c.args.place)) (Ok x)) c.in-Compound.is
    c.in_ok-set.ensures.value in
    let m = subst (IsMarked false) c.in-Compound.is c.in_ok-set.ensures.mark in
    subst (λ r. GivesSet t r c.compound_set.result) (sym (b.0 ∙ ap (λ x. signed x (opened t c.in-Compound.first)) m))
    c.compound_set.ensures
