use Rattle.std.proofs.Common.{[], ◌∷◌, ◌++◌, take, sym, ap, ◌∙◌}
use Rattle.std.specs.Prelude.{map}
use Rattle.rpl_intern.proofs.Keeping.{more_shown}
use Rattle.rpl_intern.proofs.tables.Table+char.labels.Goals as goal

pub loop-characters-preserved : goal.loop-characters-preserved
loop-characters-preserved c =
    let xs = c.deref-characters-items.result.now in
    let x = c.characters-item.result in
    c.in_ok-push.ensures.ok ∙ ap (λ l. l ++ c.in_ok-text.field-0 ∷ []) c.loop-characters.invariant
    ∙ ap (λ s. map (λ v. v.items) (take c.loop-characters.characters-index xs) ++ s ∷ []) (c.in_ok-text.ensures
    ∙ c.deref.ensures.value)
    ∙ sym (more_shown (λ v. v.items) xs c.loop-characters.characters-index x c.loop-characters-test.true
    c.characters-item.is)
