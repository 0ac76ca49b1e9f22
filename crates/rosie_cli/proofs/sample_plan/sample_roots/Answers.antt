use Rattle.std.proofs.Common.{[], ◌∷◌, ◌++◌, ◌∙◌, ap}
use Rattle.std.specs.Prelude.{chars}
use Rattle.rpl_names.specs.declared.roots.Root.TheVariants.{Given}
use Rattle.rosie_cli.proofs.sample_plan.sample_roots.Goals as goal

pub returns : goal.returns
returns c =
    c.in_ok-push.ensures.ok ∙ ap (λ xs. xs ++ Given c.in_ok-from_str.field-0 ∷ []) c.new-roots.ensures
    ∙ ap (λ text. Given text ∷ []) (c.in_ok-from_str.ensures ∙ ap chars c.sample_rules.ensures)
