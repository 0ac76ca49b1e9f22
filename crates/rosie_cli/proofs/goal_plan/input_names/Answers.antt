use Rattle.std.proofs.Common.{[], ◌∷◌, ◌++◌, refl, sym, ap, ◌∙◌, ◌≡◌, rules}
use Rattle.std.specs.Prelude.{codes, encode_utf8_all}
use Rattle.rosie_run.specs.Inputs.{names_of}
use Rattle.rosie_cli.specs.Planned.{input_names}
use Rattle.rosie_jobs.proofs.OneLine.{spelled}
use Rattle.rosie_cli.proofs.goal_plan.input_names.Goals as goal

pub returns : goal.returns
unfolding lib.Utf8.encode
returns c =
    let none : c.args.inputs ≡ [] = search rules in
    ap (names_of encode_utf8_all) (c.in_ok-push.ensures.ok ∙ ap (λ xs. xs ++ c.in_ok-from_str.field-0 ∷ []) none
    ∙ ap (λ x. x ∷ []) c.in_ok-from_str.ensures)
    ∙ ap (λ x. x ∷ []) (spelled (codes "-") (45 ∷ [], (refl, refl))) ∙ sym (ap input_names none)
