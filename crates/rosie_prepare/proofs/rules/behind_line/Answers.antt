use Rattle.std.proofs.Common.{◌++◌, ◌∙◌, ap, refl}
use Rattle.std.specs.Prelude.{codes, string_bytes}
use Rattle.rosie_prepare.proofs.Told.{line_with}
use Rattle.rpl_names.specs.Sets.{set_seen}
use Rattle.rosie_prepare.proofs.rules.behind_line.Goals as goal

pub returns : goal.returns
returns c =
    line_with string_bytes c.rule_line.result (set_seen c.args.place.now.packages.now) c.args.place.now.rule
    c.args.place.now.rule _ _ refl
    (c.deref.ensures ∙ c.in_ok-text.ensures.ok
    ∙ ap (λ name. codes "look-behind in " ++ (name ++ (codes ": " ++ c.args.cause.now))) c.rule_name-name.ensures)
    c.rule_line.ensures
