use Rattle.std.proofs.Common.{◌++◌, ◌∙◌, ap}
use Rattle.std.specs.Prelude.{codes, string_bytes}
use Rattle.rosie_prepare.proofs.Told.{line_with}
use Rattle.rpl_names.specs.Sets.{set_seen}
use Rattle.rosie_prepare.proofs.rules.recursion_line.Goals as goal

pub returns : goal.returns
returns c =
    line_with string_bytes c.rule_line.result (set_seen c.args.packages.now) _ _ _ _
    (c.copied-rule.ensures ∙ c.first.ensures.value)
    (c.deref.ensures ∙ c.in_ok-text.ensures.ok
    ∙ ap (λ names. codes "left recursion in " ++ names) c.in_ok-names.ensures)
    c.rule_line.ensures
