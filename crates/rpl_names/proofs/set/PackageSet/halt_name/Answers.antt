use Rattle.std.proofs.Common.{rules, sym, ap, ◌∙◌}
use Rattle.std.specs.Prelude.{codes}
use Rattle.std.proofs.lemmas.Str.{chars-IsAscii}
use Rattle.rpl_names.specs.Targets.{halt_by}
use Rattle.rpl_names.proofs.set.PackageSet.halt_name.Goals as goal

pub returns-then-binds_halt : goal.returns-then-binds_halt
returns-then-binds_halt c = chars-IsAscii (codes "*.halt") (search rules)
    ∙ sym (ap halt_by (sym c.binds_halt.ensures ∙ c.if-binds_halt.true))

pub returns : goal.returns
returns c = chars-IsAscii (codes "halt") (search rules)
    ∙ sym (ap halt_by (sym c.binds_halt.ensures ∙ c.if-binds_halt.false))
