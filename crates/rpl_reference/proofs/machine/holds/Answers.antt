use Rattle.std.proofs.Common.{[], sym, ap, ◌∙◌}
use Rattle.std.specs.Option.{option_copied}
use Rattle.regex_class.specs.Ranges.{in_ranges}
use Rattle.rpl_core.specs.Program.{sets_of}
use Rattle.rpl_reference.proofs.Captures.{read_none}
use Rattle.rpl_reference.proofs.machine.holds.Goals as goal

pub returns-in-None : goal.returns-in-None
unfolding in_ranges
returns-in-None c =
    sym (ap (λ s. in_ranges s c.args.c)
    (read_none (sets_of c.args.program.now) c.args.set [] (sym c.set.ensures ∙ ap option_copied c.in-None.is)))
