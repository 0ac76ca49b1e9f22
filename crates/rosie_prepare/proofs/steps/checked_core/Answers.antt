use Rattle.std.proofs.Common.{ap}
use Rattle.std.specs.Option.{option_map}
use Rattle.rosie_prepare.specs.Lines.{check_line}
use Rattle.rosie_prepare.proofs.Passing.{unsound_line}
use Rattle.rpl_names.specs.Sets.{set_seen}
use Rattle.rosie_prepare.proofs.steps.checked_core.Goals as goal

pub returns-in-Ok-clause-exactly : goal.returns-in-Ok-clause-exactly
returns-in-Ok-clause-exactly c =
    (c.in-Ok.ensures.exactly.0, ap (option_map (check_line (set_seen c.args.packages.now))) c.in-Ok.ensures.exactly.1)

pub returns-in_ok-check_line-in-Err-clause-exactly : goal.returns-in_ok-check_line-in-Err-clause-exactly
returns-in_ok-check_line-in-Err-clause-exactly c = (
  c.in-Err.ensures.exactly.0,
  unsound_line (check_line (set_seen c.args.packages.now)) _ _ _ c.in-Err.ensures.exactly.1
      c.in_ok-check_line-in-Err.ensures,
)
