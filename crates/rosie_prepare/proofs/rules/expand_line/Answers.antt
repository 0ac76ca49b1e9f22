use Rattle.std.proofs.Common.{ap}
use Rattle.std.specs.Prelude.{string_bytes}
use Rattle.std.specs.Option.{option_map}
use Rattle.rosie_prepare.proofs.Told.{line_due}
use Rattle.rosie_prepare.specs.Lines.{expand_line}
use Rattle.rpl_expand.specs.Answers.{fault_named}
use Rattle.rpl_names.specs.Sets.{set_seen}
use Rattle.rosie_prepare.proofs.rules.expand_line.Goals as goal

pub returns-in-TooLarge : goal.returns-in-TooLarge
returns-in-TooLarge c =
    line_due string_bytes c.named_line.result _ _
    (ap (λ f. option_map (expand_line (set_seen c.args.packages.now)) (fault_named f)) c.in-TooLarge.is)
    c.named_line.ensures
