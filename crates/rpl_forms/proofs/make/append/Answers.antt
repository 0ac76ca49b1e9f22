use Rattle.std.proofs.Common.{ap, ◌∙◌}
use Rattle.rpl_core.specs.View.{cores, listed}
use Rattle.rpl_forms.proofs.Joins.{cores_last}
use Rattle.rpl_forms.proofs.make.append.Goals as goal

pub returns : goal.returns
returns c = ap cores c.in_ok-push.ensures.ok ∙ cores_last (listed c.args.parts.now) c.args.part
