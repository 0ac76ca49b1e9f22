use Rattle.rpl_core.proofs.Rows.{choice_view}
use Rattle.rpl_forms.proofs.make.choice.Goals as goal

pub returns : goal.returns
returns c = choice_view c.args.parts
