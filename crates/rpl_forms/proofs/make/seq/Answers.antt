use Rattle.rpl_core.proofs.Rows.{seq_view}
use Rattle.rpl_forms.proofs.make.seq.Goals as goal

pub returns : goal.returns
returns c = seq_view c.args.parts
