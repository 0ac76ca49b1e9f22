use Rattle.rpl_unicode.proofs.Alike.{one_range_made}
use Rattle.rpl_unicode.proofs.folding.folds.Goals as goal

pub returns : goal.returns
returns c = one_range_made c.args.low c.args.high c.folds_of.result c.folds_of.ensures
