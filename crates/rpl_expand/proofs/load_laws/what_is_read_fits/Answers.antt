use Rattle.rpl_expand.proofs.Fitting.{patterns_fit}
use Rattle.rpl_expand.proofs.Stated.{statements_fit}
use Rattle.rpl_expand.proofs.load_laws.what_is_read_fits.Goals as goal

pub returns : goal.returns
returns c = record { statements = statements_fit; patterns = patterns_fit }
