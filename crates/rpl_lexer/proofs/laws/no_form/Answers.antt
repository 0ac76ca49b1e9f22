use Rattle.rpl_lexer.proofs.Longest.{nothing_fits}
use Rattle.rpl_lexer.proofs.laws.no_form.Goals as goal

pub returns : goal.returns
returns c = nothing_fits
