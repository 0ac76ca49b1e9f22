use Rattle.rpl_lexer.proofs.Computing.{cuts, fails, cut_found, fault_found}
use Rattle.rpl_lexer.proofs.laws.cut_computes.Goals as goal

pub returns-clause-cuts : goal.returns-clause-cuts
returns-clause-cuts c = cuts

pub returns-clause-fails : goal.returns-clause-fails
returns-clause-fails c = fails

pub returns-clause-cut : goal.returns-clause-cut
returns-clause-cut c = cut_found

pub returns-clause-fault : goal.returns-clause-fault
returns-clause-fault c = fault_found
