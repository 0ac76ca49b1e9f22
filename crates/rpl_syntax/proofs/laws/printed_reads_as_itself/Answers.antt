use Rattle.rpl_syntax.proofs.Bared.{read_reads_as_itself, reads_as_itself}
use Rattle.rpl_syntax.proofs.laws.printed_reads_as_itself.Goals as goal

pub returns-clause-read : goal.returns-clause-read
returns-clause-read c = read_reads_as_itself

pub returns-clause-written : goal.returns-clause-written
returns-clause-written c = reads_as_itself
