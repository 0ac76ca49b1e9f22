use Rattle.rpl_compile_laws.proofs.Answering.{answer_holds}
use Rattle.rpl_compile_laws.proofs.answer_law.Goals as goal

pub returns : goal.returns
returns c = answer_holds
