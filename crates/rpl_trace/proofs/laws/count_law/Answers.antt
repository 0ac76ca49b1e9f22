use Rattle.rpl_trace.proofs.Counted.{count_holds}
use Rattle.rpl_trace.proofs.Going.{then_steps}
use Rattle.rpl_trace.proofs.Entering.{ways_in}
use Rattle.rpl_trace.proofs.Reading.{none_open}
use Rattle.rpl_trace.proofs.Rows.{rows_printed}
use Rattle.rpl_trace.proofs.laws.count_law.Goals as goal

pub returns : goal.returns
returns c = let x = then_steps in let y = ways_in in let z = none_open in let w = rows_printed in count_holds
