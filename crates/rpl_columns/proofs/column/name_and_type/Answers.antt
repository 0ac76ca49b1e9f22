use Rattle.std.proofs.Common.{arith, nat_eq}
use Rattle.rpl_columns.proofs.Halves.{list_any_absent}
use Rattle.rpl_columns.proofs.column.name_and_type.Goals as goal

pub returns-in-None-clause-after : goal.returns-in-None-clause-after
returns-in-None-clause-after c =
    let e = c.in-None.ensures.byte in
    let h = list_any_absent (λ b. nat_eq b 61) c.args.word.now in
    grind arith
