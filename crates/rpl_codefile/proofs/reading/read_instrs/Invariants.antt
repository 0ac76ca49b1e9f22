use Rattle.std.proofs.Common.{◌≡◌, ◌-◌}
use Rattle.rpl_codefile.specs.inside.Reading.{items_at, instr_at}
use Rattle.rpl_codefile.proofs.Items.{with_front}
use Rattle.rpl_codefile.proofs.reading.read_instrs.Given as goal

abbrev pub invariant-loop : goal.invariant-loop
invariant-loop l = with_front l.instrs (items_at instr_at (l.count - l.counter) l.rest)
    ≡ items_at instr_at l.count l.bytes
