use Rattle.std.proofs.Common.{◌≡◌, ◌-◌}
use Rattle.rpl_codefile.specs.inside.Reading.{items_at, set_at}
use Rattle.rpl_codefile.proofs.Items.{with_front}
use Rattle.rpl_codefile.proofs.reading.read_sets.Given as goal

abbrev pub invariant-loop : goal.invariant-loop
invariant-loop l = with_front l.sets (items_at set_at (l.count - l.counter) l.rest) ≡ items_at set_at l.count l.bytes
