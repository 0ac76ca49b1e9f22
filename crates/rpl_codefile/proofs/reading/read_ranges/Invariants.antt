use Rattle.std.proofs.Common.{◌≡◌, ◌-◌}
use Rattle.rpl_codefile.specs.inside.Reading.{items_at, range_at}
use Rattle.rpl_codefile.proofs.Items.{with_front}
use Rattle.rpl_codefile.proofs.reading.read_ranges.Given as goal

abbrev pub invariant-loop : goal.invariant-loop
invariant-loop l = with_front l.ranges.items (items_at range_at (l.count - l.counter) l.rest)
    ≡ items_at range_at l.count l.bytes
