use Rattle.std.proofs.Common.{◌≡◌, ◌≤◌, ◌++◌, drop, length}
use Rattle.std.specs.Prelude.{string_bytes}
use Rattle.rosie_run.specs.Parts.{part_bytes}
use Rattle.rosie_run.proofs.parts.Parts.fill.Given as goal

abbrev pub invariant-bits : goal.invariant-bits
invariant-bits g l =
    (l.self.part.items ++ drop l.self.from (string_bytes l.self.bit) ++ g.T.TextSource.left l.self.text
    ≡ drop l.fn.self.from (string_bytes l.fn.self.bit) ++ g.T.TextSource.left l.fn.self.text)
    × (length l.self.part.items ≤ part_bytes) × (l.self.tool ≡ l.fn.self.tool)

abbrev pub decreases-bits : goal.decreases-bits
decreases-bits g l = length (g.T.TextSource.left l.self.text)
