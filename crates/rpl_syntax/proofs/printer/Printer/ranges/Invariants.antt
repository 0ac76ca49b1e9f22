use Rattle.std.proofs.Common.{◌≡◌, ◌++◌, take}
use Rattle.rpl_syntax.specs.Printed.{ranges_text}
use Rattle.rpl_syntax.proofs.printer.Printer.ranges.Given as goal

-- the ranges so far are written
abbrev pub invariant-loop-range : goal.invariant-loop-range
invariant-loop-range l = l.self ≡ l.fn.self ++ ranges_text (take l.range-index l.ranges)
