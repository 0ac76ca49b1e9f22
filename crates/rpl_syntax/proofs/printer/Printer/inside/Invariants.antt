use Rattle.std.proofs.Common.{◌≡◌, ◌++◌}
use Rattle.rpl_syntax.specs.Printed.{quoted}
use Rattle.rpl_syntax.proofs.printer.Printer.inside.Given as goal

-- the characters so far are written
abbrev pub invariant-loop-c : goal.invariant-loop-c
invariant-loop-c l = l.self ≡ l.fn.self ++ quoted l.yielded
