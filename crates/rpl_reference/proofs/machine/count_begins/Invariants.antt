use Rattle.std.proofs.Common.{◌≡◌, ◌≤◌, take, map}
use Rattle.rpl_core.specs.Forest.{begins}
use Rattle.rpl_reference.specs.Answers.{caught_of}
use Rattle.rpl_reference.proofs.machine.count_begins.Given as goal

abbrev pub invariant-loop-one : goal.invariant-loop-one
invariant-loop-one l = (l.count ≤ l.one-index) × (l.count ≡ begins (map caught_of (take l.one-index l.caught)))
