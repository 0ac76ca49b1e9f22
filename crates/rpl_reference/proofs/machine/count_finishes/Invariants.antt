use Rattle.std.proofs.Common.{◌≡◌, ◌≤◌, take, map}
use Rattle.rpl_core.specs.Forest.{finishes}
use Rattle.rpl_reference.specs.Answers.{caught_of}
use Rattle.rpl_reference.proofs.machine.count_finishes.Given as goal

abbrev pub invariant-loop-one : goal.invariant-loop-one
invariant-loop-one l = (l.count ≤ l.one-index) × (l.count ≡ finishes (map caught_of (take l.one-index l.caught)))
