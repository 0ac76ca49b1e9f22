use Rattle.std.proofs.Common.{◌≤◌, ◌-◌, length}
use Rattle.rosie_io.proofs.NearFeed.{NoFeed}
use Rattle.rosie_io.proofs.feeds.first_feed.Given as goal

-- no line feed was passed
abbrev pub invariant-loop-at : goal.invariant-loop-at
invariant-loop-at l = record { inside : l.at ≤ length l.bytes; none : NoFeed l.bytes 0 l.at }

abbrev pub decreases-loop-at : goal.decreases-loop-at
decreases-loop-at l = length l.bytes - l.at
