use Rattle.rosie_io.proofs.NearFeed.{NoFeed}
use Rattle.rosie_io.proofs.feeds.far_feed.Given as goal

-- no line feed was passed
abbrev pub invariant-loop-place : goal.invariant-loop-place
invariant-loop-place l = NoFeed l.bytes 0 l.place
