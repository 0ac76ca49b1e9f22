use Rattle.rosie_io.proofs.NearFeed.{near_first, near_none}
use Rattle.rosie_io.proofs.feeds.near_feed.Goals as goal

pub returns-then-before-lt-LANES : goal.returns-then-before-lt-LANES
returns-then-before-lt-LANES c =
    near_first c.args.bytes.now c.args.from c.lowest-before.result c.requires c.lowest-before.ensures
    c.if-before-lt-LANES.true

pub returns-else-before-lt-LANES : goal.returns-else-before-lt-LANES
returns-else-before-lt-LANES c =
    near_none c.args.bytes.now c.args.from c.lowest-before.result c.requires c.lowest-before.ensures
    c.if-before-lt-LANES.false
