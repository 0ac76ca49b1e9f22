use Rattle.std.proofs.Common.{◌+◌, length, arith}
use Rattle.rosie_io.proofs.NearFeed.{none_more, first_more}
use Rattle.rosie_io.proofs.feeds.first_feed.Goals as goal

pub loop-at-preserved : goal.loop-at-preserved
loop-at-preserved c =
    let l = c.loop-at in
    record {
      inside = omega (arith, l.invariant.inside, c.loop-at-test.true);
      none = none_more c.args.bytes.now 0 l.at (l.at + 32) l.invariant.none c.in-None.ensures;
    }

pub returns-in-Some : goal.returns-in-Some
returns-in-Some c =
    let l = c.loop-at in
    first_more c.args.bytes.now 0 l.at (l.at + 32) (length c.args.bytes.now) c.in-Some.place l.invariant.none
    c.in-Some.ensures (omega arith) (omega (arith, l.invariant.inside, c.loop-at-test.true))
