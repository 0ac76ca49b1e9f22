use Rattle.std.proofs.lemmas.Option.{slice_get-get_or}
use Rattle.rpl_codefile.specs.Spelling.{range, ShortRange}
use Rattle.rpl_codefile.proofs.Items.{put_more}
use Rattle.rpl_codefile.proofs.writing.put_ranges.Goals as goal
use Rattle.std.proofs.Common.{get_or}

pub loop-item-preserved : goal.loop-item-preserved
loop-item-preserved c =
    put_more range ShortRange c.args.out.now c.loop-item.out c.put_range.new.out c.args.ranges.now
    c.loop-item.item-index (get_or c.args.ranges.now c.loop-item.item-index (0, 0))
    (slice_get-get_or c.args.ranges.now c.loop-item.item-index (0, 0) c.loop-item-test.true) c.loop-item.invariant
    c.in_ok-put_range.ensures.bytes c.in_ok-put_range.ensures.short
