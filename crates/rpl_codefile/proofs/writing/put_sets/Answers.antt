use Rattle.std.proofs.Common.{length}
use Rattle.std.proofs.lemmas.Option.{slice_get_read}
use Rattle.std.proofs.Common.{refl}
use Rattle.rpl_codefile.specs.Spelling.{set, FitsSet}
use Rattle.rpl_codefile.proofs.Items.{put_more}
use Rattle.rpl_codefile.proofs.writing.put_sets.Goals as goal

pub loop-item-preserved : goal.loop-item-preserved
loop-item-preserved c =
    put_more set FitsSet c.args.out.now c.loop-item.out c.put_set.new.out c.args.sets.now c.loop-item.item-index
    c.item-item.result (slice_get_read c.args.sets.now (length c.args.sets.now) c.loop-item.item-index
    c.item-item.result refl c.loop-item-test.true c.item-item.is) c.loop-item.invariant c.in_ok-put_set.ensures.bytes
    c.in_ok-put_set.ensures.fits
