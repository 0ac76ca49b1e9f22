use Rattle.rpl_classes.proofs.Bitmaps.{two_masks}
use Rattle.rpl_classes.proofs.set.single.Goals as goal

pub invariant_of-result : goal.invariant_of-result
invariant_of-result c = (
  c.requires,
  two_masks (c.args.low, c.args.high) c.bits_in.result c.bits_in-2.result c.bits_in.ensures
      c.bits_in-2.ensures,
)
