use Rattle.std.proofs.Common.{ap, arith, length}
use Rattle.rpl_codefile.proofs.Making.{set_fits}
use Rattle.rpl_codefile.proofs.writing.put_set.Goals as goal

pub overflow_cast-ranges : goal.overflow_cast-ranges
overflow_cast-ranges c =
    let fits = set_fits c.args.item.now c.ranges-ranges.ensures.normal in
    omega (arith, ap length c.ranges-ranges.ensures.same, fits.long)
