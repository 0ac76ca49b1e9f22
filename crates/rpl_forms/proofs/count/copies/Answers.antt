use Rattle.std.proofs.Common.{◌≢◌, ◌*◌, ap, arith}
use Rattle.rpl_forms.specs.Sizes.{nodes}
use Rattle.rpl_forms.specs.Sizes as Measures
use Rattle.rpl_forms.proofs.Counted.{copies_nodes, copies_deep, capped_times}
use Rattle.rpl_forms.proofs.count.copies.Goals as goal

pub returns : goal.returns
returns c = λ p ps f g.
    let some : c.args.number ≢ 0 = c.if-number-eq0.false in
    record {
      size_is =
          omega (
            arith,
            ap (λ s. c.args.number * s) f.size_is,
            f.size_is,
            g.size_is,
            copies_nodes c.args.number p ps,
            capped_times c.args.number (nodes p) (Measures.all_nodes ps) some,
          );
      depth_is = omega (arith, f.depth_is, g.depth_is, copies_deep c.args.number p ps some);
    }
