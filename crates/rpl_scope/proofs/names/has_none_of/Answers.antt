use Rattle.std.proofs.Common.{arith}
use Rattle.rpl_scope.proofs.SharedNames.{disjoint_by, nth_within}
use Rattle.rpl_scope.proofs.names.has_none_of.Goals as goal

pub returns : goal.returns
returns c =
    λ _. disjoint_by c.args.names.now c.args.others.now (λ i q at.
    let within = nth_within c.args.others.now i q at in
    c.loop-number.invariant i q (omega (arith, within, c.len-number-end.ensures)) at)
