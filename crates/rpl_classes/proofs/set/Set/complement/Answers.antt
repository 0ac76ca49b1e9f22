use Rattle.rpl_classes.proofs.Operations.{complement_made, others_made}
use Rattle.rpl_classes.proofs.set.Set.complement.Goals as goal

pub returns-clause-ranges : goal.returns-clause-ranges
returns-clause-ranges c =
    complement_made _ c.args.self.now c.without.result c.in_ok-all.ensures c.without.ensures.ranges

pub returns-clause-members : goal.returns-clause-members
returns-clause-members c =
    others_made c.args.self.now c.without.result (complement_made _ c.args.self.now c.without.result c.in_ok-all.ensures
    c.without.ensures.ranges)
