use Rattle.std.proofs.Common.{sym, ap, subst}
use Rattle.std.specs.Prelude.{is_ok}
use Rattle.rpl_core.specs.Table.{AreDistinct, names_of}
use Rattle.rpl_core.proofs.Names.{distinct_pushed}
use Rattle.rpl_core.proofs.rules.Rules.push.Goals as goal

pub invariant_of-self-clause-distinct : goal.invariant_of-self-clause-distinct
invariant_of-self-clause-distinct c =
    subst AreDistinct (sym (ap names_of c.push.ensures.items))
    (distinct_pushed (is_ok c.push.result) c.args.self.now.items.items c.args.rule c.args.self.now.distinct
    c.requires.new_name)
