use Rattle.std.proofs.Common.{◌∙◌, sym}
use Rattle.rpl_core.specs.Listed.{rules_of}
use Rattle.rpl_core.specs.Table.{blocks_of}
use Rattle.rpl_facts.proofs.Grouping.{joined_more}
use Rattle.rpl_facts.proofs.group.group_end.Goals as goal

pub loop-number-preserved : goal.loop-number-preserved
loop-number-preserved c =
    joined_more (blocks_of (rules_of c.args.rules.now)) c.args.start c.loop-number.number c.loop-number.invariant
    (sym c.joins_next.ensures ∙ c.if-not-joins_next.false)
