use Rattle.std.proofs.Common.{arith}
use Rattle.rpl_core.specs.Listed.{rules_of}
use Rattle.rpl_core.specs.Table.{bodies_of, blocks_of}
use Rattle.rpl_facts.proofs.Grouping.{group_calls}
use Rattle.rpl_facts.proofs.Ordering.{known_all}
use Rattle.rpl_facts.proofs.rounds.close_all.Goals as goal

pub loop-start-preserved : goal.loop-start-preserved
loop-start-preserved c =
    let rules = rules_of c.args.rules.now in (
      c.group_end-end.ensures.within,
      c.in_ok-close.ensures,
      group_calls (bodies_of rules) (blocks_of rules) c.loop-start.start c.group_end-end.result c.requires.order
          c.group_end-end.ensures.group,
    )

pub returns : goal.returns
returns c = known_all c.args.fact (rules_of c.args.rules.now) c.loop-start.start c.loop-start.marks (omega arith)
    c.loop-start.invariant.1
