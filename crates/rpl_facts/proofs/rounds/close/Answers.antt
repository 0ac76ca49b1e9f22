use Rattle.rpl_core.specs.Listed.{rules_of}
use Rattle.rpl_core.specs.Table.{bodies_of}
use Rattle.rpl_facts.proofs.Settling.{room_less, known_end, grows_on}
use Rattle.rpl_facts.proofs.rounds.close.Goals as goal

pub loop-fact-init : goal.loop-fact-init
loop-fact-init c = c.in_ok-mark_most.ensures

pub loop-fact-smaller : goal.loop-fact-smaller
loop-fact-smaller c =
    room_less c.loop-fact.marks c.round.new.marks c.round.ensures.adds.0.long
    (c.round.ensures.found c.loop-fact-test.true)

pub loop-fact-preserved : goal.loop-fact-preserved
loop-fact-preserved c = (
  grows_on c.args.group.now.start c.args.marks.now c.loop-fact.marks c.round.new.marks c.loop-fact.invariant.0
      c.round.ensures.adds.0,
  c.round.ensures.adds.1,
)

pub returns : goal.returns
returns c =
    known_end c.args.fact (bodies_of (rules_of c.args.group.now.rules.now)) c.args.group.now.start c.args.group.now.end
    c.args.marks.now c.round.new.marks c.requires.within.0 c.requires.known
    (grows_on c.args.group.now.start c.args.marks.now c.loop-fact.marks c.round.new.marks c.loop-fact.invariant.0
    c.round.ensures.adds.0) c.round.ensures.adds.1 (c.round.ensures.quiet c.loop-fact-test.false).1 c.requires.earlier
