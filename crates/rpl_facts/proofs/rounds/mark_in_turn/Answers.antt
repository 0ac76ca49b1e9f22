use Rattle.rpl_facts.proofs.Settling.{grows_none, grows_on}
use Rattle.rpl_facts.proofs.rounds.mark_in_turn.Goals as goal

pub loop-place-init : goal.loop-place-init
loop-place-init c = (grows_none c.args.group.now.start c.args.marks.now, c.requires.some.1)

pub loop-place-preserved : goal.loop-place-preserved
loop-place-preserved c = (
  grows_on c.args.group.now.start c.args.marks.now c.loop-place.marks c.mark_if_new.new.marks
      c.loop-place.invariant.0 c.mark_if_new.ensures.0,
  c.mark_if_new.ensures.1,
)

pub returns : goal.returns
returns c = c.loop-place.invariant
