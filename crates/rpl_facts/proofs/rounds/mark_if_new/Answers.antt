use Rattle.std.proofs.Common.{◌+◌, ◌<◌, length, arith}
use Rattle.rpl_core.specs.Listed.{rules_of}
use Rattle.rpl_core.specs.Table.{bodies_of}
use Rattle.rpl_facts.proofs.Settling.{grows_none, hit_grows, hit_under}
use Rattle.rpl_facts.proofs.rounds.mark_if_new.Goals as goal

pub returns-then-is_new : goal.returns-then-is_new
returns-then-is_new c =
    let a = c.args.group.now.start in
    let n = a + c.args.place in
    let marks = c.args.marks.now in
    let fit : n < length marks = omega (arith, c.requires.some.0, c.requires.within.1, c.if-place-group.false) in (
      hit_grows a n marks marks (omega arith) fit (grows_none a marks),
      hit_under c.args.fact (bodies_of (rules_of c.args.group.now.rules.now)) n marks fit
          (c.is_new.ensures.new c.if-is_new.true).1 c.requires.some.1,
    )
