use Rattle.std.proofs.Common.{◌≡◌, ◌+◌, ◌-◌, subst, arith}
use Rattle.rpl_core.specs.Listed.{rules_of}
use Rattle.rpl_core.specs.Table.{bodies_of}
use Rattle.rpl_facts.proofs.Settling.{RoundTo, round_begins, round_hits, round_misses}
use Rattle.rpl_facts.proofs.rounds.round.Goals as goal

pub loop-number-init : goal.loop-number-init
loop-number-init c = (
  omega arith,
  omega arith,
  round_begins c.args.fact (bodies_of (rules_of c.args.group.now.rules.now))
      c.args.group.now.start c.args.group.now.end c.args.marks.now c.requires.some.1,
)

pub loop-number-preserved-then-is_new : goal.loop-number-preserved-then-is_new
loop-number-preserved-then-is_new c =
    let x = c.is_new.ensures.new c.if-is_new.true in (
      omega arith,
      omega arith,
      round_hits c.args.fact (bodies_of (rules_of c.args.group.now.rules.now))
          c.args.group.now.start c.loop-number.number (c.loop-number.number - 1) c.args.group.now.end c.args.marks.now
          c.loop-number.marks c.loop-number.found (omega arith) (omega arith) x.0 x.1 c.loop-number.invariant.2,
    )

pub loop-number-preserved : goal.loop-number-preserved
loop-number-preserved c =
    let n = c.loop-number.number - 1 in
    let e : c.loop-number.number ≡ n + 1 = omega arith in
    let to = subst (λ k. RoundTo c.args.fact (bodies_of (rules_of c.args.group.now.rules.now)) c.args.group.now.start k
    c.args.group.now.end c.args.marks.now c.loop-number.marks c.loop-number.found) e c.loop-number.invariant.2 in (
      omega arith,
      omega arith,
      round_misses c.args.fact (bodies_of (rules_of c.args.group.now.rules.now))
          c.args.group.now.start n c.args.group.now.end c.args.marks.now c.loop-number.marks c.loop-number.found
          (c.is_new.ensures.old c.if-is_new.false) to,
    )
