use Rattle.std.proofs.Common.{reverse, ap, ◌∙◌, arith}
use Rattle.rpl_trace.proofs.Reading as R
use Rattle.rpl_trace.proofs.States.{last_first, nil_from_length}
use Rattle.rpl_trace.proofs.lines.lines.Goals as goal

pub loop-event-init : goal.loop-event-init
loop-event-init c =
    let n = c.in_ok-back.ensures in (
      (λ t f st w. R.half_begins t f (reverse c.args.events.items) c.in_ok-back.back st w (n.ends t) (n.rows t)
          (n.read t)),
      omega (arith, n.depth, c.len-count.ensures, c.args.events.ok.0),
    )

pub loop-event-preserved : goal.loop-event-preserved
loop-event-preserved c =
    let e = ap reverse c.in-Some.ensures.items ∙ last_first c.pop.new.self.items c.in-Some.event in
    let i = c.loop-event.invariant in (
      (λ t f st w. R.half_goes_on t f (reverse c.loop-event.events.items) (reverse c.pop.new.self.items) c.in-Some.event
          c.loop-event.back c.read.new.self e (i.0 t f st w) (c.in_ok-read.ensures.reads t _)),
      omega (
        arith,
        i.1,
        c.in_ok-read.ensures.depth,
        c.in-Some.ensures.len,
        c.pop.new.self.ok.0,
        c.loop-event.events.ok.0,
      ),
    )

pub returns-clause-rows : goal.returns-clause-rows
returns-clause-rows c = λ t f st w.
    R.half_ends t f (reverse c.loop-event.events.items) c.loop-event.back
    (ap reverse (nil_from_length c.loop-event.events.items (let a = c.in_default.ensures.cases.0 in
    omega (arith, c.loop-event.events.ok.0)))) (c.loop-event.invariant.0 t f st w)

pub returns-clause-stand : goal.returns-clause-stand
returns-clause-stand c = λ t f st w. (c.loop-event.invariant.0 t f st w).read.lines
