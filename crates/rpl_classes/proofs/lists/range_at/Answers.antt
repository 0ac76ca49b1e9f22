use Rattle.std.specs.Prelude.{chars}
use Rattle.rpl_classes.proofs.ListSteps.{three_found}
use Rattle.rpl_classes.proofs.lists.range_at.Goals as goal

pub returns : goal.returns
returns c =
    let m = c.in_ok-low.ensures in
    let a = c.in_ok-behind.ensures in
    let n = c.in_ok-high.ensures in
    let b = c.in_ok-next.ensures in
    three_found (chars c.args.text.now) c.args.place c.in_ok-low.low c.in_ok-low.dash c.in_ok-behind.behind
    c.in_ok-high.high c.in_ok-high.end c.in_ok-next.next m.0 m.1 m.2 a.0 a.1 n.0 n.1 n.2 b.0 b.1
