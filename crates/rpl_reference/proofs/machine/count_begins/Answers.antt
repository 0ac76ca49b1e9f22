use Rattle.std.proofs.Common.{◌≡◌, ap, ◌∙◌, arith, map, take, ◌∷◌, [], ◌+◌}
use Rattle.rpl_core.specs.Forest.{begins}
use Rattle.rpl_reference.specs.Answers.{caught_of}
use Rattle.rpl_reference.proofs.Captures.{begins_append, map_more}
use Rattle.rpl_reference.proofs.machine.count_begins.Goals as goal

pub loop-one-preserved : goal.loop-one-preserved
loop-one-preserved c =
    let more = map_more c.args.caught.now c.loop-one.one-index c.one-item.result c.loop-one-test.true c.one-item.is in
    let sum : begins (map caught_of (take (c.loop-one.one-index + 1) c.args.caught.now))
    ≡ begins (map caught_of (take c.loop-one.one-index c.args.caught.now))
    + begins (caught_of c.one-item.result ∷ []) =
    ap begins more ∙ begins_append (map caught_of (take c.loop-one.one-index c.args.caught.now))
    (caught_of c.one-item.result ∷ []) in
    (omega arith, omega arith)
