use Rattle.std.proofs.lemmas.Result.{err_from_is_err_and}
use Rattle.rpl_codefile.specs.inside.Reading.{items_at, set_at}
use Rattle.rpl_codefile.proofs.Items.{goes_on, ends, is_done}
use Rattle.rpl_codefile.proofs.reading.read_sets.Goals as goal

pub loop-preserved : goal.loop-preserved
loop-preserved c =
    rw c.in_ok-push.ensures.ok (goes_on set_at c.loop.sets c.args.count c.loop.counter c.loop.rest.now c.in_ok-set.set
    c.in_ok-set.after.now (items_at set_at c.args.count c.args.bytes.now) c.loop-test.true c.in_ok-set.ensures
    c.loop.invariant)

pub returns-in_err-set : goal.returns-in_err-set
returns-in_err-set c =
    let p = err_from_is_err_and c.from_residual.result c.from_residual.ensures.1 in
    rw (p.1, p.2) (ends set_at c.in_err-set.field-0.0 c.loop.sets c.args.count c.loop.counter c.loop.rest.now
    (items_at set_at c.args.count c.args.bytes.now) c.loop-test.true c.in_err-set.ensures c.loop.invariant)

pub returns : goal.returns
returns c = is_done set_at c.loop.sets c.args.count c.loop.counter c.loop.rest.now
    (items_at set_at c.args.count c.args.bytes.now) c.loop-test.false c.loop.invariant
