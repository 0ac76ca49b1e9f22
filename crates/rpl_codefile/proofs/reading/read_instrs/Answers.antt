use Rattle.std.proofs.lemmas.Result.{err_from_is_err_and}
use Rattle.rpl_codefile.specs.inside.Reading.{items_at, instr_at}
use Rattle.rpl_codefile.proofs.Items.{goes_on, ends, is_done}
use Rattle.rpl_codefile.proofs.reading.read_instrs.Goals as goal

pub loop-preserved : goal.loop-preserved
loop-preserved c =
    rw c.in_ok-push.ensures.ok (goes_on instr_at c.loop.instrs c.args.count c.loop.counter c.loop.rest.now
    c.in_ok-instr.instr c.in_ok-instr.after.now (items_at instr_at c.args.count c.args.bytes.now) c.loop-test.true
    c.in_ok-instr.ensures c.loop.invariant)

pub returns-in_err-instr : goal.returns-in_err-instr
returns-in_err-instr c =
    let p = err_from_is_err_and c.from_residual.result c.from_residual.ensures.1 in
    rw (p.1, p.2) (ends instr_at c.in_err-instr.field-0.0 c.loop.instrs c.args.count c.loop.counter c.loop.rest.now
    (items_at instr_at c.args.count c.args.bytes.now) c.loop-test.true c.in_err-instr.ensures c.loop.invariant)

pub returns : goal.returns
returns c = is_done instr_at c.loop.instrs c.args.count c.loop.counter c.loop.rest.now
    (items_at instr_at c.args.count c.args.bytes.now) c.loop-test.false c.loop.invariant
