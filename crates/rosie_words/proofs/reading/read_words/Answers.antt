use Rattle.std.proofs.Common.{◌≡◌, ◌≢◌, Err, arith}
use Rattle.rosie_words.specs.declared.fault.UsageFault.TheVariants as E
use Rattle.rosie_words.specs.Reading.{words_of, reading}
use Rattle.rosie_words.proofs.Walk.{at_end, at_fault}
use Rattle.rosie_words.proofs.reading.read_words.Goals as goal

pub returns-in_err-take-clause-fault : goal.returns-in_err-take-clause-fault
returns-in_err-take-clause-fault c =
    let ws = c.args.words.now in
    let e = c.in_err-take.field-0.0 in
    let w = c.word-item.result in
    let k : e ≢ E.NoMemory → reading (words_of ws) ≡ Err e = λ h.
    at_fault ws c.loop-word.word-index w c.loop-word.reader e c.loop-word-test.true c.word-item.is
    (rw c.as_str.ensures.value at (c.in_err-take.ensures.fault h)) c.loop-word.invariant in
    grind arith

pub returns-clause-ok : goal.returns-clause-ok
returns-clause-ok c = let e =
    at_end c.args.words.now c.loop-word.word-index c.loop-word.reader (omega arith) c.loop-word.invariant in
    rw (← e) c.finish.ensures.ok

pub returns-clause-fault : goal.returns-clause-fault
returns-clause-fault c = let e =
    at_end c.args.words.now c.loop-word.word-index c.loop-word.reader (omega arith) c.loop-word.invariant in
    rw (← e) c.finish.ensures.fault
