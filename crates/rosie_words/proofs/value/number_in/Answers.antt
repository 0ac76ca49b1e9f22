use Rattle.rosie_words.proofs.Numbers.{too_large}
use Rattle.rosie_words.proofs.value.number_in.Goals as goal

pub returns-then-most-number : goal.returns-then-most-number
returns-then-most-number c =
    let s = c.as_bytes-byte-items.result.now in
    too_large c.args.least c.args.most c.args.word.now s c.loop-byte.byte-index c.loop-byte.number _
    c.as_bytes-byte-items.ensures.value c.loop-byte-test.true c.loop-byte.invariant.same (cc) c.if-most-number.true
