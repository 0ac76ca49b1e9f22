use Rattle.std.proofs.Common.{◌≡◌, ◌+◌, ap, sym, arith, rules}
use Rattle.std.proofs.lemmas.Fmt.{length-decimal-le}
use Rattle.rpl_encode.proofs.Digits.{written_up_to}
use Rattle.rpl_encode.proofs.page.write_long.Goals as goal

pub overflow_add-end : goal.overflow_add-end
overflow_add-end c = search (rules, length-decimal-le 20)

pub write_digits-requires : goal.write_digits-requires
write_digits-requires c = search (rules, length-decimal-le 20)

pub returns-clause-end : goal.returns-clause-end
returns-clause-end c = search (rules, length-decimal-le 20)

pub returns-clause-written : goal.returns-clause-written
returns-clause-written c =
    let long = c.count_digits.ensures in
    let same : c.write_digits.result ≡ c.args.at = omega (arith, long, c.write_digits.ensures.start) in
    written_up_to c.args.buffer.now c.write_digits.new.buf _ _ c.args.at (c.args.at + c.count_digits.result)
    (ap (λ n. c.args.at + n) (sym long)) (rw same at c.write_digits.ensures.before)
    (rw same at c.write_digits.ensures.written)
