use Rattle.std.proofs.Common.{rules}
use Rattle.std.proofs.lemmas.Fmt.{decimal_digit}
use Rattle.rpl_encode.proofs.Digits.{two_digits}
use Rattle.rpl_encode.proofs.page.write_number.Goals as goal

pub returns-then-number-lt10-clause-written : goal.returns-then-number-lt10-clause-written
returns-then-number-lt10-clause-written c = rw (decimal_digit c.args.number c.if-number-lt10.true) (search rules)

pub returns-then-number-lt100-clause-written : goal.returns-then-number-lt100-clause-written
returns-then-number-lt100-clause-written c =
    rw (two_digits c.args.number c.if-number-lt10.false c.if-number-lt100.true) (search rules)
