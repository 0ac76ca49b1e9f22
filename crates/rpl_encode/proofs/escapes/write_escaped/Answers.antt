use Rattle.std.proofs.Common.{sym, rules}
use Rattle.rpl_encode.proofs.Escaping.{plain_byte}
use Rattle.rpl_encode.proofs.escapes.write_escaped.Goals as goal

pub returns-then-is_plain_byte-clause-written : goal.returns-then-is_plain_byte-clause-written
returns-then-is_plain_byte-clause-written c =
    rw (plain_byte c.args.byte (sym c.if-is_plain_byte.ensures)) (search rules)
