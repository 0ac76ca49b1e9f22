use Rattle.std.proofs.Common.{◌≡◌, sym, rules}
use Rattle.json.specs.Print.{escape}
use Rattle.rpl_print.proofs.Plain.{escape_plain}
use Rattle.rpl_encode.proofs.escapes.put_chunk.Goals as goal

pub returns-then-is_plain : goal.returns-then-is_plain
returns-then-is_plain c =
    let same : escape c.args.bytes.now ≡ c.args.bytes.now =
    escape_plain c.args.bytes.now (sym c.if-is_plain.ensures.exact) in
    rw same (search rules)
