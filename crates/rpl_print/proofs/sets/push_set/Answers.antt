use Rattle.std.proofs.Common.{◌≡◌, length, string_bytes, arith}
use Rattle.std.specs.String.{string_len}
use Rattle.std.proofs.lemmas.Str.{IsUtf8-string_bytes}
use Rattle.rpl_print.proofs.Behind.{may_cut}
use Rattle.rpl_print.proofs.sets.push_set.Goals as goal

pub truncate-requires : goal.truncate-requires
truncate-requires c = λ _.
    let same : string_len c.args.out.now ≡ length (string_bytes c.args.out.now) =
    omega (arith, c.args.out.now.bytes.ok) in
    rw (c.len-before.ensures, same)
    (may_cut _ _ (IsUtf8-string_bytes c.args.out.now) (IsUtf8-string_bytes c.push_ranges.new.out)
    c.push_ranges.ensures.stays)
