use Rattle.std.proofs.Common.{string_bytes}
use Rattle.rpl_trace.proofs.Texts.{four_parts}
use Rattle.rpl_trace.proofs.text.push_line.Goals as goal

pub returns : goal.returns
returns c =
    four_parts c.push_str-4.result (string_bytes c.args.out.now) _ _ _ _ _ _ _ _ _ _ _ _ 32 10
    c.in_ok-push_decimal.ensures.ok c.in_ok-push_str.ensures.bytes c.in_ok-push_kind.ensures
    c.in_ok-push_str-2.ensures.bytes c.in_ok-push_place.ensures c.in_ok-push_str-3.ensures.bytes
    c.in_ok-push_end.ensures c.push_str-4.ensures.bytes
