use Rattle.std.proofs.Common.{Some, sym, ap, ◌∙◌, arith}
use Rattle.std.specs.Str.{chars}
use Rattle.rpl_codefile.proofs.Texts.{text_is, text_not}
use Rattle.rpl_codefile.proofs.reading.read_text.Goals as goal

pub returns-in_ok-from_str-in-Ok : goal.returns-in_ok-from_str-in-Ok
returns-in_ok-from_str-in-Ok c =
    text_is c.args.bytes.now c.in_ok-len.len c.in_ok-len.rest.now c.split_at.result.0.now c.split_at.result.1.now
    c.in_ok-len.ensures (omega (arith, c.if-rest-len.false)) c.split_at.ensures.front c.split_at.ensures.back
    c.in-Ok.ensures.cases.1
    ∙ ap (λ x. Some (chars x, c.split_at.result.1.now)) (sym c.in-Ok.ensures.cases.0)
    ∙ ap (λ x. Some (x, c.split_at.result.1.now)) (sym c.in_ok-from_str-in-Ok.ensures)

pub returns-in-Err : goal.returns-in-Err
returns-in-Err c = text_not c.args.bytes.now c.in_ok-len.len c.in_ok-len.rest.now c.split_at.result.0.now
    c.in_ok-len.ensures (omega (arith, c.if-rest-len.false)) c.split_at.ensures.front c.in-Err.ensures.cases.0
