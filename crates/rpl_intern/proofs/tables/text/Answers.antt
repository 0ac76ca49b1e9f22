use Rattle.std.proofs.Common.{◌≡◌, ◌++◌, take, sym, ap, subst, ◌∙◌, arith}
use Rattle.std.specs.Prelude.{IfOk, encode_utf8, encode_utf8_all}
use Rattle.std.proofs.lemmas.List.{take_all}
use Rattle.std.proofs.lemmas.Str.{chars_from_encodes}
use Rattle.rpl_intern.proofs.Keeping.{more_encoded}
use Rattle.rpl_intern.proofs.tables.text.Goals as goal

pub loop-c-preserved : goal.loop-c-preserved
loop-c-preserved c =
    c.in_ok-push.ensures.bytes ∙ ap (λ l. l ++ encode_utf8 c.c-item.result) c.loop-c.invariant
    ∙ sym (more_encoded c.args.characters.now c.loop-c.c-index c.c-item.result c.loop-c-test.true c.c-item.is)

pub returns : goal.returns
returns c =
    let xs = c.args.characters.now in
    let all : take c.loop-c.c-index xs ≡ xs = take_all c.loop-c.c-index xs (omega (arith, c.loop-c-test.false)) in
    let spelled = sym (c.as_str.ensures.value ∙ c.loop-c.invariant ∙ ap encode_utf8_all all) in
    subst (λ l. IfOk c.from_str.result (λ y. y ≡ l))
    (sym (chars_from_encodes xs c.as_str.result.now c.as_str.utf8 spelled)) c.from_str.ensures
