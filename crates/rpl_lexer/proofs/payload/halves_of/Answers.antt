use Rattle.std.proofs.Common.{◌∙◌, ap}
use Rattle.rpl_lexer.specs.Bytes.{is_word, run}
use Rattle.rpl_lexer.proofs.Values.{dotted}
use Rattle.rpl_lexer.proofs.payload.halves_of.Goals as goal

pub range-requires-clause-end_boundary : goal.range-requires-clause-end_boundary
range-requires-clause-end_boundary c =
    (dotted c.args.text.now c.token_text-whole.result.now c.args.token c.run_len-dot.result c.requires.kind
    c.requires.stands c.token_text-whole.utf8 c.token_text-whole.ensures (c.run_len-dot.ensures.value
    ∙ ap (run is_word) c.as_bytes.ensures.value)).before

pub range_from-requires : goal.range_from-requires
range_from-requires c =
    λ _. (dotted c.args.text.now c.token_text-whole.result.now c.args.token c.run_len-dot.result c.requires.kind
    c.requires.stands c.token_text-whole.utf8 c.token_text-whole.ensures (c.run_len-dot.ensures.value
    ∙ ap (run is_word) c.as_bytes.ensures.value)).behind
