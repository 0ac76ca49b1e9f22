use Rattle.std.proofs.Common.{◌∙◌, ap}
use Rattle.rpl_text.specs.Numbers.{value, narrow}
use Rattle.rpl_lexer.proofs.Values.{number_read}
use Rattle.rpl_lexer.proofs.payload.number_of.Goals as goal

pub returns : goal.returns
returns c =
    c.unwrap_or.ensures
    ∙ number_read c.args.text.now c.args.token c.value_of_digits.result c.requires.kind c.requires.stands
    (c.value_of_digits.ensures ∙ ap (λ b. narrow (value 0 b)) (c.as_bytes.ensures.value ∙ c.token_text.ensures))
