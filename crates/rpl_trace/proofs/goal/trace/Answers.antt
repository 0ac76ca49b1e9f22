use Rattle.std.proofs.Common.{ap, ◌∙◌}
use Rattle.std.specs.Prelude.{encode_utf8_all}
use Rattle.std.proofs.lemmas.Str.{encodes-chars}
use Rattle.rpl_trace.proofs.goal.trace.Goals as goal

pub returns-clause-printed : goal.returns-clause-printed
returns-clause-printed c =
    ap encode_utf8_all c.in_ok-from_str.ensures ∙ encodes-chars c.deref.result.now c.deref.utf8 ∙ c.deref.ensures
    ∙ c.in_ok-bytes.ensures ∙ c.in_ok-text.ensures.printed
