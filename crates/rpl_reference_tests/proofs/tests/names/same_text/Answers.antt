use Rattle.std.proofs.Common.{◌∙◌, sym, ap}
use Rattle.std.specs.Prelude.{chars, encode_utf8_all}
use Rattle.std.proofs.lemmas.Slice.Eq.{bytes_eq-Decides}
use Rattle.std.proofs.lemmas.Str.{encodes-chars}
use Rattle.rpl_reference_tests.proofs.tests.names.same_text.Goals as goal

pub returns : goal.returns
returns c =
    let x = c.as_str.result.now in
    let y = c.as_str-2.result.now in
    let decides = bytes_eq-Decides x y in (
      λ t. sym c.as_str.ensures ∙ ap chars (decides.0 (sym c.eq.ensures ∙ t)) ∙ c.as_str-2.ensures,
      λ e. c.eq.ensures
          ∙ decides.1 (sym (encodes-chars x c.as_str.utf8)
          ∙ ap encode_utf8_all (c.as_str.ensures ∙ e ∙ sym c.as_str-2.ensures) ∙ encodes-chars y c.as_str-2.utf8),
    )
