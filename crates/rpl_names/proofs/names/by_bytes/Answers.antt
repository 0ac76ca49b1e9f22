use Rattle.std.proofs.Common.{sym, ap, ap₂, ◌∙◌}
use Rattle.std.specs.Prelude.{encode_utf8_all}
use Rattle.std.specs.Cmp.Lexicographic.{slice_cmp}
use Rattle.std.specs.Ordering.{nat_cmp}
use Rattle.rpl_scope.proofs.Characters.{encoded}
use Rattle.rpl_names.proofs.names.by_bytes.Goals as goal

pub returns : goal.returns
returns c =
    let a = sym (encoded c.as_str.result.now c.as_str.utf8) ∙ ap encode_utf8_all c.as_str.ensures in
    let b = sym (encoded c.as_str-2.result.now c.as_str-2.utf8) ∙ ap encode_utf8_all c.as_str-2.ensures in
    c.cmp.ensures ∙ ap₂ (slice_cmp nat_cmp) a b
