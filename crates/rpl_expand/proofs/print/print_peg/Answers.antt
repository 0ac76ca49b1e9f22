use Rattle.std.proofs.Common.{◌++◌, ap, ◌∙◌}
use Rattle.std.specs.Prelude.{encode_utf8_all}
use Rattle.std.proofs.lemmas.Result.{IfOk-weaker}
use Rattle.std.proofs.lemmas.Str.{encodes-chars}
use Rattle.rpl_core.specs.Listed.{rules_of}
use Rattle.rpl_core.specs.Table.{names_of}
use Rattle.rpl_core.specs.View.{core_of}
use Rattle.rpl_expand.specs.Printed.{printed}
use Rattle.rpl_expand.proofs.print.print_peg.Goals as goal

pub returns : goal.returns
returns c =
    let text = printed (names_of (rules_of c.args.rules.now)) (core_of c.args.peg.now) in
    IfOk-weaker c.from_str.result _ _ (λ x e.
    ap encode_utf8_all e ∙ encodes-chars c.deref.result.now c.deref.utf8 ∙ c.deref.ensures ∙ c.in_ok-push_peg.ensures
    ∙ ap (λ b. b ++ text) c.new-out.ensures.bytes) c.from_str.ensures
