use Rattle.std.proofs.Common.{◌+◌, ◌++◌, ◌∷◌, ◌∙◌, [], ap, string_bytes, append_assoc}
use Rattle.std.specs.Prelude.{codes, decimal}
use Rattle.rpl_core.specs.Listed.{rules_of}
use Rattle.rpl_core.specs.Table.{names_of}
use Rattle.rpl_core.specs.View.{core_of}
use Rattle.rpl_expand.specs.Printed.{printed}
use Rattle.rosie_inspect.proofs.Tokens.{more_made}
use Rattle.rosie_inspect.proofs.expanding.Expanding.make_behind.Goals as goal

pub returns : goal.returns
returns c =
    let names = names_of (rules_of c.args.self.now.rules.now) in
    let least = decimal c.args.least in let most = decimal c.args.most in
    let begun = string_bytes c.push_str.new.self in
    more_made (codes "(behind ") (least ++ 32 ∷ most) (printed names (core_of c.args.body.now)) _ _ _ begun _ _
    c.in_ok-push_str.ensures.bytes
    (c.in_ok-push_decimal-2.ensures.ok ∙ ap (λ x. x ++ most) c.in_ok-push_str-2.ensures.bytes
    ∙ ap (λ x. (x ++ 32 ∷ []) ++ most) c.in_ok-push_decimal.ensures.ok
    ∙ append_assoc (begun ++ least) (32 ∷ []) most ∙ append_assoc begun least (32 ∷ most)) c.in_ok-make_body.ensures
