use Rattle.std.specs.Prelude.{codes, encode_utf8_all}
use Rattle.rpl_core.specs.Listed.{rules_of}
use Rattle.rpl_core.specs.Table.{names_of}
use Rattle.rpl_core.specs.View.{core_of}
use Rattle.rpl_expand.specs.Printed.{printed}
use Rattle.rosie_inspect.proofs.Tokens.{more_made}
use Rattle.rosie_inspect.proofs.expanding.Expanding.make_capture.Goals as goal

pub returns : goal.returns
returns c =
    let names = names_of (rules_of c.args.self.now.rules.now) in
    more_made (codes "(capture ") (encode_utf8_all c.args.name.now) (printed names (core_of c.args.body.now)) _ _ _ _ _
    _ c.in_ok-push_str.ensures.bytes c.in_ok-push_text.ensures.ok c.in_ok-make_body.ensures
