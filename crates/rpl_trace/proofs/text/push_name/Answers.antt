use Rattle.std.proofs.Common.{string_bytes, ◌++◌, sym, ap, ◌∙◌}
use Rattle.std.proofs.lemmas.List.{append-nil}
use Rattle.std.specs.Option.{option_copied}
use Rattle.std.specs.Str.{encode_utf8_all}
use Rattle.rpl_core.specs.Listed.{rules_of}
use Rattle.rpl_trace.proofs.Texts.{no_name}
use Rattle.rpl_trace.proofs.text.push_name.Goals as goal

pub returns-in-None : goal.returns-in-None
returns-in-None c =
    sym (ap (λ x. string_bytes c.args.out.now ++ encode_utf8_all x)
    (no_name (rules_of c.args.rules.now) c.args.rule (sym c.get.ensures ∙ ap option_copied c.in-None.is))
    ∙ append-nil (string_bytes c.args.out.now))
