use Rattle.std.proofs.Common.{◌++◌, ◌∙◌, ap, string_bytes}
use Rattle.rpl_print.specs.Sets.{set_text}
use Rattle.rosie_inspect.proofs.kept_set.KeptSet.push.Goals as goal

pub returns : goal.returns
returns c =
    c.in_ok-push_str.ensures.bytes
    ∙ ap (λ x. string_bytes c.args.out.now ++ x)
    (c.deref.ensures ∙ c.hold.new.self.same ∙ ap set_text c.in_ok-hold.ensures)
