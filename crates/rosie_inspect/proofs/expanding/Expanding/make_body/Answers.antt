use Rattle.std.proofs.Common.{◌+◌, ◌++◌, ◌∷◌, ◌∙◌, [], ap, sym, append_assoc}
use Rattle.rpl_core.specs.Listed.{rules_of}
use Rattle.rpl_core.specs.Table.{names_of}
use Rattle.rpl_core.specs.View.{core_of}
use Rattle.rpl_expand.specs.Printed.{printed, in_brackets}
use Rattle.rosie_inspect.specs.Items.{left_of}
use Rattle.rosie_inspect.proofs.Tokens.{brackets_split, turns_by}
use Rattle.rosie_inspect.proofs.expanding.Expanding.make_body.Goals as goal

pub returns : goal.returns
returns c =
    let s = c.args.self.now in let rs = rules_of s.rules.now in let bs = s.marks.now in let names = names_of rs in
    let core = printed names (core_of c.args.body.now) in let head = c.args.head.now in
    turns_by (in_brackets head core) head (core ++ 41 ∷ []) _ _ _ _ c.in_ok-push_str.ensures.bytes
    (brackets_split head core)
    (c.in_ok-push_item-2.ensures rs bs ∙ ap (λ x. core ++ x) (c.in_ok-push_item.ensures rs bs)
    ∙ sym (append_assoc core (41 ∷ []) (left_of s))) c.requires
