use Rattle.std.proofs.Common.{◌+◌, ◌++◌, ◌∷◌, []}
use Rattle.rpl_core.specs.Listed.{rules_of}
use Rattle.rpl_core.specs.Table.{names_of}
use Rattle.rpl_core.specs.View.{cores}
use Rattle.rpl_expand.specs.Printed.{printed_all, in_brackets}
use Rattle.rosie_inspect.proofs.Tokens.{brackets_split, turns_by}
use Rattle.rosie_inspect.proofs.expanding.Expanding.make_group.Goals as goal

pub returns : goal.returns
returns c =
    let s = c.args.self.now in let rs = rules_of s.rules.now in let bs = s.marks.now in let names = names_of rs in
    let parts = printed_all names (cores c.args.parts.now) in let head = c.args.head.now in
    turns_by (in_brackets head parts) head (parts ++ 41 ∷ []) _ _ _ _ c.in_ok-push_str.ensures.bytes
    (brackets_split head parts) (c.in_ok-push_item.ensures rs bs) c.requires
