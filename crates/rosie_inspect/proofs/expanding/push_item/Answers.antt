use Rattle.std.proofs.Common.{◌∙◌, ap}
use Rattle.rosie_inspect.specs.Items.{stack_text}
use Rattle.rosie_inspect.proofs.Tokens.{stack_push}
use Rattle.rosie_inspect.proofs.expanding.push_item.Goals as goal

pub returns : goal.returns
returns c = λ rs bs.
    ap (stack_text rs bs) c.in_ok-push.ensures.items ∙ stack_push rs bs c.args.todo.now.items c.args.item
