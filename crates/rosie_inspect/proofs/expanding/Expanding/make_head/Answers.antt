use Rattle.std.proofs.Common.{refl, arith}
use Rattle.rosie_inspect.specs.Items.{head_text}
use Rattle.rosie_inspect.proofs.Tokens.{turns_all}
use Rattle.rosie_inspect.proofs.expanding.Expanding.make_head.Goals as goal

pub returns : goal.returns
returns c = turns_all (head_text c.args.expr.now) _ _ _ _ c.in_ok-push_head.ensures refl (omega arith)
