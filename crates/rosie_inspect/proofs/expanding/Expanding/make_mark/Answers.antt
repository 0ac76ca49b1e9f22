use Rattle.std.proofs.Common.{refl}
use Rattle.rosie_inspect.proofs.Tokens.{turns_all}
use Rattle.rosie_inspect.proofs.expanding.Expanding.make_mark.Goals as goal

pub returns : goal.returns
returns c = turns_all c.args.mark.now _ _ _ _ c.in_ok-push_str.ensures.bytes refl c.requires
