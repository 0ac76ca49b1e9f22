use Rattle.std.proofs.Common.{refl, arith}
use Rattle.std.specs.Prelude.{codes}
use Rattle.rpl_expand.specs.Printed.{in_brackets}
use Rattle.rpl_print.specs.Sets.{set_text}
use Rattle.rosie_inspect.proofs.Tokens.{turns_all}
use Rattle.rosie_inspect.proofs.expanding.Expanding.make_class.Goals as goal

pub returns : goal.returns
returns c =
    turns_all (in_brackets (codes "(set ") (set_text c.args.set.now)) _ _ _ _ c.in_ok-push_class.ensures refl
    (omega arith)
