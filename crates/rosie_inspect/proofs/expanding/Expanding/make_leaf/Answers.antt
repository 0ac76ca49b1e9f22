use Rattle.std.proofs.Common.{refl}
use Rattle.rpl_core.specs.Listed.{rules_of}
use Rattle.rpl_core.specs.Table.{names_of}
use Rattle.rpl_core.specs.View.{core_of}
use Rattle.rpl_expand.specs.Printed.{printed}
use Rattle.rosie_inspect.proofs.Tokens.{printed_some, turns_all}
use Rattle.rosie_inspect.proofs.expanding.Expanding.make_leaf.Goals as goal

pub returns : goal.returns
returns c =
    let names = names_of (rules_of c.args.self.now.rules.now) in let core = core_of c.args.peg.now in
    turns_all (printed names core) _ _ _ _ c.in_ok-push_peg.ensures refl (printed_some names core)
