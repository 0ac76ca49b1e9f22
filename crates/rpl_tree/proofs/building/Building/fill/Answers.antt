use Rattle.std.proofs.Common.{ap, sym, ◌∙◌}
use Rattle.std.specs.Prelude.{fold, reverse}
use Rattle.std.proofs.Math.ListN.{drop_of_length-le}
use Rattle.rpl_tree.specs.inside.Building.{taken_in}
use Rattle.rpl_tree.specs.inside.Built.{built}
use Rattle.rpl_tree.proofs.Fronts.{built_is}
use Rattle.rpl_tree.proofs.building.Building.fill.Goals as goal

-- after the last capture nothing is left to take in
pub returns : goal.returns
returns c = λ name f e.
    built_is name f c.args.caught.now c.loop-c.self.nodes.items (reverse c.loop-c.self.open.items) e
    (ap (fold taken_in (built c.loop-c.self)) (sym (drop_of_length-le c.args.caught.now c.loop-c-test.false))
    ∙ c.loop-c.invariant)
