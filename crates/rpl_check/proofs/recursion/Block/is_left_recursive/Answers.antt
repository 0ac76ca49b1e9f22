use Rattle.std.proofs.Common.{sym}
use Rattle.rpl_check.proofs.recursion.Block.is_left_recursive.Goals as goal

pub returns-then-clean-place : goal.returns-then-clean-place
returns-then-clean-place c =
    λ reach all. sym (c.requires.clean reach all c.args.number c.requires.within.0 c.if-clean-place.true)

pub returns-then-left-place : goal.returns-then-left-place
returns-then-left-place c =
    λ reach all. sym (c.requires.left reach all c.args.number c.requires.within.0 c.if-left-place.true)
