use Rattle.std.proofs.Common.{◌≡◌, drop}
use Rattle.rpl_check.specs.inside.Behinds.{any_has_long_behind}
use Rattle.rpl_core.specs.View.{cores}
use Rattle.rpl_check.proofs.behinds.+long.Given as goal

abbrev pub invariant-any_has_long_behind-loop-part : goal.invariant-any_has_long_behind-loop-part
invariant-any_has_long_behind-loop-part l =
    any_has_long_behind (cores l.parts) ≡ any_has_long_behind (cores (drop l.part-index l.parts))
