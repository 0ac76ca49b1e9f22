use Rattle.std.proofs.Common.{◌≡◌}
use Rattle.rpl_core.specs.View.{cores, listed}
use Rattle.rpl_forms.specs.Forms.{sets}
use Rattle.rpl_forms.proofs.make.characters.Given as goal

abbrev pub invariant-loop-c : goal.invariant-loop-c
invariant-loop-c l = cores (listed l.parts) ≡ sets l.casing l.yielded
