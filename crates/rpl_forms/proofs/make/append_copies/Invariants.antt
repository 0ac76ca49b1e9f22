use Rattle.std.proofs.Common.{◌≡◌}
use Rattle.rpl_core.specs.Core as C
use Rattle.rpl_core.specs.View.{core_of, cores, listed}
use Rattle.rpl_forms.specs.Forms as F
use Rattle.rpl_forms.proofs.make.append_copies.Given as goal

abbrev pub invariant-loop-turn : goal.invariant-loop-turn
invariant-loop-turn l =
    cores (listed l.parts) ≡ F.joined (cores (listed l.initial.parts)) (F.copies l._turn (core_of l.part) C.NoMore)
