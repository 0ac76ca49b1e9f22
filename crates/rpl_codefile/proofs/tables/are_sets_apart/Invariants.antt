use Rattle.std.proofs.Common.{take}
use Rattle.rpl_codefile.proofs.Knowing.{Knows, ranges_cmp}
use Rattle.rpl_codefile.proofs.tables.are_sets_apart.Given as goal

abbrev pub invariant-loop-set : goal.invariant-loop-set
invariant-loop-set l = Knows ranges_cmp (λ v. v.items) l.known (take l.set-index l.sets)
