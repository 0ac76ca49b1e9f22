use Rattle.std.proofs.Common.{◌≡◌, ◌+◌, ◌-◌, ◌*◌, true, drop, reverse, length, vec_len, ◌++◌}
use Rattle.rpl_encode.specs.inside.Walk.{rest_of}
use Rattle.rpl_encode.proofs.Walking.{pending, one_if}
use Rattle.rpl_encode.proofs.tree.put_below.Given as goal

-- what is written, with the rest after it, is the whole
abbrev pub invariant-loop-innermost : goal.invariant-loop-innermost
invariant-loop-innermost l =
    l.out ++ (rest_of l.source.fronts.now l.source.line.now (drop l.index l.forest) (pending l.innermost l.lists.items)
    l.is_first)
    ≡ l.fn.out ++ (rest_of l.source.fronts.now l.source.line.now (drop 1 l.forest) (reverse l.fn.lists.items) true)

abbrev pub decreases-loop-innermost : goal.decreases-loop-innermost
decreases-loop-innermost l = 2 * (length l.forest - l.index) + (vec_len l.lists + one_if l.innermost)
