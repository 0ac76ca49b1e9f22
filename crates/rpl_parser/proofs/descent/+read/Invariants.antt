use Rattle.std.proofs.Common.{◌≡◌, suc, ◌+◌, ◌*◌, ◌-◌, length}
use Rattle.rpl_syntax.specs.View.{shown}
use Rattle.rpl_syntax.specs.Reading.{items_of, parts_of, read_item, read_exp, seq_of}
use Rattle.rpl_parser.proofs.Loops.{with_front}
use Rattle.rpl_parser.proofs.descent.+read.Given as goal

abbrev pub decreases-item : goal.decreases-item
decreases-item l = 8 * l.depth

abbrev pub decreases-item_from : goal.decreases-item_from
decreases-item_from l = 8 * l.depth + 5

abbrev pub decreases-item_signed : goal.decreases-item_signed
decreases-item_signed l = 8 * l.depth + 4

abbrev pub decreases-predicate : goal.decreases-predicate
decreases-predicate l = 8 * l.depth + 3

abbrev pub decreases-group : goal.decreases-group
decreases-group l = 8 * l.depth + 3

abbrev pub decreases-content : goal.decreases-content
decreases-content l = 8 * l.depth

abbrev pub decreases-sequence : goal.decreases-sequence
decreases-sequence l = 8 * l.depth + 1

abbrev pub decreases-choice : goal.decreases-choice
decreases-choice l = 8 * l.depth + 2

abbrev pub invariant-sequence-loop : goal.invariant-sequence-loop
invariant-sequence-loop l =
    with_front l.items.items.items (items_of (l.end - l.counter) (read_item l.depth) l.rest)
    ≡ seq_of (read_item l.depth) l.tokens

abbrev pub invariant-choice-loop : goal.invariant-choice-loop
invariant-choice-loop l =
    with_front l.parts.items.items (parts_of (l.end - l.counter) l.raw (seq_of (read_item l.depth))
    (read_exp l.depth l.raw) (shown l.items) l.rest)
    ≡ parts_of (suc (length l.tokens)) l.raw (seq_of (read_item l.depth)) (read_exp l.depth l.raw) (shown l.fn.first)
    l.tokens
