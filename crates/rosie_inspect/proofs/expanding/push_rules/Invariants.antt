use Rattle.std.proofs.Common.{◌≡◌, drop}
use Rattle.rpl_core.specs.Listed.{rules_of}
use Rattle.rpl_core.specs.Marked.{marked}
use Rattle.rpl_core.specs.Table.{names_of}
use Rattle.rpl_forms.specs.Rows.{rows_of}
use Rattle.rosie_inspect.specs.Expansions.{rule_lines}
use Rattle.rosie_inspect.proofs.expanding.push_rules.Given as goal

-- the rules that were passed are not marked
abbrev pub invariant-loop-number : goal.invariant-loop-number
invariant-loop-number l =
    (rule_lines (names_of (rules_of l.rules)) (marked l.marks) l.fn.from (drop l.fn.from (rows_of (rules_of l.rules)))
    ≡ rule_lines (names_of (rules_of l.rules)) (marked l.marks) l.number (drop l.number (rows_of (rules_of l.rules))))
    × (l.todo.items ≡ l.fn.todo.items)
