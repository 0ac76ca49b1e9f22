use Rattle.std.proofs.Common.{◌≡◌, ◌++◌, drop}
use Rattle.rpl_syntax.specs.View.{exprs_all}
use Rattle.rpl_syntax.specs.Printed.{items_printed, parts_printed}
use Rattle.rpl_syntax.proofs.printer.Printer.+print.Given as goal

-- what is written, and what is left, are all
abbrev pub invariant-items-loop-index : goal.invariant-items-loop-index
invariant-items-loop-index l = l.self ++ items_printed (exprs_all (drop l.index l.item-items)) ≡ l.fn.self
    ++ items_printed (exprs_all l.item-items)

abbrev pub invariant-parts-loop-index : goal.invariant-parts-loop-index
invariant-parts-loop-index l = l.self ++ parts_printed (exprs_all (drop l.index l.part-items)) ≡ l.fn.self
    ++ parts_printed (exprs_all l.part-items)
