use Rattle.std.proofs.Common.{◌≡◌, ◌++◌, take}
use Rattle.std.specs.Prelude.{string_bytes}
use Rattle.rpl_core.specs.Listed.{rules_of}
use Rattle.rpl_core.specs.Table.{names_of}
use Rattle.rpl_core.specs.View.{cores}
use Rattle.rpl_expand.specs.Printed.{printed_all}
use Rattle.rpl_expand.proofs.print.+print.Given as goal

abbrev pub invariant-push_parts-loop-part : goal.invariant-push_parts-loop-part
invariant-push_parts-loop-part l =
    string_bytes l.out ≡ string_bytes l.initial.out
    ++ printed_all (names_of (rules_of l.rules)) (cores (take l.part-index l.parts))
