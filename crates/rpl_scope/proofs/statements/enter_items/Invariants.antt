use Rattle.std.proofs.Common.{◌≡◌, drop}
use Rattle.rpl_scope.specs.Seen.{module_seen, modules_seen}
use Rattle.rpl_scope.specs.Statements.{statements}
use Rattle.rpl_syntax.specs.Modules as S
use Rattle.rpl_scope.proofs.statements.enter_items.Given as goal

abbrev pub invariant-loop-item : goal.invariant-loop-item
invariant-loop-item l =
    statements l.text.file.now l.text.number (modules_seen l.modules) (S.entries_of (drop l.item-index l.items))
    (module_seen l.own)
    ≡ statements l.text.file.now l.text.number (modules_seen l.modules) (S.entries_of l.items) (module_seen l.fn.own)
