use Rattle.std.proofs.Common.{◌≡◌, drop}
use Rattle.rpl_scope.specs.Seen.{module_seen}
use Rattle.rpl_scope.specs.Statements.{block_rules, enter_all}
use Rattle.rpl_syntax.specs.Modules as S
use Rattle.rpl_scope.proofs.statements.enter_half.Given as goal

abbrev pub invariant-loop-binding : goal.invariant-loop-binding
invariant-loop-binding l =
    enter_all l.text.file.now
    (block_rules l.text.number l.half.start l.half.hidden (S.rules_of (drop l.binding-index l.bindings)))
    (module_seen l.own)
    ≡ enter_all l.text.file.now (block_rules l.text.number l.half.start l.half.hidden (S.rules_of l.bindings))
    (module_seen l.fn.own)
