use Rattle.std.proofs.Common.{refl}
use Rattle.rpl_syntax.specs.Modules as S
use Rattle.rpl_scope.specs.Seen.{module_seen, modules_seen}
use Rattle.rpl_scope.specs.Statements.{statement}
use Rattle.rpl_scope.proofs.Stops.{passed_on}
use Rattle.rpl_scope.proofs.Turns.{turn_step, turn_stop, turn_done}
use Rattle.rpl_scope.proofs.statements.enter_items.Goals as goal

pub loop-item-preserved : goal.loop-item-preserved
loop-item-preserved c =
    turn_step S.entries_of S.entry_of refl (λ _ _. refl)
    (statement c.args.text.file.now c.args.text.number (modules_seen c.args.modules.now)) c.args.items.now
    c.loop-item.item-index
    c.item-item.result (module_seen c.loop-item.own) (module_seen c.enter_item.new.own) _ c.loop-item-test.true
    c.item-item.is c.in_ok-enter_item.ensures c.loop-item.invariant

pub returns : goal.returns
returns c =
    turn_done S.entries_of S.entry_of refl (λ _ _. refl)
    (statement c.args.text.file.now c.args.text.number (modules_seen c.args.modules.now)) c.args.items.now
    c.loop-item.item-index
    (module_seen c.loop-item.own) _ c.loop-item-test.false c.loop-item.invariant

pub returns-in_err-enter_item : goal.returns-in_err-enter_item
returns-in_err-enter_item c =
    passed_on _ c.from_residual.result c.in_err-enter_item.field-0.0 _ c.from_residual.ensures.1
    (turn_stop S.entries_of S.entry_of refl (λ _ _. refl)
    (statement c.args.text.file.now c.args.text.number (modules_seen c.args.modules.now)) c.args.items.now
    c.loop-item.item-index
    c.item-item.result (module_seen c.loop-item.own) c.in_err-enter_item.field-0.0 _ c.loop-item-test.true
    c.item-item.is c.in_err-enter_item.ensures c.loop-item.invariant)
