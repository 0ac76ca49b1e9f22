use Rattle.std.proofs.Common.{ap, sym, subst, refl, ◌∙◌}
use Rattle.rpl_syntax.specs.Modules as S
use Rattle.rpl_scope.specs.Faults.{StopIs}
use Rattle.rpl_scope.specs.Seen.{module_seen}
use Rattle.rpl_scope.specs.Statements.{block_rules, rule_of, enter}
use Rattle.rpl_scope.proofs.Stops.{passed_on}
use Rattle.rpl_scope.proofs.Turns.{turn_step, turn_stop, turn_done}
use Rattle.rpl_scope.proofs.statements.enter_half.Goals as goal

pub loop-binding-preserved : goal.loop-binding-preserved
loop-binding-preserved c =
    turn_step (λ bs. block_rules c.args.text.number c.args.half.start c.args.half.hidden (S.rules_of bs))
    (λ b. rule_of c.args.text.number c.args.half.start c.args.half.start c.args.half.hidden (S.rule_of b)) refl
    (λ _ _. refl)
    (enter c.args.text.file.now) c.args.bindings.now c.loop-binding.binding-index
    c.binding-item.result (module_seen c.loop-binding.own) (module_seen c.enter.new.own) _ c.loop-binding-test.true
    c.binding-item.is
    (ap (λ r. enter c.args.text.file.now r (module_seen c.loop-binding.own)) (sym c.in_ok-rule.ensures)
    ∙ c.in_ok-enter.ensures) c.loop-binding.invariant

pub returns : goal.returns
returns c =
    turn_done (λ bs. block_rules c.args.text.number c.args.half.start c.args.half.hidden (S.rules_of bs))
    (λ b. rule_of c.args.text.number c.args.half.start c.args.half.start c.args.half.hidden (S.rule_of b)) refl
    (λ _ _. refl)
    (enter c.args.text.file.now) c.args.bindings.now c.loop-binding.binding-index
    (module_seen c.loop-binding.own) _ c.loop-binding-test.false c.loop-binding.invariant

pub returns-in_err-enter : goal.returns-in_err-enter
returns-in_err-enter c =
    passed_on _ c.from_residual-in_err-enter.result c.in_err-enter.field-0.0 _ c.from_residual-in_err-enter.ensures.1
    (turn_stop (λ bs. block_rules c.args.text.number c.args.half.start c.args.half.hidden (S.rules_of bs))
    (λ b. rule_of c.args.text.number c.args.half.start c.args.half.start c.args.half.hidden (S.rule_of b)) refl
    (λ _ _. refl)
    (enter c.args.text.file.now) c.args.bindings.now c.loop-binding.binding-index
    c.binding-item.result (module_seen c.loop-binding.own) c.in_err-enter.field-0.0 _ c.loop-binding-test.true
    c.binding-item.is
    (subst (λ r. StopIs c.in_err-enter.field-0.0 (enter c.args.text.file.now r (module_seen c.loop-binding.own)))
    c.in_ok-rule.ensures c.in_err-enter.ensures) c.loop-binding.invariant)
