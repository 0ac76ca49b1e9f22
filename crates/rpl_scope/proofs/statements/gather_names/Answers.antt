use Rattle.std.proofs.Common.{map, refl}
use Rattle.rpl_syntax.specs.View.{expr_of}
use Rattle.rpl_scope.specs.Bodies.{names}
use Rattle.rpl_scope.specs.Statements.{names_of}
use Rattle.rpl_scope.proofs.Turns.{gather_step, gather_done}
use Rattle.rpl_syntax.specs.Modules as S
use Rattle.rpl_scope.proofs.statements.gather_names.Goals as goal

pub loop-binding-preserved : goal.loop-binding-preserved
loop-binding-preserved c =
    gather_step (λ bs. names_of (S.rules_of bs)) (λ b. names (expr_of b.body)) refl (λ _ _. refl) c.args.bindings.now
    c.loop-binding.binding-index
    c.binding-item.result (map (λ q. q.now) c.loop-binding.all.items) (map (λ q. q.now) c.push_names.new.all.items) _
    c.loop-binding-test.true c.binding-item.is c.in_ok-push_names.ensures c.loop-binding.invariant

pub returns : goal.returns
returns c =
    gather_done (λ bs. names_of (S.rules_of bs)) (λ b. names (expr_of b.body)) refl (λ _ _. refl) c.args.bindings.now
    c.loop-binding.binding-index
    (map (λ q. q.now) c.loop-binding.all.items) _ c.loop-binding-test.false c.loop-binding.invariant
