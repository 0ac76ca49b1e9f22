use Rattle.std.proofs.Common.{map, refl}
use Rattle.rpl_syntax.specs.View.{expr_of}
use Rattle.rpl_scope.specs.Bodies.{uses}
use Rattle.rpl_scope.specs.Statements.{uses_of}
use Rattle.rpl_scope.specs.Seen.{use_seen}
use Rattle.rpl_scope.proofs.Turns.{gather_step, gather_done}
use Rattle.rpl_syntax.specs.Modules as S
use Rattle.rpl_scope.proofs.statements.gather_uses.Goals as goal

pub loop-binding-preserved : goal.loop-binding-preserved
loop-binding-preserved c =
    gather_step (λ bs. uses_of (S.rules_of bs)) (λ b. uses (expr_of b.body)) refl (λ _ _. refl) c.args.bindings.now
    c.loop-binding.binding-index
    c.binding-item.result (map use_seen c.loop-binding.all.items) (map use_seen c.push_uses.new.all.items) _
    c.loop-binding-test.true c.binding-item.is c.in_ok-push_uses.ensures c.loop-binding.invariant

pub returns : goal.returns
returns c =
    gather_done (λ bs. uses_of (S.rules_of bs)) (λ b. uses (expr_of b.body)) refl (λ _ _. refl) c.args.bindings.now
    c.loop-binding.binding-index
    (map use_seen c.loop-binding.all.items) _ c.loop-binding-test.false c.loop-binding.invariant
