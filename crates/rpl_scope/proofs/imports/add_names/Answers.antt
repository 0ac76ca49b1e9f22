use Rattle.std.proofs.Common.{ap, sym, subst, ◌∙◌, ◌+◌}
use Rattle.rpl_scope.specs.Faults.{StopIs}
use Rattle.rpl_scope.specs.Imports.{add_name}
use Rattle.rpl_scope.specs.Seen.{module_seen, rule_seen}
use Rattle.rpl_scope.proofs.Stops.{passed_on}
use Rattle.rpl_scope.proofs.Turns.{numbered_step, numbered_stop, numbered_done}
use Rattle.rpl_scope.proofs.imports.add_names.Goals as goal

pub loop-rule-preserved : goal.loop-rule-preserved
loop-rule-preserved c =
    record {
      number = ap (λ n. n + 1) c.loop-rule.invariant.number;
      left = numbered_step (add_name c.args.place.file.now c.args.place.at c.args.owner) c.args.rules.now
          c.loop-rule.rule-index c.rule-item.result (module_seen c.loop-rule.own) (module_seen c.add_name.new.own) _
          c.loop-rule-test.true c.rule-item.is
          (ap (λ n. add_name c.args.place.file.now c.args.place.at c.args.owner (n, rule_seen c.rule-item.result)
          (module_seen c.loop-rule.own)) (sym c.loop-rule.invariant.number) ∙ c.in_ok-add_name.ensures)
          c.loop-rule.invariant.left;
    }

pub returns : goal.returns
returns c = numbered_done (add_name c.args.place.file.now c.args.place.at c.args.owner) c.args.rules.now
    c.loop-rule.rule-index (module_seen c.loop-rule.own) _ c.loop-rule-test.false c.loop-rule.invariant.left

pub returns-in_err-add_name : goal.returns-in_err-add_name
returns-in_err-add_name c =
    passed_on _ c.from_residual.result c.in_err-add_name.field-0.0 _ c.from_residual.ensures.1
    (numbered_stop (add_name c.args.place.file.now c.args.place.at c.args.owner) c.args.rules.now c.loop-rule.rule-index
    c.rule-item.result (module_seen c.loop-rule.own) c.in_err-add_name.field-0.0 _
    c.loop-rule-test.true c.rule-item.is
    (subst (λ n. StopIs c.in_err-add_name.field-0.0 (add_name c.args.place.file.now c.args.place.at c.args.owner (
      n,
      rule_seen c.rule-item.result,
    ) (module_seen c.loop-rule.own))) c.loop-rule.invariant.number
    c.in_err-add_name.ensures)
    c.loop-rule.invariant.left)
