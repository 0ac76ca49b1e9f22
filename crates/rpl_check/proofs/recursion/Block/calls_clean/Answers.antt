use Rattle.std.proofs.Common.{sym, ◌∙◌}
use Rattle.rpl_core.specs.Listed.{rules_of}
use Rattle.rpl_check.specs.inside.Search.{marked_from}
use Rattle.rpl_check.proofs.Clean.{rule_missed, rule_within, no_rule_calls}
use Rattle.rpl_check.specs.inside.Within.{empty_in}
use Rattle.rpl_check.proofs.recursion.Block.calls_clean.Goals as goal

pub returns-in-Some-clause-clean : goal.returns-in-Some-clause-clean
returns-in-Some-clause-clean c =
    λ e. rule_within (rules_of c.args.self.now.rules.now) (empty_in c.args.self.now)
    (marked_from c.args.self.now.start c.args.clean.now) c.args.number c.in-Some.rule.now c.clean_front.result
    c.in-Some.ensures c.clean_front.ensures (sym c.is_some.ensures ∙ e)

pub returns-in-Some-clause-other : goal.returns-in-Some-clause-other
returns-in-Some-clause-other c =
    λ e. rule_missed (rules_of c.args.self.now.rules.now) (empty_in c.args.self.now)
    (marked_from c.args.self.now.start c.args.clean.now) c.args.number c.in-Some.rule.now c.clean_front.result
    c.in-Some.ensures c.clean_front.ensures (sym c.is_some.ensures ∙ e)

pub returns-in-None-clause-clean : goal.returns-in-None-clause-clean
returns-in-None-clause-clean c =
    λ e r x. no_rule_calls (rules_of c.args.self.now.rules.now) (empty_in c.args.self.now) c.args.number r
    c.in-None.ensures x
