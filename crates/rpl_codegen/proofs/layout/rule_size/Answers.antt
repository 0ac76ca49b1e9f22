use Rattle.std.proofs.Common.{◌∙◌, ◌++◌, ap, arith, sym}
use Rattle.std.specs.Prelude.{true}
use Rattle.rpl_core.specs.Listed.{rules_of}
use Rattle.rpl_codegen.specs.inside.Laid.{body_len, rule_nodes}
use Rattle.rpl_core.proofs.Search.{body_is, none_there}
use Rattle.rpl_codegen.proofs.Taking.{append_nil}
use Rattle.rpl_codegen.proofs.layout.rule_size.Goals as goal

pub returns-in-None-clause-nodes : goal.returns-in-None-clause-nodes
returns-in-None-clause-nodes c =
    let nodes = c.args.measured.now.nodes.items in
    let none = none_there (rules_of c.args.rules.now) c.args.number c.in-None.ensures in
    sym (ap (λ o. nodes ++ rule_nodes true o) none ∙ append_nil nodes)

pub returns-in_ok-shape-in-Some-clause-size : goal.returns-in_ok-shape-in-Some-clause-size
returns-in_ok-shape-in-Some-clause-size c =
    let is = body_is (rules_of c.args.rules.now) c.args.number c.in-Some.rule.now c.in-Some.ensures in
    omega (arith, ap body_len is, c.in_ok-shape-in-Some.ensures.size, c.capped.ensures)

pub returns-in_ok-shape-in-Some-clause-nodes : goal.returns-in_ok-shape-in-Some-clause-nodes
returns-in_ok-shape-in-Some-clause-nodes c =
    let is = body_is (rules_of c.args.rules.now) c.args.number c.in-Some.rule.now c.in-Some.ensures in
    c.in_ok-shape-in-Some.ensures.nodes
    ∙ ap (λ o. c.args.measured.now.nodes.items ++ rule_nodes true o) (sym is)
