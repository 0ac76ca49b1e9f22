use Rattle.std.proofs.Common.{◌∙◌, ◌-◌, ◌≤◌, arith, length}
use Rattle.std.proofs.lemmas.List.{length-map}
use Rattle.std.proofs.lemmas.Result.{err_from_is_err_and}
use Rattle.rpl_core.specs.Listed.{rules_of}
use Rattle.rpl_core.specs.Table.{blocks_of, bodies_of}
use Rattle.rpl_core.specs.declared.rules.Rule.{Rule}
use Rattle.rpl_check.specs.Answers.{fault_named}
use Rattle.rpl_check.specs.Blocks.{group_fault, fault_from, table_fault}
use Rattle.rpl_core.specs.Marks.{marked}
use Rattle.rpl_check.proofs.Firsts.{group_first, groups_done, due_first, none_first}
use Rattle.rpl_facts.proofs.Grouping.{group_calls}
use Rattle.rpl_check.proofs.groups.check_table.Goals as goal

pub check_group-requires-clause-calls : goal.check_group-requires-clause-calls
check_group-requires-clause-calls c =
    let rules = rules_of c.args.rules.now in
    group_calls (bodies_of rules) (blocks_of rules) c.loop-start.start c.group_end-end.result c.requires
    c.group_end-end.ensures.group

pub loop-start-preserved : goal.loop-start-preserved
loop-start-preserved c =
    let rules = rules_of c.args.rules.now in
    let blocks = blocks_of rules in
    let a = c.loop-start.start in
    let b = c.group_end-end.result in
    let le : b ≤ length blocks = omega (arith, length-map rules (λ (r : Rule). r.block), c.group_end-end.ensures.within)
    in (
      c.group_end-end.ensures.within,
      group_calls (bodies_of rules) blocks a b c.requires c.group_end-end.ensures.group,
      λ reach all.
          let f = group_fault (marked c.args.empties.now) (marked c.args.halting.now) reach (bodies_of rules) in
          let e = c.loop-start.invariant.2 reach all
          ∙ group_first f blocks a b (length blocks) c.group_end-end.ensures.group le in
          none_first (table_fault (marked c.args.empties.now) (marked c.args.halting.now) reach (bodies_of rules)
          blocks) (f a b) (fault_from f blocks b b (length blocks - b)) e (c.in_ok-check_group.ensures reach all),
    )

pub returns-in_err-check_group : goal.returns-in_err-check_group
returns-in_err-check_group c = λ reach all.
    let rules = rules_of c.args.rules.now in
    let blocks = blocks_of rules in
    let a = c.loop-start.start in
    let b = c.group_end-end.result in
    let le : b ≤ length blocks = omega (arith, length-map rules (λ (r : Rule). r.block), c.group_end-end.ensures.within)
    in
    let f = group_fault (marked c.args.empties.now) (marked c.args.halting.now) reach (bodies_of rules) in
    let e = c.loop-start.invariant.2 reach all
    ∙ group_first f blocks a b (length blocks) c.group_end-end.ensures.group le in
    let p = err_from_is_err_and c.from_residual.result c.from_residual.ensures.1 in
    rw (p.1, p.2) (due_first (table_fault (marked c.args.empties.now) (marked c.args.halting.now) reach
    (bodies_of rules) blocks) (f a b) (fault_from f blocks b b (length blocks - b))
    (fault_named c.in_err-check_group.field-0.0) e (c.in_err-check_group.ensures reach all))

pub returns : goal.returns
returns c = λ reach all.
    let rules = rules_of c.args.rules.now in
    let blocks = blocks_of rules in
    c.loop-start.invariant.2 reach all
    ∙ groups_done (group_fault (marked c.args.empties.now) (marked c.args.halting.now) reach (bodies_of rules)) blocks
    c.loop-start.start c.loop-start.start (length blocks) (omega (arith, length-map rules (λ (r : Rule). r.block)))
