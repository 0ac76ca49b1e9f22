use Rattle.std.proofs.Common.{rules}
use Rattle.std.proofs.lemmas.Result.{err_from_is_err_and}
use Rattle.rpl_core.specs.Listed.{rules_of}
use Rattle.rpl_core.specs.Table.{blocks_of, bodies_of}
use Rattle.rpl_core.specs.Marks.{marked}
use Rattle.rpl_check.proofs.Accepting.{accepted, calls_stay, facts_in_order, same_long}
use Rattle.rpl_facts.proofs.Exists.{facts_of}
use Rattle.rpl_check.proofs.checked.check.Goals as goal

pub invariant_of-result : goal.invariant_of-result
invariant_of-result c =
    let no = rw (c.deref.ensures.value, c.deref-2.ensures.value) at c.in_ok-check_table.ensures in
    let rs = rules_of c.args.rules in
    accepted (bodies_of rs) (blocks_of rs) (marked c.in_ok-empties.empties.items) (marked c.in_ok-halting.halting.items)
    (same_long rs) c.requires c.in_ok-empties.ensures c.in_ok-halting.ensures no

pub returns-clause-exactly : goal.returns-clause-exactly
returns-clause-exactly c =
    let no = rw (c.deref.ensures.value, c.deref-2.ensures.value) at c.in_ok-check_table.ensures in
    let rs = rules_of c.args.rules in
    let d = facts_in_order (bodies_of rs) (blocks_of rs) (marked c.in_ok-empties.empties.items)
    (marked c.in_ok-halting.halting.items) (same_long rs) c.requires c.in_ok-empties.ensures c.in_ok-halting.ensures
    in
    (d, no d.reach d.reach_least)

pub returns-in_err-check_table-clause-exactly : goal.returns-in_err-check_table-clause-exactly
returns-in_err-check_table-clause-exactly c =
    let due = rw (c.deref.ensures.value, c.deref-2.ensures.value) at c.in_err-check_table.ensures in
    let rs = rules_of c.args.rules in
    let d = facts_in_order (bodies_of rs) (blocks_of rs) (marked c.in_ok-empties.empties.items)
    (marked c.in_ok-halting.halting.items) (same_long rs) c.requires c.in_ok-empties.ensures c.in_ok-halting.ensures
    in
    let p = err_from_is_err_and c.from_residual-in_err-check_table.result c.from_residual-in_err-check_table.ensures.1
    in
    (d, rw (p.1, p.2) (due d.reach d.reach_least))

pub returns-in_err-empties-clause-exactly : goal.returns-in_err-empties-clause-exactly
returns-in_err-empties-clause-exactly c = (
  facts_of (bodies_of (rules_of c.args.rules))
      (calls_stay (bodies_of (rules_of c.args.rules)) (blocks_of (rules_of c.args.rules))
      (same_long (rules_of c.args.rules)) c.requires),
  search rules,
)

pub returns-in_err-halting-clause-exactly : goal.returns-in_err-halting-clause-exactly
returns-in_err-halting-clause-exactly c = (
  facts_of (bodies_of (rules_of c.args.rules))
      (calls_stay (bodies_of (rules_of c.args.rules)) (blocks_of (rules_of c.args.rules))
      (same_long (rules_of c.args.rules)) c.requires),
  search rules,
)
