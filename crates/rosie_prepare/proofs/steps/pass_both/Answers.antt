use Rattle.std.proofs.Common.{◌≡◌, sym, ◌∙◌, ap}
use Rattle.std.specs.Prelude.{None}
use Rattle.rosie_prepare.specs.Lines.{check_line, expand_line}
use Rattle.rosie_prepare.proofs.Passing.{blocks_rows_of, bodies_rows_of, due_through, found_due, goal_found}
use Rattle.rosie_prepare.proofs.Passing.{none_mapped}
use Rattle.rosie_prepare.proofs.Passing.{none_then, own_through, passes, ready_is, rules_found, tells_first}
use Rattle.rosie_prepare.proofs.Passing.{tells_second, told_own}
use Rattle.rosie_prepare.specs.Prepared.{blocks, bodies, goal_in, ready, table_too_large, table_unsound, too_large}
use Rattle.rosie_prepare.specs.Prepared.{unsound}
use Rattle.rosie_prepare.specs.Steps.{Tells}
use Rattle.rpl_check.specs.Faults.{goal_fault}
use Rattle.rpl_check.specs.Goal.{peg_of}
use Rattle.rpl_core.specs.Listed.{blocks_in, bodies_in, rules_of}
use Rattle.rpl_core.specs.Table.{bodies_of}
use Rattle.rpl_core.specs.View.{core_of}
use Rattle.rpl_expand.specs.Faults.{size_fault}
use Rattle.rpl_expand.specs.Sets.{table_of}
use Rattle.rpl_forms.specs.Rows.{rows_of}
use Rattle.rpl_names.specs.Sets.{set_seen}
use Rattle.rpl_syntax.specs.View.{expr_of}
use Rattle.rosie_prepare.proofs.steps.pass_both.Goals as goal

pub returns-in_err-rules-2-clause-prepares : goal.returns-in_err-rules-2-clause-prepares
returns-in_err-rules-2-clause-prepares c =
    let p = set_seen c.args.packages.now in
    let e = expr_of c.args.expr.now in
    let rules = c.in_ok-rules.rules in
    let table = c.in_ok-rules.ensures.table in
    let u = c.in_err-rules-2.field-0.0 in
    λ r due. due_through _ c.from_residual-in_err-rules-2.result u r c.from_residual-in_err-rules-2.ensures.1
    (found_due p (unsound p e) (ready p e) r (too_large p e) u
    (none_then _ _ (none_mapped (expand_line p) (table_too_large p) c.in_ok-rules.ensures.exactly)
    (none_mapped (expand_line p) (size_fault None (goal_in p e)) c.in_ok-goal.ensures.exactly))
    (λ d. tells_first (check_line p) (table_unsound p d) (goal_fault d.empties d.halting (goal_in p e)) u
    (rules_found (bodies_in rules) (bodies (table_of p)) (blocks_in rules) (blocks (table_of p))
    (sym (bodies_rows_of (rules_of rules)) ∙ ap bodies table) (check_line p) (λ line. Tells line u)
    (sym (blocks_rows_of (rules_of rules)) ∙ ap blocks table) c.in_err-rules-2.ensures.exactly d)) due)

pub returns-in_err-rules-2-clause-own : goal.returns-in_err-rules-2-clause-own
returns-in_err-rules-2-clause-own c =
    own_through c.from_residual-in_err-rules-2.result c.in_err-rules-2.field-0.0
    c.from_residual-in_err-rules-2.ensures.1 (told_own _ _ c.in_err-rules-2.ensures.exactly.1)

pub returns-in_err-goal-2-clause-prepares : goal.returns-in_err-goal-2-clause-prepares
returns-in_err-goal-2-clause-prepares c =
    let p = set_seen c.args.packages.now in
    let e = expr_of c.args.expr.now in
    let rules = c.in_ok-rules.rules in
    let table = c.in_ok-rules.ensures.table in
    let u = c.in_err-goal-2.field-0.0 in
    let same = sym (bodies_rows_of (rules_of rules)) ∙ ap bodies table in
    λ r due. due_through _ c.from_residual-in_err-goal-2.result u r c.from_residual-in_err-goal-2.ensures.1
    (found_due p (unsound p e) (ready p e) r (too_large p e) u
    (none_then _ _ (none_mapped (expand_line p) (table_too_large p) c.in_ok-rules.ensures.exactly)
    (none_mapped (expand_line p) (size_fault None (goal_in p e)) c.in_ok-goal.ensures.exactly))
    (λ d. tells_second (check_line p) (table_unsound p d) (goal_fault d.empties d.halting (goal_in p e)) u
    (none_mapped (check_line p) (table_unsound p d)
    (rules_found (bodies_in rules) (bodies (table_of p)) (blocks_in rules) (blocks (table_of p)) same (check_line p)
    (λ line. line ≡ None) (sym (blocks_rows_of (rules_of rules)) ∙ ap blocks table) c.in_ok-rules-2.ensures.exactly d))
    (goal_found (bodies_of c.in_ok-rules-2.rules) (bodies (table_of p)) (blocks_in rules) (blocks (table_of p))
    (ap bodies_of c.in_ok-rules-2.ensures.same ∙ same) (check_line p) (λ line. Tells line u)
    (core_of c.in_ok-goal.goal) (goal_in p e) c.in_ok-goal.ensures.goal c.in_err-goal-2.ensures.exactly d)) due)

pub returns-in_err-goal-2-clause-own : goal.returns-in_err-goal-2-clause-own
returns-in_err-goal-2-clause-own c =
    own_through c.from_residual-in_err-goal-2.result c.in_err-goal-2.field-0.0 c.from_residual-in_err-goal-2.ensures.1
    (told_own _ _ c.in_err-goal-2.ensures.exactly.1)

pub returns-clause-prepares : goal.returns-clause-prepares
returns-clause-prepares c =
    let p = set_seen c.args.packages.now in
    let e = expr_of c.args.expr.now in
    let rules = c.in_ok-rules.rules in
    let table = c.in_ok-rules.ensures.table in
    let same = sym (bodies_rows_of (rules_of rules)) ∙ ap bodies table in
    λ r due. ready_is p e (rows_of c.in_ok-rules-2.rules) (core_of (peg_of c.in_ok-goal-2.goal)) r
    (ap rows_of c.in_ok-rules-2.ensures.same ∙ table)
    (ap core_of c.in_ok-goal-2.ensures.same ∙ c.in_ok-goal.ensures.goal)
    (passes p (unsound p e) (ready p e) r (too_large p e)
    (none_then _ _ (none_mapped (expand_line p) (table_too_large p) c.in_ok-rules.ensures.exactly)
    (none_mapped (expand_line p) (size_fault None (goal_in p e)) c.in_ok-goal.ensures.exactly))
    (λ d. none_then (table_unsound p d) (goal_fault d.empties d.halting (goal_in p e))
    (none_mapped (check_line p) (table_unsound p d)
    (rules_found (bodies_in rules) (bodies (table_of p)) (blocks_in rules) (blocks (table_of p)) same (check_line p)
    (λ line. line ≡ None) (sym (blocks_rows_of (rules_of rules)) ∙ ap blocks table) c.in_ok-rules-2.ensures.exactly d))
    (none_mapped (check_line p) (goal_fault d.empties d.halting (goal_in p e))
    (goal_found (bodies_of c.in_ok-rules-2.rules) (bodies (table_of p)) (blocks_in rules) (blocks (table_of p))
    (ap bodies_of c.in_ok-rules-2.ensures.same ∙ same) (check_line p) (λ line. line ≡ None)
    (core_of c.in_ok-goal.goal) (goal_in p e) c.in_ok-goal.ensures.goal c.in_ok-goal-2.ensures.exactly d))) due)
