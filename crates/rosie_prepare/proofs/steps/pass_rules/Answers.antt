use Rattle.std.proofs.Common.{◌≡◌, sym, ◌∙◌, ap}
use Rattle.std.specs.Prelude.{None}
use Rattle.rosie_prepare.specs.Lines.{check_line, expand_line}
use Rattle.rosie_prepare.proofs.Passing.{blocks_rows_of, bodies_rows_of, due_through, found_due, none_mapped, passes}
use Rattle.rosie_prepare.proofs.Passing.{rules_found}
use Rattle.rosie_prepare.specs.Prepared.{blocks, bodies, table_too_large, table_unsound}
use Rattle.rosie_prepare.specs.Steps.{Tells}
use Rattle.rpl_core.specs.Listed.{blocks_in, bodies_in, rules_of}
use Rattle.rpl_expand.specs.Sets.{table_of}
use Rattle.rpl_names.specs.Sets.{set_seen}
use Rattle.rosie_prepare.proofs.steps.pass_rules.Goals as goal

pub returns-in_err-rules-2-clause-prepares : goal.returns-in_err-rules-2-clause-prepares
returns-in_err-rules-2-clause-prepares c =
    let p = set_seen c.args.packages in
    let rules = c.in_ok-rules.rules in
    let table = c.in_ok-rules.ensures.table in
    let u = c.in_err-rules-2.field-0.0 in
    λ r due. due_through _ c.from_residual-in_err-rules-2.result u r c.from_residual-in_err-rules-2.ensures.1
    (found_due p (table_unsound p) p r (table_too_large p) u
    (none_mapped (expand_line p) (table_too_large p) c.in_ok-rules.ensures.exactly)
    (rules_found (bodies_in rules) (bodies (table_of p)) (blocks_in rules) (blocks (table_of p))
    (sym (bodies_rows_of (rules_of rules)) ∙ ap bodies table) (check_line p) (λ line. Tells line u)
    (sym (blocks_rows_of (rules_of rules)) ∙ ap blocks table) c.in_err-rules-2.ensures.exactly) due)

pub returns-clause-prepares : goal.returns-clause-prepares
returns-clause-prepares c =
    let p = set_seen c.args.packages in
    let rules = c.in_ok-rules.rules in
    let table = c.in_ok-rules.ensures.table in
    λ r due. passes p (table_unsound p) p r (table_too_large p)
    (none_mapped (expand_line p) (table_too_large p) c.in_ok-rules.ensures.exactly)
    (λ d. none_mapped (check_line p) (table_unsound p d)
    (rules_found (bodies_in rules) (bodies (table_of p)) (blocks_in rules) (blocks (table_of p))
    (sym (bodies_rows_of (rules_of rules)) ∙ ap bodies table) (check_line p) (λ line. line ≡ None)
    (sym (blocks_rows_of (rules_of rules)) ∙ ap blocks table) c.in_ok-rules-2.ensures.exactly d)) due
