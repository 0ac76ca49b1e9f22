use Rattle.std.proofs.Common.{◌<◌, ◌≤◌, ◌+◌, ◌++◌, ◌∙◌, ap, arith, drop, length, sym}
use Rattle.rpl_core.specs.Listed.{rules_of}
use Rattle.rpl_core.specs.Marked.{marked}
use Rattle.rpl_core.specs.Table.{names_of}
use Rattle.rpl_forms.specs.Rows.{row_at, rows_of}
use Rattle.rosie_inspect.specs.Expansions.{rule_line, rule_lines}
use Rattle.rosie_inspect.specs.Items.{stack_text}
use Rattle.rosie_inspect.proofs.Rows.{lines_here, rows_long}
use Rattle.rosie_inspect.proofs.Tokens.{rules_past}
use Rattle.rosie_inspect.proofs.expanding.push_rules.Goals as goal

pub loop-number-preserved : goal.loop-number-preserved
loop-number-preserved c =
    let rs = rules_of c.args.rules.now in let bs = c.args.marks.now in let names = names_of rs in
    let rows = rows_of rs in let n = c.loop-number.number in let count = c.len-number-end.ensures.count in
    let within : n < length rows = omega (arith, rows_long rs) in
    let more = rule_lines names (marked bs) (n + 1) (drop (n + 1) rows) in (
      c.loop-number.invariant.0 ∙ lines_here names (marked bs) n n rows within
          ∙ ap (λ x. x ++ more) c.in-None.ensures,
      c.loop-number.invariant.1,
    )

pub returns-in-Some : goal.returns-in-Some
returns-in-Some c =
    let rs = rules_of c.args.rules.now in let bs = c.args.marks.now in let names = names_of rs in
    let rows = rows_of rs in let n = c.loop-number.number in let count = c.len-number-end.ensures.count in
    let within : n < length rows = omega (arith, rows_long rs) in
    let more = rule_lines names (marked bs) (n + 1) (drop (n + 1) rows) in
    let line = rule_line names (row_at c.in-Some.rule.now) in
    c.in_ok-push_item-in-Some.ensures rs bs
    ∙ ap (λ items. (line ++ more) ++ stack_text rs bs items) c.loop-number.invariant.1
    ∙ ap (λ x. x ++ stack_text rs bs c.args.todo.now.items)
    (sym (c.loop-number.invariant.0 ∙ lines_here names (marked bs) n n rows within
    ∙ ap (λ x. x ++ more) c.in-Some.ensures))

pub returns : goal.returns
returns c =
    let rs = rules_of c.args.rules.now in let bs = c.args.marks.now in let names = names_of rs in
    let rows = rows_of rs in let n = c.loop-number.number in let count = c.len-number-end.ensures.count in
    let past : length rows ≤ n = omega (arith, rows_long rs) in
    ap (stack_text rs bs) c.loop-number.invariant.1
    ∙ ap (λ x. x ++ stack_text rs bs c.args.todo.now.items)
    (sym (c.loop-number.invariant.0 ∙ rules_past names (marked bs) n n rows past))
