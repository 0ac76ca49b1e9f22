use Rattle.std.proofs.Common.{◌++◌, ap, ◌∙◌}
use Rattle.rpl_core.specs.Listed.{rules_of}
use Rattle.rpl_core.specs.Marked.{marked}
use Rattle.rpl_core.specs.Table.{names_of}
use Rattle.rpl_core.specs.View.{core_of}
use Rattle.rpl_expand.specs.Printed.{printed}
use Rattle.rpl_forms.specs.Rows.{rows_of}
use Rattle.rosie_inspect.specs.Expansions.{rule_lines}
use Rattle.rosie_inspect.specs.Items.{head_text, stack_text}
use Rattle.rosie_inspect.specs.Listing.{code_text}
use Rattle.rosie_inspect.proofs.Tokens.{all_left}
use Rattle.rosie_inspect.proofs.expansion.Expansion.text.Goals as goal

pub returns : goal.returns
returns c =
    let s = c.args.self.now in let rs = rules_of c.rules-rules.result.now in let bs = c.as_slice-marks.result.now in
    let all = all_left (head_text s.expr) (printed (names_of rs) (core_of c.peg.result.now))
    (rule_lines (names_of rs) (marked bs) 0 (rows_of rs)) (code_text s.program) _ _ _ _ _
    (c.in_ok-push_program_if.ensures rs bs
    ∙ ap (λ items. code_text s.program ++ stack_text rs bs items) c.new-todo.ensures.items)
    c.in_ok-push_rules.ensures (c.in_ok-push_item.ensures rs bs) (c.in_ok-push_item-2.ensures rs bs)
    (c.in_ok-push_item-3.ensures rs bs) in
    rw (c.rules-rules.ensures, c.as_slice-marks.ensures.value, c.peg.ensures) at (c.new-2.ensures ∙ all)
