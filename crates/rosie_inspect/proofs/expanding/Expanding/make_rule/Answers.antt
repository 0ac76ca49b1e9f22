use Rattle.std.proofs.Common.{◌+◌, ◌++◌, ◌∷◌, [], drop, arith, length-append}
use Rattle.std.specs.Prelude.{codes, encode_utf8_all}
use Rattle.rpl_core.specs.Listed.{rules_of}
use Rattle.rpl_core.specs.Marked.{marked}
use Rattle.rpl_core.specs.Table.{names_of}
use Rattle.rpl_core.specs.View.{core_of}
use Rattle.rpl_expand.specs.Printed.{printed}
use Rattle.rosie_inspect.specs.Items.{left_of, rule_text}
use Rattle.rpl_forms.specs.Rows.{rows_of}
use Rattle.rosie_inspect.specs.Expansions.{rule_lines}
use Rattle.rosie_inspect.proofs.Tokens.{rule_left, rule_split, turns_by}
use Rattle.rosie_inspect.proofs.expanding.Expanding.make_rule.Goals as goal

pub returns : goal.returns
returns c =
    let s = c.args.self.now in let rs = rules_of s.rules.now in let bs = s.marks.now in let names = names_of rs in
    let rule = c.args.rule.now in let next = c.args.next in
    let name = encode_utf8_all rule.name in let core = printed names (core_of rule.body) in
    let more = rule_lines names (marked bs) next (drop next (rows_of rs)) in
    turns_by (rule_text rs bs rule next) (name ++ codes " = ") (core ++ (10 ∷ [] ++ more)) _ _ _ _
    c.in_ok-push_name.ensures (rule_split name core more)
    (rule_left core more (left_of s) _ _ _ c.in_ok-push_rules.ensures (c.in_ok-push_item.ensures rs bs)
    (c.in_ok-push_item-2.ensures rs bs)) (omega (arith, length-append name (codes " = ")))
