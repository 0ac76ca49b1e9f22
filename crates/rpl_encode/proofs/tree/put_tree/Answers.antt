use Rattle.rpl_encode.specs.Answer.{max_answer_bytes}
use Rattle.std.proofs.Common.{rules, [], ◌∷◌, sym, ap, ◌∙◌, ◌++◌, append_assoc}
use Rattle.std.specs.Prelude.{reverse}
use Rattle.rpl_encode.proofs.Walking.{opened, tree_whole, written_three, longer}
use Rattle.rpl_encode.proofs.tree.put_tree.Goals as goal

pub returns-clause-text : goal.returns-clause-text
returns-clause-text c =
    let whole = tree_whole c.args.source.fronts.now c.args.source.line.now c.args.forest.now c.in-Some.root
    c.has_subs-has_subs.result (reverse c.open_root.new.lists.items) (sym c.in-Some.ensures)
    (rw c.len.ensures at c.has_subs-has_subs.ensures) (opened _ _ _ c.in_ok-open_root.ensures) in
    written_three ◌++◌ append_assoc c.args.out.now c.put_node.new.out c.put_below.new.out c.put.new.self _ _ (10 ∷ [])
    c.in_ok-put_node.ensures c.in_ok-put_below.ensures.text c.in_ok-put.ensures ∙ ap (◌++◌ c.args.out.now) (sym whole)

pub returns-in_err-put_below-clause-too_long : goal.returns-in_err-put_below-clause-too_long
returns-in_err-put_below-clause-too_long c =
    let whole = tree_whole c.args.source.fronts.now c.args.source.line.now c.args.forest.now c.in-Some.root
    c.has_subs-has_subs.result (reverse c.open_root.new.lists.items) (sym c.in-Some.ensures)
    (rw c.len.ensures at c.has_subs-has_subs.ensures) (opened _ _ _ c.in_ok-open_root.ensures) in
    let more = longer max_answer_bytes c.args.out.now c.put_node.new.out _ _ _ c.in_ok-put_node.ensures whole in
    search rules
