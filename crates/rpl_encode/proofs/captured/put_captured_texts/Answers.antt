use Rattle.std.proofs.Common.{[], ◌∷◌, ◌++◌, refl, sym, ap, ◌∙◌}
use Rattle.rpl_tree.specs.Trees.{label_in}
use Rattle.rpl_encode.proofs.FirstTrees.{left_written, left_passed, left_none}
use Rattle.rpl_encode.proofs.captured.put_captured_texts.Goals as goal

pub loop-node-preserved-in_ok-put_line : goal.loop-node-preserved-in_ok-put_line
loop-node-preserved-in_ok-put_line c = λ f b.
    let labels = c.args.fronts.now in
    left_written labels c.args.line.now c.args.only_hits c.loop-node.rest.now c.in-Some.after.now c.in-Some.node
    c.loop-node.out c.put_line.new.out _ c.loop-node.some _ (c.in-Some.ensures.some (label_in labels))
    (sym c.wants.ensures ∙ c.if-wants.true)
    (c.in_ok-put_line.ensures ∙ ap (λ x. c.loop-node.out ++ (x ++ 10 ∷ [])) c.text_of.ensures)
    (c.loop-node.invariant f b)

pub loop-node-preserved : goal.loop-node-preserved
loop-node-preserved c = λ f b.
    let labels = c.args.fronts.now in
    left_passed labels c.args.line.now c.args.only_hits c.loop-node.rest.now c.in-Some.after.now c.in-Some.node
    c.loop-node.out c.loop-node.out _ c.loop-node.some c.loop-node.some _ (c.in-Some.ensures.some (label_in labels))
    (sym c.wants.ensures ∙ c.if-wants.false) refl refl (c.loop-node.invariant f b)

pub returns-clause-text : goal.returns-clause-text
returns-clause-text c = λ f b.
    let labels = c.args.fronts.now in
    (left_none labels c.args.line.now c.args.only_hits c.loop-node.rest.now c.loop-node.out _ c.loop-node.some _
    (c.in_default.ensures.none (label_in labels)) (c.loop-node.invariant f b)).0

pub returns-clause-found : goal.returns-clause-found
returns-clause-found c = λ f b.
    let labels = c.args.fronts.now in
    (left_none labels c.args.line.now c.args.only_hits c.loop-node.rest.now c.loop-node.out _ c.loop-node.some _
    (c.in_default.ensures.none (label_in labels)) (c.loop-node.invariant f b)).1
