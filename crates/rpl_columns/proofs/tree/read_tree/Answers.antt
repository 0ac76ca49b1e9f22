use Rattle.std.proofs.Common.{◌≡◌, ◌+◌, ◌-◌, ◌∷◌, ◌++◌, ◌<◌, ◌≤◌, [], suc, nat_eq, length, drop, map, ap, ◌∙◌, arith}
use Rattle.std.proofs.Common.{length-append}
use Rattle.rpl_columns.specs.Nodes.{nodes_in, seen, tree_in, if_found, with_front}
use Rattle.rpl_columns.proofs.Reading.{begin_tree, step_on, step_last, step_none, pushed, ended}
use Rattle.rpl_columns.proofs.tree.read_tree.Goals as goal

pub loop-node-init : goal.loop-node-init
loop-node-init c = (
  omega arith,
  omega arith,
  omega (arith, ap length c.clear.ensures.items),
  begin_tree c.args.line.now c.clear.new.self.items c.clear.ensures.items,
)

pub returns-then-next-eq0 : goal.returns-then-next-eq0
returns-then-next-eq0 c =
    let line = c.args.line.now in
    let nodes = c.loop-node.nodes.items in
    let w : (c.loop-node.reached.at < c.in-Some.next.at) × (c.in-Some.next.at ≤ length line)
    × (c.in-Some.next.depth ≤ c.in-Some.next.at) = c.in-Some.ensures.within in
    let all : map (seen line) nodes ++ seen line c.in-Some.node ∷ [] ≡ map (seen line) c.push.new.self.items =
    pushed line nodes c.in-Some.node c.push.new.self.items c.in_ok-push.ensures.items in
    step_last (tree_in line) (map (seen line) nodes) (length line - length nodes) c.loop-node.reached.depth
    (drop c.loop-node.reached.at line) (seen line c.in-Some.node) c.in-Some.next.depth (drop c.in-Some.next.at line)
    c.loop-node.invariant.3 c.in-Some.ensures.rest c.if-next-eq0.true
    ∙ ended line c.in-Some.next.at (map (seen line) nodes ++ seen line c.in-Some.node ∷ []) w.1
    ∙ ap (if_found (nat_eq c.in-Some.next.at (length line))) all

pub loop-node-preserved : goal.loop-node-preserved
loop-node-preserved c =
    let line = c.args.line.now in
    let nodes = c.loop-node.nodes.items in
    let w : (c.loop-node.reached.at < c.in-Some.next.at) × (c.in-Some.next.at ≤ length line)
    × (c.in-Some.next.depth ≤ c.in-Some.next.at) = c.in-Some.ensures.within in
    let all : map (seen line) nodes ++ seen line c.in-Some.node ∷ [] ≡ map (seen line) c.push.new.self.items =
    pushed line nodes c.in-Some.node c.push.new.self.items c.in_ok-push.ensures.items in
    let more : length c.push.new.self.items ≡ length nodes + 1 = ap length c.in_ok-push.ensures.items
    ∙ length-append nodes (c.in-Some.node ∷ []) in
    let left : length line - length nodes ≡ suc (length line - length c.push.new.self.items) =
    omega (arith, more, w.0, w.1) in (
      w.1,
      w.2,
      omega (arith, more, w.0),
      step_on (tree_in line) (map (seen line) nodes) (length line - length nodes) c.loop-node.reached.depth
          (drop c.loop-node.reached.at line) (seen line c.in-Some.node) c.in-Some.next.depth
          (drop c.in-Some.next.at line)
          c.loop-node.invariant.3 c.in-Some.ensures.rest c.if-next-eq0.false
          ∙ ap (λ front. with_front front (nodes_in (length line - length nodes) c.in-Some.next.depth
          (drop c.in-Some.next.at line))) all
          ∙ ap (λ k. with_front (map (seen line) c.push.new.self.items)
          (nodes_in k c.in-Some.next.depth (drop c.in-Some.next.at line))) left,
    )

pub returns : goal.returns
returns c =
    let line = c.args.line.now in
    let nodes = c.loop-node.nodes.items in
    step_none (tree_in line) (map (seen line) nodes) (length line - length nodes) c.loop-node.reached.depth
    (drop c.loop-node.reached.at line) c.loop-node.invariant.3 c.in_default.ensures.rest
