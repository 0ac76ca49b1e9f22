use Rattle.std.proofs.Common.{ap, sym, ◌∙◌, ◌+◌, drop, map, None}
use Rattle.rpl_columns.specs.Columns.{picked}
use Rattle.rpl_columns.specs.Nodes.{part_of, seen}
use Rattle.rpl_columns.specs.Rows.{joined}
use Rattle.rpl_columns.proofs.Picking.{hit_at, miss_at, picked_none}
use Rattle.rpl_columns.proofs.row.first_text.Goals as goal

pub returns-then-takes : goal.returns-then-takes
returns-then-takes c =
    let line = c.args.tree.line.now in
    let hit = hit_at c.args.column.now c.loop-node.enclosing line c.args.tree.nodes.now c.loop-node.node-index _
    c.of-label.result.now c.of.result.now c.loop-node-test.true c.of-label.ensures (sym c.takes.ensures
    ∙ c.if-takes.true) (c.of.ensures ∙ ap (part_of line) c.span.ensures) in
    sym (ap (joined None) (sym c.loop-node.invariant ∙ hit))

pub loop-node-preserved : goal.loop-node-preserved
loop-node-preserved c =
    let line = c.args.tree.line.now in
    let nodes = c.args.tree.nodes.now in
    let miss = miss_at c.args.column.now c.loop-node.enclosing line nodes c.loop-node.node-index _ c.of-label.result.now
    c.loop-node-test.true c.of-label.ensures (sym c.takes.ensures ∙ c.if-takes.false) in
    ap (λ e. picked c.args.column.now e (map (seen line) (drop (c.loop-node.node-index + 1) nodes)))
    c.next_enclosing-enclosing.ensures
    ∙ sym miss ∙ c.loop-node.invariant

pub returns : goal.returns
returns c =
    sym (ap (joined None) (sym c.loop-node.invariant
    ∙ picked_none c.args.column.now c.loop-node.enclosing c.args.tree.line.now c.args.tree.nodes.now
    c.loop-node.node-index c.loop-node-test.false))
