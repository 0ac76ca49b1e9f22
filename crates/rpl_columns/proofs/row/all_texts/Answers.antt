use Rattle.std.proofs.Common.{◌∷◌, ◌+◌, Option, drop, map, ap, sym, ◌∙◌, true, Vec, Global, ℕ}
use Rattle.std.proofs.lemmas.Bool.{false≢true}
use Rattle.rpl_columns.specs.Columns.{picked}
use Rattle.rpl_columns.specs.Nodes.{part_of, seen}
use Rattle.rpl_columns.specs.Rows.{onto}
use Rattle.rpl_columns.proofs.Picking.{hit_at, miss_at, onto_hit, onto_end, picked_none}
use Rattle.rpl_columns.proofs.row.all_texts.Goals as goal
use Rattle.rpl_columns.proofs.row.all_texts.Goals.{then-takes+in_ok-add_text, else-takes}

pub loop-node-preserved : goal.loop-node-preserved
loop-node-preserved c =
    let column = c.args.column.now in
    let line = c.args.tree.line.now in
    let nodes = c.args.tree.nodes.now in
    let joint = c.args.joint.now in
    let old = c.loop-node.cell.items in
    let left = λ (e : Option ℕ). picked column e (map (seen line) (drop (c.loop-node.node-index + 1) nodes)) in
    let after = c.next_enclosing-enclosing.result in
    let step = c.next_enclosing-enclosing.ensures in
    elim c.if-takes.branch [
      | then-takes+in_ok-add_text w ↦
          let text = w.of.result.now in
          let hit = hit_at column c.loop-node.enclosing line nodes c.loop-node.node-index _ c.of-label.result.now text
          c.loop-node-test.true c.of-label.ensures (sym c.takes.ensures ∙ w.if-takes.true) (w.of.ensures
          ∙ ap (part_of line) w.span.ensures) in (
            λ e. absurd (false≢true (sym e ∙ w.is_found-is)),
            ap (λ f. onto joint f c.if-takes.cell.items (left after)) w.is_found-is
                ∙ ap (λ x. onto joint true x (left after)) (ap (λ (v : Vec ℕ Global). v.items) w.cell-is
                ∙ w.in_ok-add_text.ensures)
                ∙ sym (onto_hit joint c.loop-node.is_found old text (left after) c.loop-node.invariant.0)
                ∙ ap (onto joint c.loop-node.is_found old) (ap (λ e. text ∷ left e) step ∙ sym hit)
                ∙ c.loop-node.invariant.1,
          )
      | else-takes w ↦
          let miss = miss_at column c.loop-node.enclosing line nodes c.loop-node.node-index _ c.of-label.result.now
          c.loop-node-test.true c.of-label.ensures (sym c.takes.ensures ∙ w.if-takes.false) in (
            λ e. ap (λ (v : Vec ℕ Global). v.items) w.cell-is ∙ c.loop-node.invariant.0 (sym w.is_found-is ∙ e),
            ap (λ f. onto joint f c.if-takes.cell.items (left after)) w.is_found-is
                ∙ ap (λ x. onto joint c.loop-node.is_found x (left after))
                (ap (λ (v : Vec ℕ Global). v.items) w.cell-is)
                ∙ ap (onto joint c.loop-node.is_found old) (ap left step ∙ sym miss)
                ∙ c.loop-node.invariant.1,
          )
    ]

pub returns : goal.returns
returns c =
    sym c.loop-node.invariant.1
    ∙ ap (onto c.args.joint.now c.loop-node.is_found c.loop-node.cell.items)
    (picked_none c.args.column.now c.loop-node.enclosing c.args.tree.line.now c.args.tree.nodes.now
    c.loop-node.node-index c.loop-node-test.false)
    ∙ onto_end c.args.joint.now c.loop-node.is_found c.loop-node.cell.items
