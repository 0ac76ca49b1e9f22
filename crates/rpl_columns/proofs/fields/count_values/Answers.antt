use Rattle.std.proofs.Common.{arith, ap, length, sym, ◌∙◌}
use Rattle.rpl_columns.proofs.Naming.{values_more, values_same, values_none}
use Rattle.rpl_columns.proofs.fields.count_values.Goals as goal
use Rattle.rpl_columns.proofs.fields.count_values.Goals.{then-is_field, else-is_field}

pub loop-node-preserved : goal.loop-node-preserved
loop-node-preserved c =
    let line = c.args.line.now in
    let nodes = c.args.nodes.now in
    let key = c.args.key.now in
    let i = c.loop-node.node-index in
    elim c.if-is_field.branch [
      | then-is_field w ↦
          let more = ap length (values_more key line nodes i _ c.loop-node-test.true (sym c.is_field.ensures
          ∙ w.if-is_field.true)) in (omega arith, omega (arith, more))
      | else-is_field w ↦
          let same = ap length (values_same key line nodes i _ c.loop-node-test.true (sym c.is_field.ensures
          ∙ w.if-is_field.false)) in (omega arith, omega (arith, same))
    ]

pub returns : goal.returns
returns c =
    let none = ap length (values_none c.args.key.now c.args.line.now c.args.nodes.now c.loop-node.node-index
    c.loop-node-test.false) in
    omega (arith, none)
