use Rattle.std.proofs.Common.{ap, sym, ◌∙◌, ◌+◌, drop, map, Vec, Global, List}
use Rattle.rpl_columns.specs.Fields.{key_of, keys}
use Rattle.rpl_columns.specs.Nodes.{seen}
use Rattle.rpl_columns.specs.declared.node.Node.{Node}
use Rattle.rpl_columns.proofs.Naming.{keys_more, keys_same, keys_none}
use Rattle.rpl_columns.proofs.fields.find_keys.Goals as goal
use Rattle.rpl_columns.proofs.fields.find_keys.Goals.{then-is_new+in_ok-push, else-is_new}

pub loop-node-preserved : goal.loop-node-preserved
loop-node-preserved c =
    let line = c.args.line.now in
    let nodes = c.args.nodes.now in
    let known = c.loop-node.keys.items in
    let i = c.loop-node.node-index in
    elim c.if-is_new.branch [
      | then-is_new+in_ok-push w ↦
          sym (keys_more line known c.if-is_new.keys.items nodes i _ c.deref.result.now c.is_new.result
          c.loop-node-test.true c.deref.ensures.value c.is_new.ensures w.if-is_new.true
          (ap (λ (v : Vec Node Global). v.items) w.keys-is ∙ w.in_ok-push.ensures.items))
          ∙ c.loop-node.invariant
      | else-is_new w ↦
          ap (λ (ks : List Node). keys (map (key_of line) ks) (map (seen line) (drop (i + 1) nodes)))
          (ap (λ (v : Vec Node Global). v.items) w.keys-is)
          ∙ sym (keys_same line known nodes i _ c.deref.result.now c.is_new.result c.loop-node-test.true
          c.deref.ensures.value c.is_new.ensures w.if-is_new.false)
          ∙ c.loop-node.invariant
    ]

pub returns : goal.returns
returns c =
    sym (keys_none _ c.args.line.now c.args.nodes.now c.loop-node.node-index c.loop-node-test.false)
    ∙ c.loop-node.invariant
