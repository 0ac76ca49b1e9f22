use Rattle.std.proofs.Common.{◌+◌, ◌∷◌, ◌++◌, arith, ap, sym, ◌∙◌, drop, map, Vec, Global, ℕ, List}
use Rattle.rpl_columns.specs.Cells.{later}
use Rattle.rpl_columns.specs.Fields.{in_quotes, values, values_text}
use Rattle.rpl_columns.specs.Nodes.{seen}
use Rattle.rpl_columns.proofs.Naming.{values_more, values_same, values_none}
use Rattle.rpl_columns.proofs.Picking.{row_on, row_end}
use Rattle.rpl_columns.proofs.fields.put_values.Goals as goal
use Rattle.rpl_columns.proofs.fields.put_values.Goals.{then-is_field+in_ok-put_separator+in_ok-put_quoted}
use Rattle.rpl_columns.proofs.fields.put_values.Goals.{else-is_field}

pub loop-node-preserved : goal.loop-node-preserved
loop-node-preserved c =
    let line = c.args.line.now in
    let nodes = c.args.nodes.now in
    let key = c.args.key.now in
    let i = c.loop-node.node-index in
    let out = c.loop-node.out.items in
    let whole = c.args.out.now.items ++ values_text (values key (map (seen line) nodes)) in
    let left = map in_quotes (values key (map (seen line) (drop i nodes))) in
    let more = map in_quotes (values key (map (seen line) (drop (i + 1) nodes))) in
    elim c.if-is_field.branch [
      | then-is_field+in_ok-put_separator+in_ok-put_quoted w ↦
          let next = ap (map in_quotes) (values_more key line nodes i _ c.loop-node-test.true (sym c.is_field.ensures
          ∙ w.if-is_field.true)) ∙ ap (λ t. in_quotes t ∷ more) (sym w.of.ensures) in
          let on = row_on 44 c.loop-node.count out w.put_separator.new.out.items w.put_quoted.new.out.items whole
          (in_quotes w.of.result.now) left more next w.in_ok-put_separator.ensures w.in_ok-put_quoted.ensures
          c.loop-node.invariant.1 in (
            omega arith,
            ap (λ (o : List ℕ). o ++ later 44 c.if-is_field.count more) (ap (λ (v : Vec ℕ Global). v.items) w.out-is)
                ∙ ap (λ n. w.put_quoted.new.out.items ++ later 44 n more) w.count-is ∙ on,
          )
      | else-is_field w ↦
          let same = values_same key line nodes i _ c.loop-node-test.true (sym c.is_field.ensures
          ∙ w.if-is_field.false) in (
            omega arith,
            ap (λ (o : List ℕ). o ++ later 44 c.if-is_field.count more) (ap (λ (v : Vec ℕ Global). v.items) w.out-is)
                ∙ ap (λ n. out ++ later 44 n more) w.count-is
                ∙ ap (λ vs. out ++ later 44 c.loop-node.count (map in_quotes vs)) (sym same)
                ∙ c.loop-node.invariant.1,
          )
    ]

pub returns : goal.returns
returns c =
    let line = c.args.line.now in
    let nodes = c.args.nodes.now in
    let key = c.args.key.now in
    let i = c.loop-node.node-index in
    row_end 44 c.loop-node.count c.loop-node.out.items (c.args.out.now.items
    ++ values_text (values key (map (seen line) nodes))) (map in_quotes (values key (map (seen line) (drop i nodes))))
    (ap (map in_quotes) (values_none key line nodes i c.loop-node-test.false)) c.loop-node.invariant.1
