use Rattle.std.proofs.Common.{◌≡◌, ◌++◌, ap, map, length, sym, subst, ◌∙◌}
use Rattle.std.specs.Prelude.{OnOk}
use Rattle.rpl_columns.specs.Nodes.{seen}
use Rattle.rpl_columns.proofs.Picking.{row_none, row_some}
use Rattle.rpl_columns.proofs.row.put_row.Goals as goal

pub returns-then-count-eq0 : goal.returns-then-count-eq0
returns-then-count-eq0 c =
    let none = sym (ap length c.as_slice-count.ensures) ∙ c.if-count-eq0.true in
    subst (λ r. OnOk c.put_fields.result (c.put_fields.new.out.items ≡ c.args.out.now.items ++ r))
    (row_none c.args.sheet.now (map (seen c.args.tree.line.now) c.args.tree.nodes.now) none) c.put_fields.ensures

pub returns : goal.returns
returns c =
    let some : length c.args.sheet.now.columns ≡ 0 → ⊥ =
    λ none. c.if-count-eq0.false (ap length c.as_slice-count.ensures ∙ none) in
    subst (λ r. OnOk c.put_columns_row.result (c.put_columns_row.new.out.items ≡ c.args.out.now.items ++ r))
    (row_some c.args.sheet.now (map (seen c.args.tree.line.now) c.args.tree.nodes.now) some) c.put_columns_row.ensures
