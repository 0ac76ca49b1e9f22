use Rattle.std.proofs.Common.{◌≡◌, ◌++◌, map, ap, subst, ◌∙◌}
use Rattle.std.specs.Prelude.{OnOk}
use Rattle.rpl_columns.specs.Cells.{between}
use Rattle.rpl_columns.specs.Nodes.{seen}
use Rattle.rpl_columns.specs.Rows.{cells, closing, no_blank, opening, separator}
use Rattle.rpl_columns.proofs.Picking.{row_whole}
use Rattle.rpl_columns.proofs.row.put_columns_row.Goals as goal

pub returns : goal.returns
returns c =
    let sheet = c.args.sheet.now in
    let columns = sheet.columns in
    let nodes = map (seen c.args.tree.line.now) c.args.tree.nodes.now in
    let whole = row_whole c.args.out.now.items (opening sheet.format) c.put.new.out.items
    (between (separator sheet.format) (cells sheet nodes columns)) c.put_cells.new.out.items c.len-start.result
    (λ r. no_blank sheet.format r ++ closing sheet.format) (c.in_ok-put.ensures
    ∙ ap (λ o. c.args.out.now.items ++ o) c.opening.ensures) (c.len-start.ensures
    ∙ c.put.new.out.ok.0) c.in_ok-put_cells.ensures in
    subst (λ t. OnOk c.end_row.result (c.end_row.new.out.items ≡ t)) whole c.end_row.ensures
