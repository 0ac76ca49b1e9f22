use Rattle.std.proofs.Common.{◌≡◌, ◌++◌, ap, subst, ◌∙◌}
use Rattle.std.specs.Prelude.{OnOk}
use Rattle.rpl_columns.specs.Cells.{between}
use Rattle.rpl_columns.specs.Rows.{closing, names, no_blank, opening, separator}
use Rattle.rpl_columns.proofs.Picking.{row_whole}
use Rattle.rpl_columns.proofs.row.put_names_row.Goals as goal

pub returns : goal.returns
returns c =
    let sheet = c.args.sheet.now in
    let columns = sheet.columns in
    let whole = row_whole c.args.out.now.items (opening sheet.format) c.put.new.out.items
    (between (separator sheet.format) (names sheet.format columns)) c.put_names.new.out.items c.len-start.result
    (λ r. no_blank sheet.format r ++ closing sheet.format) (c.in_ok-put.ensures
    ∙ ap (λ o. c.args.out.now.items ++ o) c.opening.ensures) (c.len-start.ensures
    ∙ c.put.new.out.ok.0) c.in_ok-put_names.ensures in
    subst (λ t. OnOk c.end_row.result (c.end_row.new.out.items ≡ t)) whole c.end_row.ensures
