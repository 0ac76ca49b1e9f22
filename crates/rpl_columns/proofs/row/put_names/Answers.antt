use Rattle.std.proofs.Common.{◌≡◌, ◌<◌, ◌≤◌, Some, length, get_or, subst, ◌+◌, ◌++◌, drop, map, ap, ◌∙◌}
use Rattle.rpl_columns.specs.Cells.{before, between}
use Rattle.rpl_columns.specs.Rows.{cell, name_cell, separator}
use Rattle.rpl_columns.proofs.Picking.{columns_next, columns_none, row_on, row_end}
use Rattle.rpl_columns.proofs.row.put_names.Goals as goal

pub loop-index-preserved : goal.loop-index-preserved
loop-index-preserved c =
    let sheet = c.args.sheet.now in
    let columns = sheet.columns in
    let i = c.loop-index.index in
    let column = c.index-columns-index.result in
    let f = name_cell sheet.format in
    let same = c.as_slice-columns.ensures in
    let next = columns_next f columns i column (subst (λ xs. i < length xs) same c.loop-index-test.true)
    (subst (λ xs. column ≡ get_or xs i column) same c.index-columns-index.is) in
    row_on (separator sheet.format) i c.loop-index.out.items c.put_separator.new.out.items c.put_cell.new.out.items
    (c.args.out.now.items ++ between (separator sheet.format) (map f columns)) (f column) (map f (drop i columns))
    (map f (drop (i + 1) columns)) next (c.in_ok-put_separator.ensures
    ∙ ap (λ s. c.loop-index.out.items ++ before s i) c.separator-sign.ensures) (c.in_ok-put_cell.ensures
    ∙ ap (λ n. c.put_separator.new.out.items ++ cell sheet.format n (Some n)) c.as_slice-name.ensures)
    c.loop-index.invariant

pub returns : goal.returns
returns c =
    let sheet = c.args.sheet.now in
    let columns = sheet.columns in
    let i = c.loop-index.index in
    let f = name_cell sheet.format in
    row_end (separator sheet.format) i c.loop-index.out.items (c.args.out.now.items
    ++ between (separator sheet.format) (map f columns)) (map f (drop i columns))
    (columns_none f columns i (subst (λ xs. length xs ≤ i) c.as_slice-columns.ensures c.loop-index-test.false))
    c.loop-index.invariant
