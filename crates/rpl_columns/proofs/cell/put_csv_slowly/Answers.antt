use Rattle.std.proofs.Common.{◌≡◌, ◌++◌, sym, subst, ◌∙◌}
use Rattle.std.specs.Prelude.{OnOk}
use Rattle.rpl_columns.specs.Cells.{text_of}
use Rattle.rpl_columns.proofs.Texts.{csv_bare, no_doubled}
use Rattle.rpl_columns.proofs.cell.put_csv_slowly.Goals as goal

pub returns-then-not-is_to_be_quoted : goal.returns-then-not-is_to_be_quoted
returns-then-not-is_to_be_quoted c =
    let text = text_of c.args.spelled.now in
    let none = sym c.is_to_be_quoted.ensures ∙ c.if-not-is_to_be_quoted.true in
    subst (λ t. OnOk c.put_doubled.result (c.put_doubled.new.out.items ≡ c.args.out.now.items ++ t))
    (no_doubled text none ∙ sym (csv_bare text none)) c.put_doubled.ensures
