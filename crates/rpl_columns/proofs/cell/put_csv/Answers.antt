use Rattle.std.proofs.Common.{◌≡◌, ◌++◌, sym, subst, ◌∙◌}
use Rattle.std.specs.Prelude.{OnOk}
use Rattle.rpl_columns.proofs.Texts.{csv_itself}
use Rattle.rpl_columns.proofs.cell.put_csv.Goals as goal

pub returns-then-has_no_comma : goal.returns-then-has_no_comma
returns-then-has_no_comma c =
    subst (λ t. OnOk c.put.result (c.put.new.out.items ≡ c.args.out.now.items ++ t))
    (sym (csv_itself c.args.spelled.now (sym c.is_plain.ensures.exact
    ∙ c.if-is_plain.true) (sym c.has_no_comma.ensures ∙ c.if-has_no_comma.true))) c.put.ensures
