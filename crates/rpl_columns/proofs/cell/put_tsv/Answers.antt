use Rattle.std.proofs.Common.{◌≡◌, ◌++◌, sym, subst, ◌∙◌}
use Rattle.std.specs.Prelude.{OnOk}
use Rattle.rpl_columns.proofs.Texts.{tsv_itself}
use Rattle.rpl_columns.proofs.cell.put_tsv.Goals as goal

pub returns-then-is_plain : goal.returns-then-is_plain
returns-then-is_plain c =
    subst (λ t. OnOk c.put.result (c.put.new.out.items ≡ c.args.out.now.items ++ t))
    (sym (tsv_itself c.args.spelled.now (sym c.is_plain.ensures.exact ∙ c.if-is_plain.true))) c.put.ensures
