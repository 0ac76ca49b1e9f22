use Rattle.std.proofs.Common.{◌≡◌, subst}
use Rattle.std.specs.Prelude.{OnOk, codes}
use Rattle.rosie_columns_cli.proofs.Absent.{three_parts}
use Rattle.rosie_columns_cli.proofs.job.push_absent.Goals as goal

pub returns : goal.returns
returns c =
    subst (λ x. OnOk c.put-3.result (c.put-3.new.text.items ≡ x))
    (three_parts c.args.text.now.items (codes "rosie-columns: column never found: ") c.put.new.text.items
    c.as_slice.result.now c.args.column.now.name c.put-2.new.text.items (codes "\n") c.in_ok-put.ensures
    c.in_ok-put-2.ensures c.as_slice.ensures) c.put-3.ensures
