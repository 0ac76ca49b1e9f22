use Rattle.std.proofs.Common.{ℕ, List}
use Rattle.regex_class.specs.Ranges.{Range}
use Rattle.rpl_intern.proofs.Ordering.{of_uses, one_table}
use Rattle.rpl_intern.proofs.laws.table_law.Goals as goal

pub returns : goal.returns
returns c = record {
  sets = of_uses (List Range);
  one_of_sets = one_table (List Range);
  texts = of_uses (List ℕ);
  one_of_texts = one_table (List ℕ);
}
