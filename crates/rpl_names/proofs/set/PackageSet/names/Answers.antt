use Rattle.std.proofs.Common.{rules, is_lt, sym, subst}
use Rattle.std.specs.Prelude.{encode_utf8_all}
use Rattle.std.specs.List.Sorted.{IsSorted}
use Rattle.std.proofs.lemmas.Cmp.{nat_list_cmp_total}
use Rattle.std.proofs.lemmas.List.Sorted.{answers_always, ranks_by}
use Rattle.rpl_names.specs.Names.{by_bytes}
use Rattle.rpl_names.specs.declared.names.Listed.{Listed}
use Rattle.rpl_names.proofs.set.PackageSet.names.Goals as goal

pub returns-clause-order : goal.returns-clause-order
returns-clause-order c =
    subst (IsSorted by_bytes) (sym c.from_vec.ensures)
    (c.in_ok-sort_by.ensures.sorted (λ a b. is_lt (by_bytes a b))
    (ranks_by nat_list_cmp_total (λ (x : Listed). encode_utf8_all x.name))
    (answers_always _ _ _ (λ f a r g k. search rules)))
