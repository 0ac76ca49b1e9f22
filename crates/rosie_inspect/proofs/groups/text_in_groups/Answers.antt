use Rattle.std.proofs.Common.{List, subst, sym}
use Rattle.std.specs.List.Sorted.{IsPermutation}
use Rattle.rpl_names.specs.Sets.{set_seen}
use Rattle.rosie_inspect.specs.declared.groups.Group.{Group}
use Rattle.rosie_inspect.proofs.Grouping.{all_grouped, joined}
use Rattle.rosie_inspect.proofs.groups.text_in_groups.Goals as goal

pub returns : goal.returns
returns c =
    let p = set_seen c.args.packages.now in
    let own = c.in_ok-groups.groups.items in
    let all = c.push_prefixes.new.groups.items in
    let P : List Group → Type 0 = λ gs. IsPermutation all gs in
    joined p all c.deref-2.result.now c.in_ok-offers.offers c.join_groups.result
    (all_grouped p own all c.in_ok-groups.ensures (c.in_ok-push_prefixes.ensures c.if-not-branch.false))
    (subst P (sym c.deref-2.ensures.value) c.sort_by.ensures.permutation) c.in_ok-offers.ensures c.join_groups.ensures
