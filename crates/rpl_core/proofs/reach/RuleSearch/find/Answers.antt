use Rattle.rpl_core.proofs.RuleFinds.{find_one}
use Rattle.std.specs.BTreeSet.{btree_set_len}
use Rattle.std.specs.Prelude.{if◌then◌else◌}
use Rattle.std.proofs.Common.{◌+◌, sym, ◌∙◌, ap}
use Rattle.rpl_core.proofs.Bools.{not_on}
use Rattle.rpl_core.proofs.reach.RuleSearch.find.Goals as goal

pub returns-in_ok-push : goal.returns-in_ok-push
returns-in_ok-push c =
    let e = c.in_ok-insert.ensures in
    find_one c.args.self.now _ c.args.rule (not_on _ (sym e.added ∙ c.if-branch.true)) e.updates
    (e.len ∙ ap (λ b. btree_set_len c.args.self.now.found + (if b then 1 else 0)) c.if-branch.true) e.ordered
    c.in_ok-push.ensures.items
