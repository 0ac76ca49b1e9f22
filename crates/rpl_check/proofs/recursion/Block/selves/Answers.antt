use Rattle.std.proofs.Common.{◌≡◌, ◌∙◌, length, sym, subst, arith}
use Rattle.rpl_check.specs.inside.Search.{AreClean, AreLeft}
use Rattle.rpl_check.specs.inside.Within.{table_of, empty_in}
use Rattle.rpl_check.proofs.Rings.{taken}
use Rattle.rpl_check.proofs.recursion.Block.selves.Goals as goal

pub list_selves-requires-clause-clean : goal.list_selves-requires-clause-clean
list_selves-requires-clause-clean c =
    subst (AreClean (table_of c.args.self.now) (empty_in c.args.self.now) c.args.self.now.start)
    (sym c.deref.ensures.value) c.in_ok-clean.ensures.clean

pub list_selves-requires-clause-left : goal.list_selves-requires-clause-left
list_selves-requires-clause-left c =
    let new = c.clean_rules.new.left in
    let long : c.in_ok-left.left.len ≡ length new =
    omega (arith, c.in_ok-left.ensures.len, c.clean_rules.ensures.left_long) in
    subst (AreLeft (table_of c.args.self.now) (empty_in c.args.self.now) c.args.self.now.start)
    (taken c.in_ok-left.left.len new _ long ∙ sym c.deref-2.ensures.value) c.clean_rules.ensures.left
