use Rattle.std.proofs.Common.{◌≡◌, ◌∙◌, length, sym, subst, arith}
use Rattle.rpl_check.specs.inside.Search.{AreClean}
use Rattle.rpl_check.specs.inside.Within.{table_of, empty_in}
use Rattle.rpl_check.proofs.Rings.{taken}
use Rattle.rpl_check.proofs.recursion.Block.clean_rules.Goals as goal

pub returns-then-len-clause-clean : goal.returns-then-len-clause-clean
returns-then-len-clause-clean c =
    let long : c.in_ok-clean.clean.len ≡ length c.mark_in_turn.new.clean =
    omega (arith, c.in_ok-clean.ensures.len, c.mark_in_turn.ensures.long) in
    subst (λ l. AreClean (table_of c.args.self.now) (empty_in c.args.self.now) c.args.self.now.start l)
    (taken c.in_ok-clean.clean.len c.mark_in_turn.new.clean _ long) c.mark_in_turn.ensures.clean

pub mark_alone-requires-clause-clean : goal.mark_alone-requires-clause-clean
mark_alone-requires-clause-clean c =
    let long : c.in_ok-clean.clean.len ≡ length c.mark_in_turn.new.clean =
    omega (arith, c.in_ok-clean.ensures.len, c.mark_in_turn.ensures.long) in
    subst (λ l. AreClean (table_of c.args.self.now) (empty_in c.args.self.now) c.args.self.now.start l)
    (taken c.in_ok-clean.clean.len c.mark_in_turn.new.clean _ long
    ∙ sym c.deref_mut-2.ensures.value) c.mark_in_turn.ensures.clean

pub returns-clause-clean : goal.returns-clause-clean
returns-clause-clean c =
    let long : c.in_ok-clean.clean.len ≡ length c.mark_alone.new.clean =
    omega (arith, c.in_ok-clean.ensures.len, c.mark_alone.ensures.long) in
    subst (λ l. AreClean (table_of c.args.self.now) (empty_in c.args.self.now) c.args.self.now.start l)
    (taken c.in_ok-clean.clean.len c.mark_alone.new.clean _ long) c.mark_alone.ensures.clean
