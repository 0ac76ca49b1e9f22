use Rattle.std.proofs.Common.{◌≡◌, ◌+◌, ◌-◌, ◌<◌, length, sym, subst, arith}
use Rattle.std.specs.Prelude.{false, true, slice_set}
use Rattle.rpl_core.specs.Marks.{marked}
use Rattle.rpl_check.specs.inside.Search.{AreClean}
use Rattle.rpl_check.specs.inside.Within.{table_of, empty_in}
use Rattle.rpl_check.proofs.Clean.{clean_more}
use Rattle.rpl_check.proofs.recursion.Block.mark_if_clean.Goals as goal

pub returns-then-calls_clean-clause-clean : goal.returns-then-calls_clean-clause-clean
returns-then-calls_clean-clause-clean c =
    let R = table_of c.args.self.now in
    let m = empty_in c.args.self.now in
    let a = c.args.self.now.start in
    let p = c.args.place in
    let clean = c.args.clean.now in
    let e : (a + p) - a ≡ p = omega arith in
    let off : marked clean ((a + p) - a) ≡ false = subst (λ i. marked clean i ≡ false) (sym e) c.if-clean-place.false in
    let fit : (a + p) - a < length clean = omega (arith, e, c.requires.long, c.if-place-self.false) in
    let more = clean_more R m a (a + p) clean c.requires.block.earlier (omega arith) fit off
    (c.calls_clean.ensures.clean c.if-calls_clean.true) c.requires.clean in
    subst (λ i. AreClean R m a (slice_set clean i true)) e more
