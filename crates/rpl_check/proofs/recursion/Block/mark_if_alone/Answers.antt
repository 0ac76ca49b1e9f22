use Rattle.std.proofs.Common.{◌≡◌, ℕ, ◌+◌, ◌-◌, ◌<◌, length, subst, arith}
use Rattle.std.specs.Prelude.{slice_set, true}
use Rattle.rpl_facts.specs.Facts.{calls_at}
use Rattle.rpl_check.specs.inside.Ranks.{rank_of}
use Rattle.rpl_check.specs.inside.Search.{AreClean}
use Rattle.rpl_check.specs.inside.Within.{table_of, empty_in}
use Rattle.rpl_check.proofs.Alone.{clean_alone}
use Rattle.rpl_check.proofs.recursion.Block.mark_if_alone.Goals as goal

pub returns-then-highest-rank-clause-clean : goal.returns-then-highest-rank-clause-clean
returns-then-highest-rank-clause-clean c =
    let b = c.args.self.now in
    let R = table_of b in
    let m = empty_in b in
    let a = b.start in
    let p = c.args.place in
    let clean = c.args.clean.now in
    let ranks = c.args.ranks.now in
    let e : (a + p) - a ≡ p = omega arith in
    let fit : (a + p) - a < length clean = omega (arith, e, c.requires.long, c.requires.inside) in
    let low : (t : ℕ) → calls_at m R (a + p) t ≡ true → rank_of a ranks t < rank_of a ranks (a + p) = λ t x. let h =
    c.in_ok-highest.ensures t x in omega (arith, h, c.rank.ensures) in
    subst (λ i. AreClean R m a (slice_set clean i true)) e
    (clean_alone R m a b.end ranks c.requires.block.earlier c.requires.block.calls c.requires.falls (a + p) clean
    (omega arith) (omega (arith, c.requires.inside)) fit low c.requires.clean)
