use Rattle.std.proofs.Common.{◌≡◌, ◌+◌, ◌≤◌, subst, ⊎_elim, arith}
use Rattle.std.proofs.lemmas.Bool.{cases_lt}
use Rattle.std.specs.Prelude.{true}
use Rattle.rpl_facts.specs.Facts.{calls_at}
use Rattle.rpl_check.specs.inside.Ranks.{rank_of}
use Rattle.rpl_check.specs.inside.Within.{table_of, empty_in}
use Rattle.rpl_check.proofs.recursion.Block.falls.Goals as goal

pub loop-place-preserved : goal.loop-place-preserved
loop-place-preserved c = λ q t from to calls.
    let a = c.args.self.now.start in
    let k = c.loop-place.place in
    let rank = rank_of a c.args.ranks.now in
    ⊎_elim (λ l. c.loop-place.invariant q t from l calls)
    (λ l. let same : a + k ≡ q = omega (arith, to, l) in
    subst (λ y. calls_at (empty_in c.args.self.now) (table_of c.args.self.now) y t ≡ true
    → rank t ≤ rank y) same (c.in_ok-falls_at.ensures c.if-not-branch.false t) calls)
    (cases_lt q (a + k))
