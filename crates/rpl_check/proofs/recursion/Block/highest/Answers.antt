use Rattle.std.proofs.Common.{◌+◌, ◌<◌, ◌≤◌, get_or, sym, ap, subst, ◌∙◌, drop, length, arith}
use Rattle.std.proofs.lemmas.List.{drop_all, get_or_default}
use Rattle.std.specs.Prelude.{nat_eq}
use Rattle.rpl_core.specs.Marks.{waits}
use Rattle.rpl_core.proofs.Bools.{either, eq_of}
use Rattle.rpl_core.proofs.Walk.{drop_here}
use Rattle.rpl_check.specs.inside.Ranks.{rank_of}
use Rattle.rpl_check.proofs.recursion.Block.highest.Goals as goal

pub loop-rule-preserved : goal.loop-rule-preserved
loop-rule-preserved c = λ n le rest.
    let rules = c.args.rules.now in
    let k = c.loop-rule.rule-index in
    let lt : k < length rules = c.loop-rule-test.true in
    let x = get_or rules k 0 in
    let rank = rank_of c.args.self.now.start c.args.ranks.now in
    let here = drop_here rules k x lt (get_or_default rules k 0 x lt) in
    let low : rank x ≤ n = omega (arith, c.rank.ensures, c.max-highest.ensures) in
    c.loop-rule.invariant n (omega (arith, c.max-highest.ensures))
    (λ t w. either (nat_eq x t) (waits (drop (k + 1) rules) t) (λ e. subst (λ y. rank y ≤ n) (eq_of x t e) low)
    (rest t) (sym (ap (λ l. waits l t) here) ∙ w))

pub returns : goal.returns
returns c = λ t w.
    let rules = c.args.rules.now in
    c.loop-rule.invariant c.loop-rule.highest (omega arith) (λ u v. absurd (let none =
    ap (λ l. waits l u) (drop_all c.loop-rule.rule-index rules (omega (arith, c.loop-rule-test.false))) in cc)) t w
