use Rattle.std.proofs.Common.{arith, sym, subst}
use Rattle.rpl_names.specs.Built.{IsBuilt, by_roots, packages}
use Rattle.rpl_names.specs.Loading.{finished}
use Rattle.rpl_names.specs.Stocks.{state_seen}
use Rattle.rpl_names.proofs.Within.{finished_more, within_on}
use Rattle.rpl_package.proofs.loading.finish_set.Goals as goal

pub invariant_of-result-clause-built : goal.invariant_of-result-clause-built
invariant_of-result-clause-built c =
    let s = state_seen c.args.stock c.args.own in
    let rs = c.args.roots.items in
    ∣ subst (λ x. IsBuilt (packages x c.in_ok-top.top rs)) (sym c.in_ok-top.ensures.stock)
    (subst (λ n. IsBuilt (packages (finished s.stock s.own) n rs)) (sym c.in_ok-top.ensures.number)
    (by_roots s rs c.requires.built)) ∣₁

pub invariant_of-result-clause-within : goal.invariant_of-result-clause-within
invariant_of-result-clause-within c =
    let more = finished_more c.args.stock c.finish.new.stock _ c.in_ok-top.ensures.stock in
    within_on _ _ _ (omega (arith, more)) c.requires.within
