use Rattle.std.proofs.Common.{◌≤◌, None, length, arith, sym}
use Rattle.std.proofs.lemmas.Bool.Decides.{nat_tests}
use Rattle.rpl_scope.specs.Seen.{module_seen}
use Rattle.rpl_names.specs.Names.{listed}
use Rattle.rpl_names.specs.Sets.{set_seen}
use Rattle.rpl_names.specs.inside.Listing.{named}
use Rattle.rpl_names.proofs.Listing.{done, more}
use Rattle.rpl_names.proofs.set.PackageSet.push_own.Goals as goal

pub loop-number-preserved : goal.loop-number-preserved
loop-number-preserved c =
    more (λ e. listed (set_seen c.args.self.now) (named None e.0)) (module_seen c.args.own.now).names
    c.loop-number.number _ c.args.names.now.items c.loop-number.names.items _
    (sym c.in-Some.ensures.is) c.loop-number.invariant c.in_ok-push_name.ensures

pub returns : goal.returns
returns c =
    let count = c.len-number-end.ensures in
    let end : length (module_seen c.args.own.now).names ≤ c.loop-number.number = grind (arith, nat_tests, count) in
    done (listed (set_seen c.args.self.now)) (λ e. named None e.0) (module_seen c.args.own.now).names
    c.loop-number.number c.args.names.now.items c.loop-number.names.items end c.loop-number.invariant
