use Rattle.std.proofs.Common.{arith, ◌≡◌, length, false, sym, ap, ◌∙◌}
use Rattle.std.specs.Prelude.{chars, nat_lt, slice_get}
use Rattle.std.proofs.lemmas.Bool.Decides.{nat_tests}
use Rattle.std.proofs.lemmas.List.{length-map}
use Rattle.rpl_scope.specs.Seen.{module_seen, modules_seen, rule_seen}
use Rattle.rpl_names.specs.Sets.{set_seen}
use Rattle.rpl_names.proofs.Numbering.{nth_seen}
use Rattle.rpl_names.proofs.Offering.{stands, stands_under}
use Rattle.rpl_names.proofs.set.PackageSet.prefix.Goals as goal

pub returns-then-under-len : goal.returns-then-under-len
returns-then-under-len c =
    let packages = c.args.self.now in
    let own = c.in-Some.own.now in
    let u = c.in-Some-at.under in
    let there = ap (λ l. slice_get (modules_seen l) packages.top) (sym c.deref.ensures.value)
    ∙ nth_seen c.deref.result.now packages.top own c.in-Some.ensures.lookup.3.0 c.in-Some.ensures.lookup.1 in
    let count = c.len.ensures in
    let long = length-map own.rules.items rule_seen in
    let below = c.if-under-len.true in
    let seen : nat_lt (length (module_seen own).rules) u.since ≡ false = grind (arith, nat_tests, count, long, below) in
    stands_under (set_seen packages) (chars c.in-Some-at.prefix.now) (module_seen own) u there
    c.in-Some-at.ensures.first
    (c.is_spelled.ensures c.if-is_spelled.true) seen c.args.place (sym c.in-Some-at.ensures.is)

pub returns : goal.returns
returns c =
    let packages = c.args.self.now in
    let own = c.in-Some.own.now in
    let there = ap (λ l. slice_get (modules_seen l) packages.top) (sym c.deref.ensures.value)
    ∙ nth_seen c.deref.result.now packages.top own c.in-Some.ensures.lookup.3.0 c.in-Some.ensures.lookup.1 in
    stands (set_seen packages) (chars c.in-Some-at.prefix.now) (module_seen own) c.in-Some-at.under c.args.place there
    (sym c.in-Some-at.ensures.is)
