use Rattle.std.proofs.Common.{◌≡◌, ◌≤◌, ◌++◌, length, arith, sym, ap, ◌∙◌}
use Rattle.std.specs.Prelude.{chars, slice_get}
use Rattle.std.proofs.lemmas.Bool.Decides.{nat_tests}
use Rattle.rpl_scope.specs.Packages.{shared, shared_of}
use Rattle.rpl_scope.specs.Seen.{module_seen}
use Rattle.rpl_names.specs.Names.{offered_as, offered_name}
use Rattle.rpl_names.specs.Sets.{set_seen}
use Rattle.rpl_names.proofs.Listing.{all_of, more}
use Rattle.rpl_names.proofs.set.PackageSet.push_offers.Goals as goal

pub loop-place-preserved : goal.loop-place-preserved
loop-place-preserved c =
    let p = set_seen c.args.self.now in
    let i = c.args.number in
    let n = chars c.in-Some.name.now in
    let found : shared_of i n (slice_get p.stock.modules i) ≡ c.found_by.result =
    ap (shared_of i n) c.requires ∙ ap (shared i) c.in-Some.ensures.first ∙ sym c.found_by.ensures in
    more (λ e. offered_name p i e.0) (module_seen c.args.from.now).names c.loop-place.place _
    c.args.names.now.items c.loop-place.names.items _ (sym c.in-Some.ensures.is) c.loop-place.invariant
    (c.in_ok-push_offered.ensures ∙ ap (λ f. c.loop-place.names.items ++ offered_as p n f) (sym found))

pub returns : goal.returns
returns c =
    let from = module_seen c.args.from.now in
    let count = c.len-place-end.ensures in
    let end : length from.names ≤ c.loop-place.place = grind (arith, nat_tests, count) in
    all_of (λ e. offered_name (set_seen c.args.self.now) c.args.number e.0) from.names c.loop-place.place
    c.args.names.now.items c.loop-place.names.items end c.loop-place.invariant
