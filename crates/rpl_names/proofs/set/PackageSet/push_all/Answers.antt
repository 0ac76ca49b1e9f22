use Rattle.std.proofs.Common.{◌≤◌, ◌++◌, Some, None, length, append_assoc, arith, sym, ap, ◌∙◌}
use Rattle.std.specs.List.{flat_map}
use Rattle.std.proofs.lemmas.Bool.Decides.{nat_tests}
use Rattle.std.proofs.lemmas.List.Concat.{flat_map-append}
use Rattle.std.specs.Prelude.{slice_get}
use Rattle.rpl_scope.specs.Seen.{module_seen}
use Rattle.rpl_names.specs.Names.{listed, names_of}
use Rattle.rpl_names.specs.Sets.{set_seen}
use Rattle.rpl_names.proofs.Listing.{done_each, more}
use Rattle.rpl_names.proofs.set.PackageSet.push_all.Goals as goal

pub loop-number-preserved : goal.loop-number-preserved
loop-number-preserved c =
    let p = set_seen c.args.self.now in
    let m = module_seen c.args.own.now in
    more (λ e. flat_map (listed p) (names_of (Some e.0) (slice_get p.stock.modules e.1.number))) m.prefixes
    c.loop-number.number _
    (c.args.names.now.items ++ flat_map (listed p) (names_of None (Some m))) c.loop-number.names.items _
    (sym c.in-Some.ensures.is) c.loop-number.invariant c.in_ok-push_behind.ensures

pub returns : goal.returns
returns c =
    let p = set_seen c.args.self.now in
    let m = module_seen c.args.own.now in
    let count = c.len-number-end.ensures in
    let end : length m.prefixes ≤ c.loop-number.number = grind (arith, nat_tests, count) in
    let plain = flat_map (listed p) (names_of None (Some m)) in
    let below = flat_map (λ e. names_of (Some e.0) (slice_get p.stock.modules e.1.number)) m.prefixes in
    done_each (listed p) (λ e. names_of (Some e.0) (slice_get p.stock.modules e.1.number)) m.prefixes
    c.loop-number.number
    (c.args.names.now.items ++ plain) c.loop-number.names.items end c.loop-number.invariant
    ∙ append_assoc c.args.names.now.items plain (flat_map (listed p) below)
    ∙ ap (λ l. c.args.names.now.items ++ l) (sym (flat_map-append (listed p) (names_of None (Some m)) below))
