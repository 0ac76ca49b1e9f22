use Rattle.std.proofs.Common.{◌≤◌, ◌++◌, Some, length, arith, refl, sym, ap, ◌∙◌}
use Rattle.std.specs.Prelude.{chars, slice_get}
use Rattle.std.specs.List.{flat_map}
use Rattle.std.proofs.lemmas.Bool.Decides.{nat_tests}
use Rattle.std.proofs.lemmas.List.{append-nil}
use Rattle.rpl_scope.specs.Seen.{module_seen, modules_seen}
use Rattle.rpl_names.specs.Names.{listed, names_of}
use Rattle.rpl_names.specs.Sets.{set_seen}
use Rattle.rpl_names.specs.inside.Listing.{named}
use Rattle.rpl_names.proofs.Listing.{done, more, passed_over}
use Rattle.rpl_names.proofs.Numbering.{nth_seen, seen_past}
use Rattle.rpl_names.proofs.set.PackageSet.push_behind.Goals as goal

pub returns-in_default : goal.returns-in_default
returns-in_default c =
    let p = set_seen c.args.self.now in
    let i = c.args.number in
    let none = ap (λ l. slice_get (modules_seen l) i) (sym c.deref.ensures.value)
    ∙ seen_past c.deref.result.now i c.in_default.ensures.lookup.3 in
    sym (ap (λ o. c.args.names.now.items ++ flat_map (listed p) (names_of (Some (chars c.args.prefix.now)) o)) none
    ∙ append-nil c.args.names.now.items)

pub returns : goal.returns
returns c =
    let p = set_seen c.args.self.now in
    let i = c.args.number in
    let from = module_seen c.in-Some.from.now in
    let count = c.len-place-end.ensures in
    let end : length from.names ≤ c.loop-place.place = grind (arith, nat_tests, count) in
    let there = ap (λ l. slice_get (modules_seen l) i) (sym c.deref.ensures.value)
    ∙ nth_seen c.deref.result.now i c.in-Some.from.now c.in-Some.ensures.lookup.3.0 c.in-Some.ensures.lookup.1 in
    done (listed p) (λ e. named (Some (chars c.args.prefix.now)) e.0) from.names c.loop-place.place
    c.args.names.now.items c.loop-place.names.items end c.loop-place.invariant
    ∙ ap (λ o. c.args.names.now.items ++ flat_map (listed p) (names_of (Some (chars c.args.prefix.now)) o)) (sym there)

pub loop-place-preserved : goal.loop-place-preserved
loop-place-preserved c =
    more (λ e. listed (set_seen c.args.self.now) (named (Some (chars c.args.prefix.now)) e.0))
    (module_seen c.in-Some.from.now).names c.loop-place.place _ c.args.names.now.items c.loop-place.names.items _
    (sym c.in-Some-at.ensures.is) c.loop-place.invariant c.in_ok-push_name.ensures

pub loop-place-preserved-then-is_taken_in : goal.loop-place-preserved-then-is_taken_in
loop-place-preserved-then-is_taken_in c =
    let p = set_seen c.args.self.now in
    let i = c.args.number in
    let from = module_seen c.in-Some.from.now in
    let taken = c.if-is_taken_in.ensures in
    let there = ap (λ l. slice_get (modules_seen l) i) (sym c.deref.ensures.value)
    ∙ nth_seen c.deref.result.now i c.in-Some.from.now c.in-Some.ensures.lookup.3.0 c.in-Some.ensures.lookup.1 in
    let none = passed_over p (chars c.args.prefix.now) i (chars c.in-Some-at.name.now) c.requires from
    c.in-Some-at.entry
    (taken.full refl) there c.in-Some-at.ensures.first (taken.foreign refl) in
    more (λ e. listed p (named (Some (chars c.args.prefix.now)) e.0)) from.names c.loop-place.place _
    c.args.names.now.items c.loop-place.names.items _ (sym c.in-Some-at.ensures.is) c.loop-place.invariant
    (sym (ap (λ l. c.loop-place.names.items ++ l) none ∙ append-nil c.loop-place.names.items))
