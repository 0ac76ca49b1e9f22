use Rattle.std.proofs.Common.{arith, ◌<◌, length}
use Rattle.std.proofs.lemmas.List.{length-map}
use Rattle.rpl_scope.specs.Seen.{module_seen}
use Rattle.rpl_names.proofs.Within.{within_at}
use Rattle.rpl_names.proofs.set.PackageSet.root_module.Goals as goal

pub returns-in-Some-Some-clause-within : goal.returns-in-Some-Some-clause-within
returns-in-Some-Some-clause-within c =
    let packages = c.args.self.now in
    let ms = packages.stock.modules.items in
    let found = c.in-Some-Some in
    let lookup = found.ensures.lookup in
    let inside : found.number < length ms =
    within_at packages.roots.items c.deref.result.now (length ms) c.args.root found.number found.field-0.now
    packages.within
    c.deref.ensures.value lookup.3.0 lookup.1 found.field-0-is in
    omega (arith, inside, length-map ms module_seen)
