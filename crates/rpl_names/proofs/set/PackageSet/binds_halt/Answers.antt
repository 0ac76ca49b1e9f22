use Rattle.std.proofs.Common.{rules, sym, ap, ◌∙◌}
use Rattle.std.specs.Prelude.{codes, slice_get}
use Rattle.std.proofs.lemmas.Str.{chars-IsAscii}
use Rattle.rpl_text.specs.Options.{◌>>=◌}
use Rattle.rpl_scope.specs.Packages.{first_of}
use Rattle.rpl_scope.specs.Seen.{module_seen, modules_seen}
use Rattle.rpl_names.specs.Targets as T
use Rattle.rpl_names.proofs.Numbering.{nth_seen}
use Rattle.rpl_names.proofs.set.PackageSet.binds_halt.Goals as goal

pub returns-in-Some : goal.returns-in-Some
returns-in-Some c =
    let i = c.args.self.now.top in
    let own = c.in-Some.own.now in
    let there = ap (λ l. slice_get (modules_seen l) i) (sym c.deref.ensures.value)
    ∙ nth_seen c.deref.result.now i own c.in-Some.ensures.lookup.3.0 c.in-Some.ensures.lookup.1 in
    c.binds.ensures
    ∙ ap T.binds (c.get_text.ensures
    ∙ ap (λ n. first_of n (module_seen own).names) (chars-IsAscii (codes "halt") (search rules)))
    ∙ sym (ap (λ o. T.binds (o >>= (λ m. first_of (codes "halt") m.names))) there)
