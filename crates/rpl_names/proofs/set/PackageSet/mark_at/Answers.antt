use Rattle.std.proofs.Common.{rules, sym, ap, ap₂, ◌∙◌}
use Rattle.std.specs.Prelude.{codes, slice_get}
use Rattle.std.proofs.lemmas.Str.{chars-IsAscii}
use Rattle.rpl_scope.specs.Packages.{first_of, plain}
use Rattle.rpl_scope.specs.Seen.{module_seen, modules_seen}
use Rattle.rpl_names.specs.Targets as T
use Rattle.rpl_names.proofs.Numbering.{nth_seen}
use Rattle.rpl_names.proofs.set.PackageSet.mark_at.Goals as goal

pub returns-in-Some : goal.returns-in-Some
returns-in-Some c =
    let i = c.args.site.owner in
    let start = c.args.site.start in
    let own = c.in-Some.own.now in
    let ms = modules_seen c.args.self.now.stock.modules.items in
    let there = ap (λ l. slice_get (modules_seen l) i) (sym c.deref.ensures.value)
    ∙ nth_seen c.deref.result.now i own c.in-Some.ensures.lookup.3.0 c.in-Some.ensures.lookup.1 in
    let tilde = chars-IsAscii (codes "~") (search rules) in
    c.target_of.ensures
    ∙ ap₂ (λ l f. T.target (modules_seen l) i f) c.deref-in-Some.ensures.value
    (c.find_plain-found.ensures ∙ ap (λ n. plain n start (first_of n (module_seen own).names)) tilde)
    ∙ sym (ap (T.resolved_in ms i start T.boundary_mark) there)
