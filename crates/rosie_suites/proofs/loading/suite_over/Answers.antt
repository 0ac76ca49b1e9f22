use Rattle.std.proofs.Common.{◌≡◌, ◌<◌, ℕ, List, [], ◌∷◌, length, Option, Some, None, refl, sym, ap, subst, ◌∙◌, arith}
use Rattle.std.specs.Prelude.{Ok, chars, map, slice_get, unwrap_or}
use Rattle.rpl_text.specs.Options.{◌>>=◌}
use Rattle.rosie_prepare.specs.Prepared.{bodies}
use Rattle.rosie_prepare.proofs.Passing.{bodies_rows_of, due_through, own_through}
use Rattle.rpl_core.specs.Table.{bodies_of}
use Rattle.rpl_expand.specs.Sets.{table_of}
use Rattle.rpl_expand.proofs.Lists.{nth_found}
use Rattle.rpl_names.specs.Owned.{own, package_name, root_module}
use Rattle.rpl_names.specs.Sets.{set_seen}
use Rattle.rpl_names.specs.Views.{text_found}
use Rattle.rosie_suites.specs.Seen.{suite_of}
use Rattle.rosie_suites.specs.Suites.{AreTrials}
use Rattle.rosie_suites.specs.Tried.{trial_of}
use Rattle.rosie_suites.proofs.Loads.{again_tells, bench_with, refused_due, refused_own, tests_due}
use Rattle.rosie_suites.proofs.loading.suite_over.Goals as goal

pub returns-clause-prepares : goal.returns-clause-prepares
returns-clause-prepares c = λ r h.
    let p = set_seen c.args.ready.packages in
    let rules = c.args.ready.rules in
    let m = c.in-Some.number in
    let name = chars c.in-Some-package.name.now in
    let made = c.in_ok-trials.trials in
    let trials = map (trial_of (bodies_of rules)) made.items in
    let same : bodies (table_of p) ≡ bodies_of rules = sym (ap bodies c.requires.rows) ∙ bodies_rows_of rules in
    let tells =
    again_tells p c.args.file c.args.budget c.args.text.now r m name (sym c.in-Some.ensures.gives)
    (sym c.in-Some-package.ensures) h in
    tests_due p m (bench_with c.args.file c.args.budget name) c.args.text.now r c.in_ok-tests.tests trials
    c.in_ok-tests.ensures.tests
    (λ due is. c.in_ok-trials.ensures.trials due (subst (λ R. AreTrials R (own p m) c.in_ok-tests.tests due) same is))
    tells
    ∙ ap (λ x. Ok (record { bench = bench_with c.args.file c.args.budget x; trials = trials }))
    (sym c.in_ok-prefix.ensures)

pub returns-in_err-tests-clause-prepares : goal.returns-in_err-tests-clause-prepares
returns-in_err-tests-clause-prepares c = λ r h.
    let p = set_seen c.args.ready.packages in
    let m = c.in-Some.number in
    let name = chars c.in-Some-package.name.now in
    let u = c.in_err-tests.field-0.0 in
    due_through suite_of c.from_residual-in_err-tests.result u r c.from_residual-in_err-tests.ensures.1
    (refused_due p m c.args.file c.args.budget name c.args.text.now r u c.in_err-tests.ensures.bad
    (again_tells p c.args.file c.args.budget c.args.text.now r m name (sym c.in-Some.ensures.gives)
    (sym c.in-Some-package.ensures) h))

pub returns-in_err-tests-clause-own : goal.returns-in_err-tests-clause-own
returns-in_err-tests-clause-own c =
    let u = c.in_err-tests.field-0.0 in
    own_through c.from_residual-in_err-tests.result u c.from_residual-in_err-tests.ensures.1
    (refused_own c.args.file c.args.text.now u c.in_err-tests.ensures.bad)

first_there : (roots : List (Option ℕ)) → 0 < length roots → (o : Option ℕ) × (slice_get roots 0 ≡ Some o)
first_there [] h = absurd (omega (arith, h))
first_there (o ∷ os) h = (o, refl)

-- the root has a module
pub unreachable-requires : goal.unreachable-requires
unreachable-requires c =
    let p = set_seen c.args.ready.packages in
    let f = first_there p.roots c.requires.root in
    let some : root_module p 0 ≡ Some (unwrap_or f.0 p.top) = ap (λ o. o >>= (λ x. Some (unwrap_or x p.top))) f.1 in
    let none : root_module p 0 ≡ None = sym c.root_module.ensures.gives ∙ c.in_default.is in
    let e : None ≡ Some (unwrap_or f.0 p.top) = sym none ∙ some in cc

-- which is one of the packages
pub unreachable-requires-in_default-package : goal.unreachable-requires-in_default-package
unreachable-requires-in_default-package c =
    let p = set_seen c.args.ready.packages in
    let m = nth_found p.stock.modules c.in-Some.number c.in-Some.ensures.within in
    let some : package_name p c.in-Some.number ≡ Some m.0.label = ap (λ o. o >>= (λ x. Some x.label)) m.1 in
    let none : package_name p c.in-Some.number ≡ None = sym c.package.ensures ∙ ap text_found c.in_default-package.is in
    let e : None ≡ Some m.0.label = sym none ∙ some in cc
