use Rattle.std.proofs.Common.{◌≡◌, ℕ, ◌<◌, subst, sym}
use Rattle.std.proofs.lemmas.List.{length-map}
use Rattle.std.specs.Prelude.{true}
use Rattle.std.proofs.lemmas.Result.{err_from_is_err_and}
use Rattle.rpl_core.specs.Programs.{calls}
use Rattle.rpl_core.specs.Table.{bodies_of}
use Rattle.rpl_core.specs.View.{core_of}
use Rattle.rpl_core.specs.declared.rules.Rule.{Rule}
use Rattle.rpl_check.specs.inside.Accepted.{IsAccepted}
use Rattle.rpl_core.specs.Marks.{marked}
use Rattle.rpl_facts.proofs.Exists.{facts_with}
use Rattle.rpl_check.proofs.Accepting.{whole_of}
use Rattle.rpl_check.proofs.checked.check_pattern.Goals as goal

pub returns-clause-exactly : goal.returns-clause-exactly
returns-clause-exactly c =
    let m = marked c.checked.inside.empties.items in
    let h = marked c.checked.inside.halting.items in
    let a = subst (λ x. IsAccepted (bodies_of x) m h) c.checked.view_is c.checked.invariant in (
      facts_with (bodies_of c.args.checked.now) a.calls m h a.empties a.halting,
      rw (c.deref.ensures.value, c.deref-2.ensures.value) at c.in_ok-check_goal.ensures.exactly,
    )

pub returns-in_err-check_goal-clause-exactly : goal.returns-in_err-check_goal-clause-exactly
returns-in_err-check_goal-clause-exactly c =
    let m = marked c.checked.inside.empties.items in
    let h = marked c.checked.inside.halting.items in
    let a = subst (λ x. IsAccepted (bodies_of x) m h) c.checked.view_is c.checked.invariant in
    let p = err_from_is_err_and c.from_residual.result c.from_residual.ensures.1 in (
      facts_with (bodies_of c.args.checked.now) a.calls m h a.empties a.halting,
      rw (p.1, p.2) (rw (c.deref.ensures.value, c.deref-2.ensures.value) at c.in_err-check_goal.ensures.exactly),
    )

pub returns-clause-whole : goal.returns-clause-whole
returns-clause-whole c =
    let m = marked c.checked.inside.empties.items in
    let h = marked c.checked.inside.halting.items in
    let a = subst (λ x. IsAccepted (bodies_of x) m h) c.checked.view_is c.checked.invariant in
    let g = core_of c.args.peg in
    let calls_in = subst (λ n. (r : ℕ) → calls g r ≡ true
    → r < n) (sym (length-map c.args.checked.now (λ (r : Rule). core_of r.body))) c.requires in
    whole_of (bodies_of c.args.checked.now) m h a g calls_in
    (rw (c.deref.ensures.value, c.deref-2.ensures.value) at c.in_ok-check_goal.ensures.exactly)
