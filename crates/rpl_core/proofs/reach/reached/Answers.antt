use Rattle.std.proofs.Common.{◌≡◌, ◌∙◌, sym, length, ⊎_elim, arith}
use Rattle.std.proofs.lemmas.Bool.{cases_lt}
use Rattle.std.proofs.lemmas.List.{get_or_past, length-map}
use Rattle.std.specs.Prelude.{false}
use Rattle.rpl_core.specs.Listed.{rules_of}
use Rattle.rpl_core.specs.Table.{bodies_of}
use Rattle.rpl_core.specs.View.{core_of}
use Rattle.rpl_core.specs.declared.rules.Rule.{Rule}
use Rattle.rpl_core.proofs.Search.{within}
use Rattle.rpl_core.proofs.reach.reached.Goals as goal

pub returns : goal.returns
returns c =
    let rules = rules_of c.args.rules.now in
    let R = bodies_of rules in
    let g = core_of c.args.goal.now in
    let marks = c.loop-number.marks.items in
    let inv = c.loop-number.invariant in
    let many : length marks ≡ length R =
    omega (arith, inv.0, c.len-number-end.ensures.count, length-map rules (λ (r : Rule). core_of r.body)) in
    record {
      long = many;
      exact = λ r. (
        (λ on. ⊎_elim (λ lt. (c.in_ok-found.ensures r).0 (sym (inv.1 r lt) ∙ on))
            (λ le. let off = get_or_past marks r false (omega (arith, inv.0, le)) in
            absurd (cc)) (cases_lt r c.loop-number.number)),
        (λ reaches. inv.1 r (let lt = within R g c.requires r reaches in omega (arith, inv.0, many, lt))
            ∙ (c.in_ok-found.ensures r).1 reaches),
      );
    }
