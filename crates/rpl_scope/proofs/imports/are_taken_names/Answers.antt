use Rattle.std.proofs.Common.{Some, refl, sym, ap₂, ◌∙◌, arith}
use Rattle.std.specs.Prelude.{◌||◌}
use Rattle.rpl_scope.proofs.SharedNames.{stands}
use Rattle.rpl_scope.proofs.imports.are_taken_names.Goals as goal

pub loop-number-preserved : goal.loop-number-preserved
loop-number-preserved c =
    let l = c.loop-number in
    let r = c.index-rules-number.result in
    let at = sym c.in-Some.ensures.is
    ∙ ap₂ (λ n e. Some (n, e)) (c.if-is_taken_name.ensures.name refl) (c.if-is_taken_name.ensures.entry refl) in
    record {
      next = omega (arith, l.invariant.next);
      left = λ h. l.invariant.left (stands c.args.since c.args.owner c.args.rules.now l.number r c.loop-number-test.true
          c.index-rules-number.is c.args.names.now l.next
          (ap₂ (λ a b. a || b) c.if-rule.false c.if-rule-2.false) at h);
    }
