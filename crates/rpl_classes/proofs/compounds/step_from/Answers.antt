use Rattle.std.proofs.Common.{Some, ◌∙◌, sym, refl, arith}
use Rattle.rpl_classes.specs.inside.Stack.{left_set}
use Rattle.rpl_classes.proofs.Readings.{operator_goes}
use Rattle.std.specs.Prelude.{chars}
use Rattle.rpl_classes.proofs.Stacks.{grown, step_member, step_closes, step_bad, step_operator, accept_some}
use Rattle.rpl_classes.proofs.Stacks.{accept_none}
use Rattle.rpl_classes.proofs.compounds.step_from.Goals as goal

pub returns-then-is_some : goal.returns-then-is_some
returns-then-is_some c =
    let t = chars c.args.text.now in
    let w = c.in_ok-negated.field-0 in
    let g = grown c.args.compound w c.args.set c.in_ok-negated.ensures.negated c.in_ok-negated.ensures.before
    c.in_ok-negated.ensures.union in
    let b = accept_some t c.skip_blanks-here.result 91 c.accept.result c.accept.ensures (sym c.is_some.ensures
    ∙ c.if-is_some.true) in (
      step_member t c.args.at c.skip_blanks-here.result c.args.compound w c.args.set g c.skip_blanks-here.ensures.left
          b,
      c.skip_blanks-here.ensures.next,
      c.skip_blanks-here.ensures.forward,
    )

pub returns-in-Some : goal.returns-in-Some
returns-in-Some c =
    let t = chars c.args.text.now in
    let h = c.skip_blanks-here.result in
    let w = c.in_ok-negated.field-0 in
    let g = grown c.args.compound w c.args.set c.in_ok-negated.ensures.negated c.in_ok-negated.ensures.before
    c.in_ok-negated.ensures.union in
    let n = accept_none t h 91 c.accept.result c.accept.ensures (sym c.is_some.ensures ∙ c.if-is_some.false) in
    let r = c.in-Some.ensures in (
      step_closes t c.args.at h c.in-Some.next c.args.compound w c.args.set c.in_ok-signed_set.field-0 c.in_ok-set.set _
          g c.skip_blanks-here.ensures.left n r.0 r.1.left c.in_ok-left.ensures c.in_ok-set.ensures
          c.in_ok-signed_set.ensures,
      r.1.next,
      omega (arith, c.skip_blanks-here.ensures.forward, r.1.forward),
    )

pub returns-in_default-operator_at : goal.returns-in_default-operator_at
returns-in_default-operator_at c =
    let t = chars c.args.text.now in
    let h = c.skip_blanks-here.result in
    let w = c.in_ok-negated.field-0 in
    let g = grown c.args.compound w c.args.set c.in_ok-negated.ensures.negated c.in_ok-negated.ensures.before
    c.in_ok-negated.ensures.union in
    let n = accept_none t h 91 c.accept.result c.accept.ensures (sym c.is_some.ensures ∙ c.if-is_some.false) in
    λ _. step_bad t c.args.at h c.args.compound w c.args.set g c.skip_blanks-here.ensures.left n c.in_default.ensures
    c.in_default-operator_at.ensures

pub returns : goal.returns
returns c =
    let t = chars c.args.text.now in
    let h = c.skip_blanks-here.result in
    let w = c.in_ok-negated.field-0 in
    let g = grown c.args.compound w c.args.set c.in_ok-negated.ensures.negated c.in_ok-negated.ensures.before
    c.in_ok-negated.ensures.union in
    let n = accept_none t h 91 c.accept.result c.accept.ensures (sym c.is_some.ensures ∙ c.if-is_some.false) in
    let o = c.in-Some-operator_at in
    let go = operator_goes t h o.next o.operator o.ensures in (
      step_operator t c.args.at h o.next c.skip_blanks.result o.operator c.args.compound w (record {
        negated =
            w.negated;
        before = Some (record { operator = o.operator; left = c.in_ok-left.left });
        union = c.new.result;
      })
          c.args.set (left_set c.in_ok-left.left) g c.skip_blanks-here.ensures.left n c.in_default.ensures o.ensures
          c.skip_blanks.ensures.left c.in_ok-left.ensures refl refl c.new.ensures,
      c.skip_blanks.ensures.next,
      omega (arith, c.skip_blanks-here.ensures.forward, go.1, c.skip_blanks.ensures.forward),
    )
