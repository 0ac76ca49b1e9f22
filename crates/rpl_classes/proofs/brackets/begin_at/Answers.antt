use Rattle.std.proofs.Common.{◌+◌, ◌∙◌, arith}
use Rattle.std.specs.Prelude.{chars}
use Rattle.rpl_classes.proofs.Readings.{bracket_none, bracket_class, bracket_plain, bracket_marked}
use Rattle.rpl_classes.proofs.Stacks.{begins_as, begins_err}
use Rattle.rpl_classes.proofs.brackets.begin_at.Goals as goal

pub returns-in_default : goal.returns-in_default
returns-in_default c = λ _. bracket_none (chars c.args.text.now) c.args.place c.in_default.ensures

pub returns-in_err-set : goal.returns-in_err-set
returns-in_err-set c =
    let t = chars c.args.text.now in
    let a = c.in-Some.ensures in
    begins_err t (c.args.place + 1) _ c.from_residual.result c.in_err-set.field-0.0 c.from_residual.ensures.1
    (λ n. bracket_class t c.args.place c.in-Some.inside a.0 a.1.left c.in-Some-class_at.ensures.is
    ∙ c.in_err-set.ensures n)

pub returns-in-Some-class_at : goal.returns-in-Some-class_at
returns-in-Some-class_at c =
    let t = chars c.args.text.now in
    let a = c.in-Some.ensures in
    let f = c.in-Some-class_at.ensures in (
      bracket_class t c.args.place c.in-Some.inside a.0 a.1.left f.is
          ∙ c.in_ok-set.ensures,
      f.name.behind.next,
      omega (arith, a.1.forward, f.behind, f.name.behind.forward),
    )

pub returns-in_default-accept : goal.returns-in_default-accept
returns-in_default-accept c =
    let t = chars c.args.text.now in
    let a = c.in-Some.ensures in
    begins_as t c.in-Some.inside (c.args.place + 1) _ _ c.content_at.result
    (bracket_plain t c.args.place c.in-Some.inside a.0 a.1.left c.in_default-class_at.ensures
    c.in_default-accept.ensures) (omega (arith, a.1.forward)) c.content_at.ensures.value

pub returns : goal.returns
returns c =
    let t = chars c.args.text.now in
    let a = c.in-Some.ensures in
    let b = c.in-Some-accept.ensures in
    begins_as t c.in-Some-accept.behind (c.args.place + 1) _ _ c.content_at-2.result
    (bracket_marked t c.args.place c.in-Some.inside c.in-Some-accept.behind a.0 a.1.left c.in_default-class_at.ensures
    b.0 b.1.left) (omega (arith, a.1.forward, b.1.forward)) c.content_at-2.ensures.value
