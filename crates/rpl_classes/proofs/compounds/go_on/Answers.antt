use Rattle.std.proofs.Common.{Ok, ap, subst, ◌∙◌, sym, arith}
use Rattle.std.specs.Prelude.{chars}
use Rattle.rpl_classes.specs.Symbols.{symbols_from}
use Rattle.rpl_classes.specs.Laws.{reading}
use Rattle.rpl_classes.specs.inside.Stack.{resume, framed, Steps}
use Rattle.rpl_classes.proofs.Stacks.{popped_push, resume_err, behind_err}
use Rattle.rpl_classes.proofs.compounds.go_on.Goals as goal

pub returns-in_err-compound : goal.returns-in_err-compound
returns-in_err-compound c =
    let t = chars c.args.text.now in
    let i = c.loop-last.invariant in
    let k = c.pop.new.self.items in
    behind_err t c.args.end _ k c.from_residual.result c.in_err-compound.field-0.0 c.from_residual.ensures.1
    (λ n. i.same ∙ (popped_push c.loop-last.stack.items c.in-Some.last k
    (Ok (c.loop-last.set, symbols_from t c.loop-last.at)) c.in-Some.ensures.items
    ∙ (ap (resume k) (c.in_err-compound.ensures n) ∙ resume_err k c.in_err-compound.field-0.0)))

pub returns-in-Member : goal.returns-in-Member
returns-in-Member c =
    let t = chars c.args.text.now in
    let i = c.loop-last.invariant in
    let k = c.pop.new.self.items in
    let r = framed c.in-Some.last (Ok (c.loop-last.set, symbols_from t c.loop-last.at)) in
    let step = subst (λ s. Steps t c.loop-last.at r (Ok s)) c.in-Member.is c.in_ok-compound.ensures in
    let next = reading (symbols_from t c.in-Member.next) in (
      i.same ∙ (popped_push c.loop-last.stack.items c.in-Some.last k
          (Ok (c.loop-last.set, symbols_from t c.loop-last.at)) c.in-Some.ensures.items
          ∙ (ap (resume k) step.0
          ∙ sym (popped_push c.push.new.self.items c.in-Member.compound k next
          c.in_ok-push-in-Member.ensures.items))),
      step.1,
      omega (arith, i.forward, step.2),
    )

pub loop-last-preserved : goal.loop-last-preserved
loop-last-preserved c =
    let t = chars c.args.text.now in
    let i = c.loop-last.invariant in
    let k = c.pop.new.self.items in
    let r = framed c.in-Some.last (Ok (c.loop-last.set, symbols_from t c.loop-last.at)) in
    let step = subst (λ s. Steps t c.loop-last.at r (Ok s)) c.in-Closed.is c.in_ok-compound.ensures in
    record {
      here = step.1;
      forward = omega (arith, i.forward, step.2);
      same = i.same ∙ (popped_push c.loop-last.stack.items c.in-Some.last k
          (Ok (c.loop-last.set, symbols_from t c.loop-last.at)) c.in-Some.ensures.items ∙ ap (resume k) step.0);
    }
