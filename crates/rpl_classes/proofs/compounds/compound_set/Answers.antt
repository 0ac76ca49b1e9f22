use Rattle.std.proofs.Common.{◌+◌, [], ◌∷◌, ◌++◌, Ok, ap, subst, ◌∙◌, sym, arith}
use Rattle.std.specs.Prelude.{chars, false}
use Rattle.rpl_classes.specs.Symbols.{symbols_from}
use Rattle.rpl_classes.specs.Laws.{reading}
use Rattle.rpl_classes.specs.inside.Stack.{resume, Begins, GoesBehind}
use Rattle.rpl_classes.proofs.Readings.{size_place}
use Rattle.rpl_classes.proofs.Stacks.{popped_push, resume_err, frame_begins, gives_set_err}
use Rattle.rpl_classes.proofs.compounds.compound_set.Goals as goal

pub loop-stack-init : goal.loop-stack-init
loop-stack-init c =
    let t = chars c.args.text.now in
    let e = c.in_ok-push.ensures.items ∙ ap (λ l. l ++ c.new.result ∷ []) c.new-stack.ensures.items in
    record {
      here = c.requires;
      same = frame_begins t c.args.place c.new.result false c.new.ensures.negated c.new.ensures.before
          c.new.ensures.union ∙ sym (ap (λ l. resume l (reading (symbols_from t c.args.place))) e);
    }

pub returns-in_err-negated : goal.returns-in_err-negated
returns-in_err-negated c =
    let k = c.loop-stack.stack.items in
    gives_set_err (chars c.args.text.now) _ c.from_residual-in_err-negated.result c.in_err-negated.field-0.0
    c.from_residual-in_err-negated.ensures.1
    (λ n. c.loop-stack.invariant.same
    ∙ (ap (resume k) (c.in_err-negated.ensures n) ∙ resume_err k c.in_err-negated.field-0.0))

pub loop-stack-smaller-in-Compound : goal.loop-stack-smaller-in-Compound
loop-stack-smaller-in-Compound c =
    let t = chars c.args.text.now in
    let b = subst (λ x. Begins t (c.loop-stack.at + 1) (reading (symbols_from t c.loop-stack.at)) (Ok x))
    c.in-Compound.is c.in_ok-negated.ensures in
    omega (arith, b.2, size_place t c.in-Compound.first b.1)

pub loop-stack-preserved-in-Compound : goal.loop-stack-preserved-in-Compound
loop-stack-preserved-in-Compound c =
    let t = chars c.args.text.now in
    let k = c.loop-stack.stack.items in
    let o = c.new-in-Compound.result in
    let n = reading (symbols_from t c.in-Compound.first) in
    let b = subst (λ x. Begins t (c.loop-stack.at + 1) (reading (symbols_from t c.loop-stack.at)) (Ok x))
    c.in-Compound.is c.in_ok-negated.ensures in
    let e = c.new-in-Compound.ensures in
    record {
      here = b.1;
      same = c.loop-stack.invariant.same
          ∙ (ap (resume k) (b.0 ∙ frame_begins t c.in-Compound.first o c.in-Compound.negated e.negated e.before e.union)
          ∙ sym (popped_push c.push-in-Compound.new.self.items o k n c.in_ok-push-in-Compound.ensures.items));
    }

pub loop-stack-smaller : goal.loop-stack-smaller
loop-stack-smaller c =
    let t = chars c.args.text.now in
    let b = subst (λ x. Begins t (c.loop-stack.at + 1) (reading (symbols_from t c.loop-stack.at)) (Ok x)) c.in-Whole.is
    c.in_ok-negated.ensures in
    let r = resume c.loop-stack.stack.items (Ok (c.in-Whole.set, symbols_from t c.in-Whole.end)) in
    let n = subst (λ x. GoesBehind t c.in-Whole.end r c.go_on.new.stack.items (Ok x)) c.in-Bracket.is
    c.in_ok-next-in-Whole.ensures in
    omega (arith, b.2, n.2, size_place t c.in-Bracket.next n.1)
