use Rattle.std.proofs.Common.{◌≡◌, List, false, refl, sym, ap, subst, ◌∙◌}
use Rattle.std.specs.Prelude.{IfOk}
use Rattle.std.proofs.lemmas.Result.{IfOk-weaker}
use Rattle.rpl_core.specs.Core as C
use Rattle.rpl_core.specs.Core.{Core}
use Rattle.rpl_core.specs.Listed.{rules_of}
use Rattle.rpl_core.specs.Meaning as M
use Rattle.rpl_core.specs.Table.{bodies_of}
use Rattle.rpl_core.specs.View.{core_of, cores}
use Rattle.rpl_core.specs.declared.peg.Peg.{Peg}
use Rattle.rpl_core.proofs.Rows.{seq_view, choice_view}
use Rattle.rpl_text.specs.Places.{index}
use Rattle.rpl_text.specs.Seen.{text_of}
use Rattle.rpl_trace.specs.Evaluations.{ending}
use Rattle.rpl_trace.specs.inside.Levels.{is_alone}
use Rattle.std.specs.Borrow.{Bor}
use Rattle.rpl_trace.specs.inside.Steps.{Enters, due, happened, state_of}
use Rattle.rpl_trace.specs.declared.event.Event.TheVariants as V
use Rattle.rpl_trace.specs.declared.event.Kind.TheVariants as K
use Rattle.rpl_trace.specs.declared.task.Task.TheVariants as T
use Rattle.rpl_trace.specs.declared.event.End.TheVariants as E
use Rattle.rpl_trace.proofs.Walks.{start_same, end_same}
use Rattle.rpl_trace.proofs.Entering as I
use Rattle.rpl_trace.proofs.tracer.Tracer.enter.Goals as goal

pub returns-in-Set : goal.returns-in-Set
returns-in-Set c =
    let R = bodies_of (rules_of c.args.rules.now) in
    let x = text_of c.args.text in
    let old = state_of c.args.self.now in
    let new = state_of c.close.new.self in
    let place = c.args.place in
    let P : Core → Type 0 = λ p. IfOk c.close.result (λ e. Enters R x p place old e new) in
    subst P (sym (ap core_of c.in-Set.is))
    (IfOk-weaker c.close.result _ _ (λ e h. I.leaf_in R x (C.Set c.in-Set.set) place old c.one_char.result e new
    (λ n. c.one_char.ensures.end) (λ n. refl) c.one_char.ensures.stands c.requires.stands h.0 h.1) c.close.ensures)

pub returns-in-Seq : goal.returns-in-Seq
returns-in-Seq c =
    let R = bodies_of (rules_of c.args.rules.now) in
    let x = text_of c.args.text in
    let old = state_of c.args.self.now in
    let new = state_of c.within.new.self in
    let place = c.args.place in
    let P : Core → Type 0 = λ p. IfOk c.within.result (λ e. Enters R x p place old e new) in
    subst P (sym (ap core_of c.in-Seq.is ∙ seq_view c.in-Seq.parts))
    (let D : List Peg → Type 0 = λ ps. P (C.Seq (cores ps)) in
    subst D c.as_slice.ensures
    (IfOk-weaker c.within.result _ _ (λ e h. I.parts_in R x place old e new c.as_slice.result c.requires.place
    c.requires.stands h.0 h.1) c.within.ensures))

pub returns-in-Choice : goal.returns-in-Choice
returns-in-Choice c =
    let R = bodies_of (rules_of c.args.rules.now) in
    let x = text_of c.args.text in
    let old = state_of c.args.self.now in
    let new = state_of c.choose.new.self in
    let place = c.args.place in
    let P : Core → Type 0 = λ p. IfOk c.choose.result (λ e. Enters R x p place old e new) in
    subst P (sym (ap core_of c.in-Choice.is ∙ choice_view c.in-Choice.parts))
    (let D : List Peg → Type 0 = λ ps. P (C.Choice (cores ps)) in
    let N : Core → Type 0 = λ p. is_alone p ≡ false in
    let A : List Peg → Type 0 = λ ps. is_alone (C.Choice (cores ps)) ≡ false in
    let ne = subst A (sym c.as_slice-in-Choice.ensures) (subst N (ap core_of c.in-Choice.is
    ∙ choice_view c.in-Choice.parts) c.requires.more) in
    subst D c.as_slice-in-Choice.ensures
    (IfOk-weaker c.choose.result _ _ (λ e h. I.ways_in R x c.as_slice-in-Choice.result.now place old e new ne
    c.requires.place c.requires.stands h) c.choose.ensures))

pub returns-in_ok-push-in-Many : goal.returns-in_ok-push-in-Many
returns-in_ok-push-in-Many c =
    let R = bodies_of (rules_of c.args.rules.now) in
    let x = text_of c.args.text in
    let old = state_of c.args.self.now in
    let new = state_of c.turn.new.self in
    let place = c.args.place in
    let P : Core → Type 0 = λ p. IfOk c.turn.result (λ e. Enters R x p place old e new) in
    subst P (sym (ap core_of c.in-Many.is))
    (let D : Peg → Type 0 = λ b. P (C.Many (core_of b)) in
    subst D c.deref.ensures
    (IfOk-weaker c.turn.result _ _ (λ e h. I.turns_in R x place old e new c.deref.result c.requires.place
    c.requires.stands h.0 (h.1
    ∙ ap (λ s. due (T.Evaluate c.deref.result)
    (due (T.Turns c.deref.result place) (happened (V.Begins K.Turn place) s))) c.in_ok-push-in-Many.ensures))
    c.turn.ensures))

pub returns-in-Not : goal.returns-in-Not
returns-in-Not c =
    let R = bodies_of (rules_of c.args.rules.now) in
    let x = text_of c.args.text in
    let old = state_of c.args.self.now in
    let new = state_of c.nest.new.self in
    let place = c.args.place in
    let P : Core → Type 0 = λ p. IfOk c.nest.result (λ e. Enters R x p place old e new) in
    subst P (sym (ap core_of c.in-Not.is))
    (let D : Peg → Type 0 = λ b. P (C.Not (core_of b)) in
    subst D c.deref-in-Not.ensures
    (IfOk-weaker c.nest.result _ _ (λ e h. I.not_in R x place old e new c.deref-in-Not.result c.requires.place
    c.requires.stands h.0 h.1) c.nest.ensures))

pub returns-in-And : goal.returns-in-And
returns-in-And c =
    let R = bodies_of (rules_of c.args.rules.now) in
    let x = text_of c.args.text in
    let old = state_of c.args.self.now in
    let new = state_of c.nest-in-And.new.self in
    let place = c.args.place in
    let P : Core → Type 0 = λ p. IfOk c.nest-in-And.result (λ e. Enters R x p place old e new) in
    subst P (sym (ap core_of c.in-And.is))
    (let D : Peg → Type 0 = λ b. P (C.And (core_of b)) in
    subst D c.deref-in-And.ensures
    (IfOk-weaker c.nest-in-And.result _ _ (λ e h. I.and_in R x place old e new c.deref-in-And.result c.requires.place
    c.requires.stands h.0 h.1) c.nest-in-And.ensures))

pub returns-in-Behind : goal.returns-in-Behind
returns-in-Behind c =
    let R = bodies_of (rules_of c.args.rules.now) in
    let x = text_of c.args.text in
    let old = state_of c.args.self.now in
    let new = state_of c.within-in-Behind.new.self in
    let place = c.args.place in
    let P : Core → Type 0 = λ p. IfOk c.within-in-Behind.result (λ e. Enters R x p place old e new) in
    let l = c.lengths_of-lengths.result in
    let h = c.lengths_of-lengths.ensures in
    let D : Bor Peg → Type 0 = λ b. P (C.Behind c.in-Behind.least c.in-Behind.most (core_of b.now)) in
    let B : Peg → Type 0 = λ b. P (C.Behind c.in-Behind.least c.in-Behind.most (core_of b)) in
    subst P (sym (ap core_of c.in-Behind.is))
    (subst B c.deref-in-Behind.ensures
    (subst D h.body
    (IfOk-weaker c.within-in-Behind.result _ _ (λ e k. I.lengths_in R x c.in-Behind.least c.in-Behind.most place old e
    new l h.length h.count h.place h.small c.requires.place c.requires.stands k.0 k.1) c.within-in-Behind.ensures)))

pub returns-in-Call : goal.returns-in-Call
returns-in-Call c =
    let R = bodies_of (rules_of c.args.rules.now) in
    let x = text_of c.args.text in
    let old = state_of c.args.self.now in
    let new = state_of c.call.new.self in
    let place = c.args.place in
    let P : Core → Type 0 = λ p. IfOk c.call.result (λ e. Enters R x p place old e new) in
    subst P (sym (ap core_of c.in-Call.is))
    (IfOk-weaker c.call.result _ _ (λ e h. I.rule_in R x c.in-Call.rule place old e new c.requires.place
    c.requires.stands h) c.call.ensures)

pub returns-in-Capture : goal.returns-in-Capture
returns-in-Capture c =
    let R = bodies_of (rules_of c.args.rules.now) in
    let x = text_of c.args.text in
    let old = state_of c.args.self.now in
    let new = state_of c.within-in-Capture.new.self in
    let place = c.args.place in
    let P : Core → Type 0 = λ p. IfOk c.within-in-Capture.result (λ e. Enters R x p place old e new) in
    subst P (sym (ap core_of c.in-Capture.is))
    (let D : Peg → Type 0 = λ b. P (C.Capture c.in-Capture.field-0 (core_of b)) in
    subst D c.deref-in-Capture.ensures
    (IfOk-weaker c.within-in-Capture.result _ _ (λ e h. I.capture_in R x c.in-Capture.field-0 place old e new
    c.deref-in-Capture.result c.requires.place c.requires.stands h.0 h.1) c.within-in-Capture.ensures))

pub returns-in-Note : goal.returns-in-Note
returns-in-Note c =
    let R = bodies_of (rules_of c.args.rules.now) in
    let x = text_of c.args.text in
    let old = state_of c.args.self.now in
    let new = state_of c.close-in-Note.new.self in
    let place = c.args.place in
    let P : Core → Type 0 = λ p. IfOk c.close-in-Note.result (λ e. Enters R x p place old e new) in
    subst P (sym (ap core_of c.in-Note.is))
    (IfOk-weaker c.close-in-Note.result _ _ (λ e h. I.leaf_in R x (C.Note _) place old (E.At place) e new (λ n. refl)
    (λ n. refl) c.requires.place c.requires.stands h.0 h.1) c.close-in-Note.ensures)

pub returns-in-Start : goal.returns-in-Start
returns-in-Start c =
    let R = bodies_of (rules_of c.args.rules.now) in
    let x = text_of c.args.text in
    let old = state_of c.args.self.now in
    let new = state_of c.close-in-Start.new.self in
    let place = c.args.place in
    let P : Core → Type 0 = λ p. IfOk c.close-in-Start.result (λ e. Enters R x p place old e new) in
    subst P (sym (ap core_of c.in-Start.is))
    (IfOk-weaker c.close-in-Start.result _ _ (λ e h. I.leaf_in R x C.Start place old c.only_if.result e new
    (λ n. c.only_if.ensures.end x
    ∙ ap (λ b. ending (M.only_if b (index x place))) (start_same x place c.requires.place)) (λ n. refl)
    (c.only_if.ensures.stands x c.requires.place) c.requires.stands h.0 h.1) c.close-in-Start.ensures)

pub returns-in-End : goal.returns-in-End
returns-in-End c =
    let R = bodies_of (rules_of c.args.rules.now) in
    let x = text_of c.args.text in
    let old = state_of c.args.self.now in
    let new = state_of c.close-in-End.new.self in
    let place = c.args.place in
    let P : Core → Type 0 = λ p. IfOk c.close-in-End.result (λ e. Enters R x p place old e new) in
    subst P (sym (ap core_of c.in-End.is))
    (IfOk-weaker c.close-in-End.result _ _ (λ e h. I.leaf_in R x C.End place old c.only_if-in-End.result e new
    (λ n. c.only_if-in-End.ensures.end x
    ∙ ap (λ b. ending (M.only_if b (index x place))) (end_same x place c.len.result c.requires.place c.len.ensures))
    (λ n. refl) (c.only_if-in-End.ensures.stands x c.requires.place) c.requires.stands h.0 h.1)
    c.close-in-End.ensures)

pub returns-in-Halt : goal.returns-in-Halt
returns-in-Halt c =
    let R = bodies_of (rules_of c.args.rules.now) in
    let x = text_of c.args.text in
    let old = state_of c.args.self.now in
    let new = state_of c.close-in-Halt.new.self in
    let place = c.args.place in
    let P : Core → Type 0 = λ p. IfOk c.close-in-Halt.result (λ e. Enters R x p place old e new) in
    subst P (sym (ap core_of c.in-Halt.is))
    (IfOk-weaker c.close-in-Halt.result _ _ (λ e h. I.leaf_in R x C.Halt place old (E.Halts place) e new (λ n. refl)
    (λ n. refl) c.requires.place c.requires.stands h.0 h.1) c.close-in-Halt.ensures)
