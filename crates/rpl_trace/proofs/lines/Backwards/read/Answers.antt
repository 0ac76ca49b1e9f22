use Rattle.std.proofs.Common.{◌≡◌, ◌+◌, ◌++◌, ◌∷◌, [], Some, None, refl, sym, ap, subst, ◌∙◌, arith}
use Rattle.std.specs.Prelude.{OnOk}
use Rattle.rpl_trace.specs.inside.Lines.{Fits, Reads, ends_in}
use Rattle.rpl_text.specs.Places.{index}
use Rattle.rpl_trace.specs.Kinds.{kind_seen}
use Rattle.rpl_trace.specs.inside.Seen.{EventStands}
use Rattle.rpl_trace.specs.inside.Standing.{after}
use Rattle.rpl_trace.specs.declared.event.Event.{Event}
use Rattle.rpl_trace.proofs.Reading as R
use Rattle.rpl_trace.proofs.States.{nil_from_length}
use Rattle.rpl_trace.proofs.lines.Backwards.read.Goals as goal

pub returns-in_ok-push-in-Ends-clause-reads : goal.returns-in_ok-push-in-Ends-clause-reads
returns-in_ok-push-in-Ends-clause-reads c = λ t s r es h.
    let old = c.args.self.now in
    let P : Event → Type 0 = λ x. EventStands t x → Fits (after t x s) (ends_in t old)
    → Reads t s x old (record { ends = c.push.new.self; depth = old.depth + 1; lines = old.lines }) in
    subst P (sym c.in-Ends.is) (λ e f. R.reads_end t s c.in-Ends.end old _ c.in_ok-push-in-Ends.ensures.items refl refl
    r e f) es h

pub returns-in_ok-push-in-Vanishes-clause-reads : goal.returns-in_ok-push-in-Vanishes-clause-reads
returns-in_ok-push-in-Vanishes-clause-reads c = λ t s r es h.
    let old = c.args.self.now in
    let P : Event → Type 0 = λ x. EventStands t x → Fits (after t x s) (ends_in t old)
    → Reads t s x old (record { ends = c.push-in-Vanishes.new.self; depth = old.depth; lines = old.lines }) in
    subst P (sym c.in-Vanishes.is) (λ e f. R.reads_vanished t s old _ c.in_ok-push-in-Vanishes.ensures.items refl refl r
    f) es h

pub returns-in-Some-Some-clause-reads : goal.returns-in-Some-Some-clause-reads
returns-in-Some-Some-clause-reads c = λ t s r es h.
    let old = c.args.self.now in
    let last : old.ends.items ≡ c.pop.new.self.items ++ Some c.in-Some-Some.end ∷ [] = c.in-Some-Some.ensures.items
    ∙ ap (λ x. c.pop.new.self.items ++ x ∷ []) c.in-Some-Some.field-0-is in
    let P : Event → Type 0 = λ x. EventStands t x → Fits (after t x s) (ends_in t old)
    → OnOk c.add.result (Reads t s x old c.add.new.self) in
    subst P (sym c.in-Begins.is)
    (λ e f. R.reads_added t s c.in-Begins.kind c.in-Begins.start c.in-Some-Some.end old c.add.new.self
    c.pop.new.self.items c.add.result last (ap (λ v. v.items) c.add.ensures.ends) c.add.ensures.depth
    c.add.ensures.lines r e f) es h

pub returns-in-Some-None-clause-reads : goal.returns-in-Some-None-clause-reads
returns-in-Some-None-clause-reads c = λ t s r es h.
    let old = c.args.self.now in
    let last : old.ends.items ≡ c.pop.new.self.items ++ None ∷ [] = c.in-Some-None.ensures.items
    ∙ ap (λ x. c.pop.new.self.items ++ x ∷ []) c.in-Some-None.field-0-is in
    let P : Event → Type 0 = λ x. Fits (after t x s) (ends_in t old)
    → Reads t s x old (record { ends = c.pop.new.self; depth = old.depth; lines = old.lines }) in
    subst P (sym c.in-Begins.is) (λ f. R.reads_nothing t s c.in-Begins.kind c.in-Begins.start old _ last refl refl r f)
    h

pub returns-in-None-clause-reads : goal.returns-in-None-clause-reads
returns-in-None-clause-reads c = λ t s r es h.
    let old = c.args.self.now in
    let none : old.ends.items ≡ [] = nil_from_length old.ends.items (let a = c.in-None.ensures.cases.0 in
    omega (arith, old.ends.ok.0)) in
    let P : Event → Type 0 = λ x. Fits (after t x s) (ends_in t old) in
    absurd (R.none_open t s (kind_seen c.in-Begins.kind) (index t c.in-Begins.start) old none
    (subst P c.in-Begins.is h))
