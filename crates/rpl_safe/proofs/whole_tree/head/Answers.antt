use Rattle.std.proofs.Common.{sym, ap, ◌∙◌, map}
use Rattle.std.specs.Prelude.{true, false}
use Rattle.rpl_core.specs.Numbers.{instr_of}
use Rattle.rpl_core.specs.Program.{instructions, sets_of, labels_of}
use Rattle.rpl_safe.specs.inside.Marks.{opens_in, finishes_in, call_in}
use Rattle.rpl_safe.proofs.Testing.{head_open, head_none, head_if, head_unless}
use Rattle.rpl_safe.proofs.whole_tree.head.Goals.{else-finishes_at-via-then-finishes_at+else-opens_at-2}
use Rattle.rpl_safe.proofs.whole_tree.head.Goals.{else-finishes_at-via-else-finishes_at}
use Rattle.rpl_safe.proofs.whole_tree.head.Goals as goal

pub returns-then-opens_at : goal.returns-then-opens_at
returns-then-opens_at c =
    let p = c.args.program.now in
    let f = instr_of (sets_of p) (labels_of p) in
    let e = sym (ap (λ l. opens_in (map f l) 0) c.code-code.ensures.same)
    ∙ sym (c.opens_at.ensures (sets_of p) (labels_of p)) ∙ c.if-opens_at.true in
    sym (head_open (instructions p) e)

pub returns-in-None : goal.returns-in-None
returns-in-None c =
    let p = c.args.program.now in
    let f = instr_of (sets_of p) (labels_of p) in
    let e = sym (ap (λ l. opens_in (map f l) 0) c.code-code.ensures.same)
    ∙ sym (c.opens_at.ensures (sets_of p) (labels_of p)) ∙ c.if-opens_at.false in
    let q = sym (ap (λ l. call_in (map f l)) c.code-code.ensures.same)
    ∙ sym (c.first_call.ensures (sets_of p) (labels_of p)) ∙ c.in-None.is in
    sym (head_none (instructions p) e q)

pub returns-then-opens_at-2 : goal.returns-then-opens_at-2
returns-then-opens_at-2 c =
    let p = c.args.program.now in
    let f = instr_of (sets_of p) (labels_of p) in
    let e = sym (ap (λ l. opens_in (map f l) 0) c.code-code.ensures.same)
    ∙ sym (c.opens_at.ensures (sets_of p) (labels_of p)) ∙ c.if-opens_at.false in
    let q = sym (ap (λ l. call_in (map f l)) c.code-code.ensures.same)
    ∙ sym (c.first_call.ensures (sets_of p) (labels_of p)) ∙ c.in-Some.is in
    let x = sym (ap (λ l. finishes_in (map f l) 1) c.code-code.ensures.same)
    ∙ sym (c.finishes_at.ensures (sets_of p) (labels_of p)) ∙ c.if-finishes_at.true in
    let y = sym (ap (λ l. opens_in (map f l) c.in-Some.called) c.code-code.ensures.same)
    ∙ sym (c.opens_at-then-finishes_at.ensures (sets_of p) (labels_of p)) ∙ c.if-opens_at-2.true in
    sym (head_if (instructions p) c.in-Some.called true true e q x y)

pub returns-else-finishes_at : goal.returns-else-finishes_at
returns-else-finishes_at c =
    let p = c.args.program.now in
    let f = instr_of (sets_of p) (labels_of p) in
    let e = sym (ap (λ l. opens_in (map f l) 0) c.code-code.ensures.same)
    ∙ sym (c.opens_at.ensures (sets_of p) (labels_of p)) ∙ c.if-opens_at.false in
    let q = sym (ap (λ l. call_in (map f l)) c.code-code.ensures.same)
    ∙ sym (c.first_call.ensures (sets_of p) (labels_of p)) ∙ c.in-Some.is in
    let fin = sym (ap (λ l. finishes_in (map f l) 1) c.code-code.ensures.same)
    ∙ sym (c.finishes_at.ensures (sets_of p) (labels_of p)) in
    elim c.else-finishes_at.branch [
      | else-finishes_at-via-then-finishes_at+else-opens_at-2 w ↦
          let y = sym (ap (λ l. opens_in (map f l) c.in-Some.called) c.code-code.ensures.same)
          ∙ sym (w.opens_at-then-finishes_at.ensures (sets_of p) (labels_of p)) ∙ w.if-opens_at-2.false in
          sym (head_if (instructions p) c.in-Some.called true false e q (fin ∙ w.if-finishes_at.true) y)
      | else-finishes_at-via-else-finishes_at w ↦
          sym (head_unless (instructions p) c.in-Some.called e q (fin ∙ w.if-finishes_at.false))
    ]
