use Rattle.std.proofs.Common.{◌+◌, ◌<◌, sym, ap, ◌∙◌, subst, refl, arith, length}
use Rattle.std.proofs.lemmas.List.{length-map, nil_from_length}
use Rattle.std.specs.Prelude.{true, false, Ok}
use Rattle.rpl_core.specs.Numbers.{instr_of}
use Rattle.rpl_core.specs.Program.{instructions, sets_of, labels_of, code_of}
use Rattle.rpl_safe.specs.inside.Marks.{Found, Puts, marks_at, next_mark, given_of, unmarked}
use Rattle.rpl_safe.specs.declared.finding.MarkSearch.{MarkSearch}
use Rattle.rpl_safe.proofs.Placing.{found_begin, look_on, look_off, waits_marked, waits_inside, few_trees, found_end}
use Rattle.rpl_safe.proofs.Placing.{read_instr}
use Rattle.rpl_safe.proofs.finding.find_marks.Goals.{Else-not-branch}
use Rattle.rpl_safe.proofs.finding.find_marks.Goals as goal

pub loop-address-init : goal.loop-address-init
loop-address-init c =
    let begun : MarkSearch = record { marks = c.in_ok-vec.field-0; waiting = c.new.result } in
    found_begin (instructions c.args.program.now) begun c.put.new.self (length c.code-code.result.now)
    c.in_ok-put.field-0 c.put.result c.in_ok-put.was
    (omega (arith, c.requires.some, ap length c.code-code.ensures.same)) (ap length c.code-code.ensures.same
    ∙ sym (length-map (code_of c.args.program.now)
    (instr_of (sets_of c.args.program.now) (labels_of c.args.program.now))))
    (c.in_ok-vec.ensures.items_if_clones_equal (λ y e. grind arith)) c.new.ensures.items
    (subst (λ m. Puts 0 m begun c.put.new.self c.put.result) c.fresh.ensures c.put.ensures)

pub goes_on-next-requires-clause-trees : goal.goes_on-next-requires-clause-trees
goes_on-next-requires-clause-trees c =
    few_trees (instructions c.args.program.now) c.loop-address.search.marks.items c.in-Some.address
    c.in-Some-mark_at.mark 1048576 c.loop-address.invariant.known
    (sym (ap (λ l. marks_at l c.in-Some.address) c.deref.ensures.value) ∙ sym c.mark_at.ensures ∙ c.in-Some-mark_at.is)
    (omega (
      arith,
      c.requires.limit,
      length-map (code_of c.args.program.now) (instr_of (sets_of c.args.program.now) (labels_of c.args.program.now)),
    ))

pub returns-then-not-branch : goal.returns-then-not-branch
returns-then-not-branch c =
    let p = c.args.program.now in
    let s : MarkSearch = record { marks = c.loop-address.search.marks; waiting = c.pop.new.self } in
    look_off (instructions p) c.loop-address.search s c.put_all.new.self c.in-Some.address c.in-Some-mark_at.mark
    (instr_of (sets_of p) (labels_of p) c.in-Some-get.instr.now) (given_of c.goes_on-next.result) c.put_all.result
    c.loop-address.invariant c.in-Some.ensures.items refl
    (sym (ap (λ l. marks_at l c.in-Some.address) c.deref.ensures.value) ∙ sym c.mark_at.ensures ∙ c.in-Some-mark_at.is)
    (read_instr p c.code-code.result.now c.in-Some.address c.in-Some-get.instr.now c.code-code.ensures.same
    c.in-Some-get.ensures.lookup.3.0 c.in-Some-get.ensures.lookup.1)
    (c.goes_on-next.ensures (sets_of p) (labels_of p)
    ∙ ap (λ l. next_mark (marks_at l) (instr_of (sets_of p) (labels_of p) c.in-Some-get.instr.now) c.in-Some.address
    c.in-Some-mark_at.mark) c.deref-in-Some-mark_at.ensures.value)
    c.put_all.ensures (c.in_ok-put_all.was ∙ ap Ok c.if-not-branch.true)

-- the address was looked at, and less is left
looked : (c : Else-not-branch) → Found (instructions c.args.program.now) c.put_all.new.self
    × (length c.put_all.new.self.waiting.items + unmarked c.put_all.new.self.marks.items < length
    c.loop-address.search.waiting.items + unmarked c.loop-address.search.marks.items)
looked c =
    let p = c.args.program.now in
    let s : MarkSearch = record { marks = c.loop-address.search.marks; waiting = c.pop.new.self } in
    look_on (instructions p) c.loop-address.search s c.put_all.new.self c.in-Some.address c.in-Some-mark_at.mark
    (instr_of (sets_of p) (labels_of p) c.in-Some-get.instr.now) (given_of c.goes_on-next.result) c.put_all.result
    c.loop-address.invariant c.in-Some.ensures.items refl
    (sym (ap (λ l. marks_at l c.in-Some.address) c.deref.ensures.value) ∙ sym c.mark_at.ensures ∙ c.in-Some-mark_at.is)
    (read_instr p c.code-code.result.now c.in-Some.address c.in-Some-get.instr.now c.code-code.ensures.same
    c.in-Some-get.ensures.lookup.3.0 c.in-Some-get.ensures.lookup.1)
    (c.goes_on-next.ensures (sets_of p) (labels_of p)
    ∙ ap (λ l. next_mark (marks_at l) (instr_of (sets_of p) (labels_of p) c.in-Some-get.instr.now) c.in-Some.address
    c.in-Some-mark_at.mark) c.deref-in-Some-mark_at.ensures.value)
    c.put_all.ensures (c.in_ok-put_all.was ∙ ap Ok c.if-not-branch.false)

pub loop-address-smaller-else-not-branch : goal.loop-address-smaller-else-not-branch
loop-address-smaller-else-not-branch c = let h = looked c in h.1

pub loop-address-preserved-else-not-branch : goal.loop-address-preserved-else-not-branch
loop-address-preserved-else-not-branch c = let h = looked c in h.0

pub loop-address-preserved-in_default-mark_at : goal.loop-address-preserved-in_default-mark_at
loop-address-preserved-in_default-mark_at c =
    absurd (waits_marked (instructions c.args.program.now) c.loop-address.search c.pop.new.self.items c.in-Some.address
    c.loop-address.invariant c.in-Some.ensures.items
    (sym (ap (λ l. marks_at l c.in-Some.address) c.deref.ensures.value) ∙ sym c.mark_at.ensures
    ∙ c.in_default-mark_at.is))

pub loop-address-preserved : goal.loop-address-preserved
loop-address-preserved c =
    let p = c.args.program.now in
    let lt = waits_inside (instructions p) c.loop-address.search c.pop.new.self.items c.in-Some.address
    c.loop-address.invariant c.in-Some.ensures.items in
    absurd (omega (
      arith,
      lt,
      length-map (code_of p) (instr_of (sets_of p) (labels_of p)),
      ap length c.code-code.ensures.same,
      c.in_default-get.ensures.lookup.3,
    ))

pub returns : goal.returns
returns c = found_end (instructions c.args.program.now) c.loop-address.search c.loop-address.invariant
    (nil_from_length c.loop-address.search.waiting.items (let a = c.in_default.ensures.cases.0 in
    omega (arith, c.loop-address.search.waiting.ok.0)))
