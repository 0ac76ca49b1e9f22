use Rattle.std.proofs.Common.{◌≡◌, ◌≢◌, ℕ, List, ◌<◌, ◌+◌, ◌-◌, ◌∙◌, suc, ◌≤◌, length, drop, get_or, refl, sym, ap}
use Rattle.std.proofs.Common.{subst, arith, [], ◌∷◌}
use Rattle.std.proofs.lemmas.Bool.{eqb-true, eqb-false}
use Rattle.std.proofs.lemmas.List.{nil_from_length}
use Rattle.std.specs.Prelude.{OnOk}
use Rattle.rpl_core.specs.Code as C
use Rattle.rpl_core.specs.Core.{Behind, Core}
use Rattle.rpl_core.specs.Head as H
use Rattle.rpl_core.specs.Instr as I
use Rattle.rpl_core.specs.View.{core_of, cores, listed}
use Rattle.rpl_core.specs.declared.peg.Peg.{Peg}
use Rattle.rpl_core.proofs.Rows.{seq_view, choice_view}
use Rattle.rpl_codegen.specs.inside.Sizes.{len, len_all, len_first, many_len, not_len}
use Rattle.rpl_codegen.specs.inside.Nodes.{behind_nodes, choice_nodes, inner_nodes, nodes_in, parts_nodes, tested_nodes}
use Rattle.rpl_codegen.specs.inside.Taken.{Begins, head_at, left, size_at}
use Rattle.rpl_intern.specs.Written.{Adds}
use Rattle.rpl_codegen.specs.inside.Written.{address_of, test_code}
use Rattle.rpl_intern.specs.declared.draft.Draft.{Draft}
use Rattle.rpl_codegen.specs.declared.size.Node.{Node}
use Rattle.rpl_intern.proofs.Adding.{adds_none, adds_then}
use Rattle.rpl_codegen.proofs.Lengths.{all_length, code_length, first_length}
use Rattle.rpl_codegen.proofs.Parts.{len_first_here, code_first_here, drop_last, no_parts, part_of}
use Rattle.rpl_codegen.proofs.Passing.{left_after, next_inside, no_nodes_left, read_next, steps, takes_part}
use Rattle.rpl_codegen.proofs.Pieces.{on_ok, piece_loop, piece_refuse, piece_and, piece_capture, piece_choice}
use Rattle.rpl_codegen.proofs.Pieces.{piece_length, piece_tried, test_length, behind_end, room_here, room_turn}
use Rattle.rpl_codegen.proofs.Taking.{as_begins, as_taken, begins_behind, begins_front, last_here, more_lengths}
use Rattle.rpl_codegen.proofs.Taking.{takes_anew, takes_none, takes_then, tried_here}
use Rattle.rpl_codegen.proofs.Weights.{seq_part, choice_part}
use Rattle.rpl_codegen.proofs.writing.+emit.Goals as goal

-- the last part of a choice
last_part : (row ps : List Peg) (k : ℕ) (p : Peg) → row ≡ ps → length row ≢ 0 → length row - 1 ≡ k
    → p ≡ get_or row (length row - 1) p → (k + 1 ≡ length ps) × (p ≡ get_or ps k p)
last_part row ps k p same some last is =
    (omega (arith, some, ap length same), part_of row ps k p same (is ∙ ap (λ i. get_or row i p) last))

pub emit_all-loop-parts-init : goal.emit_all-loop-parts-init
emit_all-loop-parts-init t c =
    let ps = c.args.row.parts.now in
    let n = length c.args.draft.now.code in (
      0,
      omega arith,
      omega (arith, ap len (seq_view ps), c.requires.end),
      λ x a. subst (λ e. Adds c.args.draft.now x (C.code (address_of c.args.layout.now) e n)) (sym (seq_view ps)) a,
      as_begins (left c.args.nodes.now) _ _ (ap inner_nodes (seq_view ps)) c.requires.nodes,
      λ x t. as_taken c.args.nodes.now x _ _ (sym (ap inner_nodes (seq_view ps))) t,
    )

pub emit_all-part-number-requires : goal.emit_all-part-number-requires
emit_all-part-number-requires t c =
    let i = c.loop-parts.invariant in
    let s = steps (address_of c.args.layout.now) _ i.0 (left c.loop-parts.nodes) i.1
    (omega (arith, i.2, c.loop-parts-test.true, c.next.ensures)) i.4 in
    s.2.some

pub emit_all-returns-then-number-parts-clause-code : goal.emit_all-returns-then-number-parts-clause-code
emit_all-returns-then-number-parts-clause-code t c =
    let i = c.loop-parts.invariant in
    let inside = next_inside (address_of c.args.layout.now) _ c.as_slice-parts.result.now i.0 c.part-number.result _
    c.as_slice-parts.ensures i.1 (omega (arith, i.2, c.loop-parts-test.true, c.next.ensures)) i.4
    c.part-number.ensures in
    absurd (omega (arith, inside, c.if-number-parts.true))

pub emit_all-returns-then-number-parts-clause-nodes : goal.emit_all-returns-then-number-parts-clause-nodes
emit_all-returns-then-number-parts-clause-nodes t c =
    let i = c.loop-parts.invariant in
    let inside = next_inside (address_of c.args.layout.now) _ c.as_slice-parts.result.now i.0 c.part-number.result _
    c.as_slice-parts.ensures i.1 (omega (arith, i.2, c.loop-parts-test.true, c.next.ensures)) i.4
    c.part-number.ensures in
    absurd (omega (arith, inside, c.if-number-parts.true))

pub emit_all-take-requires : goal.emit_all-take-requires
emit_all-take-requires t c =
    let i = c.loop-parts.invariant in
    let s = steps (address_of c.args.layout.now) _ i.0 (left c.loop-parts.nodes) i.1
    (omega (arith, i.2, c.loop-parts-test.true, c.next.ensures)) i.4 in
    s.2.some

pub emit_all-overflow_add-behind : goal.emit_all-overflow_add-behind
emit_all-overflow_add-behind t c =
    let i = c.loop-parts.invariant in
    let s = steps (address_of c.args.layout.now) _ i.0 (left c.loop-parts.nodes) i.1
    (omega (arith, i.2, c.loop-parts-test.true, c.next.ensures)) i.4 in
    omega (
      arith,
      c.next-in-loop-parts.ensures,
      c.take.ensures.size,
      s.2.size,
      i.2,
      s.2.comes.sum,
      c.requires.room,
      c.requires.end,
    )

pub emit_all-emit_inner-requires : goal.emit_all-emit_inner-requires
emit_all-emit_inner-requires t c =
    let at = address_of c.args.layout.now in
    let ps = listed c.args.row.parts.now in
    let i = c.loop-parts.invariant in
    let q = c.index-parts-number.result in
    let s = read_next at ps c.as_slice-parts.result.now i.0 c.part-number.result (left c.loop-parts.nodes) q
    c.as_slice-parts.ensures i.1 (omega (arith, i.2, c.loop-parts-test.true, c.next.ensures)) i.4
    c.part-number.ensures c.index-parts-number.is in
    let behind = left_after at ps i.0 _ c.loop-parts.nodes c.take.new.self q s c.take.ensures.taken in
    let room : length c.loop-parts.draft.code + len (core_of q) ≤ 1048576 =
    omega (arith, i.2, s.comes.sum, c.requires.room, c.requires.end) in (
      omega (arith, c.decreases, seq_part c.args.row.parts.now _ q s.comes.inside s.comes.is),
      (
        room,
        (
          begins_front (left c.take.new.self) (inner_nodes (core_of q)) _ behind,
          omega (arith, c.next-in-loop-parts.ensures, c.take.ensures.size, s.size, room),
        ),
      ),
    )

pub emit_all-loop-parts-smaller : goal.emit_all-loop-parts-smaller
emit_all-loop-parts-smaller t c =
    let i = c.loop-parts.invariant in
    let q = c.index-parts-number.result in
    let e = c.in_ok-emit_inner.ensures.code in
    let at = address_of c.args.layout.now in
    let s = read_next at _ c.as_slice-parts.result.now i.0 c.part-number.result (left c.loop-parts.nodes) q
    c.as_slice-parts.ensures i.1 (omega (arith, i.2, c.loop-parts-test.true, c.next.ensures)) i.4
    c.part-number.ensures c.index-parts-number.is in
    omega (arith, e.long, code_length at (core_of q) (length c.loop-parts.draft.code), s.comes.some, s.comes.sum, i.2)

pub emit_all-loop-parts-preserved : goal.emit_all-loop-parts-preserved
emit_all-loop-parts-preserved t c =
    let ps = listed c.args.row.parts.now in
    let k = c.part-number.result in
    let i = c.loop-parts.invariant in
    let ns = c.loop-parts.nodes in
    let tk = c.take.new.self in
    let q = c.index-parts-number.result in
    let at = address_of c.args.layout.now in
    let s = read_next at ps c.as_slice-parts.result.now i.0 k (left ns) q c.as_slice-parts.ensures i.1
    (omega (arith, i.2, c.loop-parts-test.true, c.next.ensures)) i.4 c.part-number.ensures c.index-parts-number.is in
    let p = core_of q in
    let d = c.loop-parts.draft in
    let d1 = c.emit_inner.new.draft in
    let em = c.emit_inner.new.nodes in
    let n = length d.code in
    let x = C.code at p n in
    let others = cores (drop (k + 1) ps) in
    let rest = parts_nodes (k + 1) others in
    let e = c.in_ok-emit_inner.ensures.code in (
      k + 1,
      omega (arith, s.comes.inside),
      omega (arith, i.2, s.comes.sum, e.long, code_length at p n),
      λ y more.
          i.3 y (subst (λ l. Adds d y l) (sym (s.comes.code n))
          (adds_then d d1 y x (C.code_all at others (n + length x)) e
          (subst (λ m. Adds d1 y (C.code_all at others m)) e.long more))),
      begins_behind tk em (inner_nodes p) rest c.in_ok-emit_inner.ensures.nodes
          (left_after at ps i.0 k ns tk q s c.take.ensures.taken),
      λ y more.
          i.5 y (takes_part at ps i.0 k ns tk q s c.take.ensures.taken y
          (takes_then tk em y (inner_nodes p) rest c.in_ok-emit_inner.ensures.nodes more)),
    )

pub emit_all-returns-clause-code : goal.emit_all-returns-clause-code
emit_all-returns-clause-code t c =
    let at = address_of c.args.layout.now in
    let ps = listed c.args.row.parts.now in
    let i = c.loop-parts.invariant in
    let d = c.loop-parts.draft in
    let others = cores (drop i.0 ps) in
    let zero : len_all others ≡ 0 = omega (arith, i.2, c.loop-parts-test.false, c.next.ensures) in
    let none = nil_from_length (C.code_all at others (length d.code)) (all_length at others (length d.code) ∙ zero) in
    i.3 d (subst (λ l. Adds d d l) (sym none) (adds_none d))

pub emit_all-returns-clause-nodes : goal.emit_all-returns-clause-nodes
emit_all-returns-clause-nodes t c =
    let ps = listed c.args.row.parts.now in
    let i = c.loop-parts.invariant in
    let ns = c.loop-parts.nodes in
    let zero : len_all (cores (drop i.0 ps)) ≡ 0 = omega (arith, i.2, c.loop-parts-test.false, c.next.ensures) in
    i.5 ns (as_taken ns ns _ _ (sym (no_nodes_left ps i.0 i.1 zero)) (takes_none ns))

pub emit_and-put-requires-2 : goal.emit_and-put-requires-2
emit_and-put-requires-2 t c =
    let at = address_of c.args.layout.now in
    let a = c.in_ok-put.ensures.adds in
    let b = c.in_ok-emit.ensures.code in
    record {
      room = omega (
        arith,
        a.long,
        b.long,
        code_length at (core_of c.args.body.now) (length c.put.new.self.code),
      );
      plain = refl;
    }

pub emit_and-put-requires-3 : goal.emit_and-put-requires-3
emit_and-put-requires-3 t c =
    let at = address_of c.args.layout.now in
    let a = c.in_ok-put.ensures.adds in
    let b = c.in_ok-emit.ensures.code in
    let d = c.in_ok-put-2.ensures.adds in
    record {
      room = omega (
        arith,
        a.long,
        b.long,
        d.long,
        code_length at (core_of c.args.body.now) (length c.put.new.self.code),
      );
      plain = refl;
    }

pub emit_and-returns-clause-code : goal.emit_and-returns-clause-code
emit_and-returns-clause-code t c =
    let at = address_of c.args.layout.now in
    let p = core_of c.args.body.now in
    let l = c.next.result + 1 + c.size.result + 1 in
    let is : l ≡ length c.args.draft.now.code + 1 + len p + 1 =
    omega (arith, c.next.ensures, (c.size.ensures ∙ ap size_at c.requires.nodes.is), c.requires.room) in
    on_ok c.put-3.result _ _ (piece_and c.args.draft.now c.put.new.self c.emit.new.draft c.put-2.new.self
    c.put-3.new.self (C.code at p) (len p) l (l + 1) (code_length at p) is refl c.in_ok-put.ensures.adds
    c.in_ok-emit.ensures.code c.in_ok-put-2.ensures.adds) c.put-3.ensures.adds

pub emit_behind-emit_length-requires : goal.emit_behind-emit_length-requires
emit_behind-emit_length-requires t c =
    let p = core_of c.args.look.body.now in
    let most = c.args.look.most in
    let least = c.args.look.least in
    let room = room_here most c.loop-back.back (len p) (length c.loop-back.draft.code) (omega arith)
    c.loop-back.invariant.0 in
    let some = more_lengths (most + 1 - least) (most - least) (nodes_in p) (omega arith) in
    let first = as_begins (left c.args.nodes.now) _ _ some c.requires.nodes in (
      omega (arith, c.decreases),
      (room, subst (λ l. Begins (drop c.args.nodes.now.next l) (nodes_in p)) (sym c.loop-back.invariant.2.same) first),
    )

pub emit_behind-loop-back-preserved : goal.emit_behind-loop-back-preserved
emit_behind-loop-back-preserved t c =
    let at = address_of c.args.layout.now in
    let p = core_of c.args.look.body.now in
    let most = c.args.look.most in
    let k = c.loop-back.back in
    let d = c.loop-back.draft in
    let left = most + 1 - (k + 1) in
    let end = c.args.look.end in
    let one : suc left ≡ most + 1 - k = omega arith in (
      room_turn most k (len p) (length d.code) (length c.emit_length.new.draft.code) (omega arith)
          c.loop-back.invariant.0 c.in_ok-emit_length.ensures.long,
      λ x rest.
          c.loop-back.invariant.1 x (subst (λ n. Adds d x (C.lengths_code (C.code at p) end n k (length d.code))) one
          (c.in_ok-emit_length.ensures.goes_on left x rest)),
      as_taken c.args.nodes.now c.emit_length.new.nodes _ _
          (sym (more_lengths (k + 1 - c.args.look.least) (k - c.args.look.least) (nodes_in p) (omega arith)))
          (takes_anew c.args.nodes.now c.loop-back.nodes _ c.emit_length.new.nodes
          (behind_nodes (k - c.args.look.least) (nodes_in p)) (nodes_in p) c.loop-back.invariant.2 refl refl
          c.in_ok-emit_length.ensures.nodes),
      omega arith,
    )

pub emit_behind-returns-clause-code : goal.emit_behind-returns-clause-code
emit_behind-returns-clause-code t c =
    let at = address_of c.args.layout.now in
    let p = core_of c.args.look.body.now in
    let d = c.loop-back.draft in
    let n = c.args.look.most + 1 - c.args.look.least in
    let a = length c.args.draft.now.code in
    let end = c.args.look.end in
    let same = behind_end (C.code at p) n c.args.look.least a (len p) end (code_length at p) c.requires.end in
    let none : 0 ≡ c.args.look.most + 1 - c.loop-back.back = omega arith in
    on_ok c.put.result _ _ (λ w.
    subst (λ l. Adds c.args.draft.now c.put.new.self l) (sym same)
    (c.loop-back.invariant.1 c.put.new.self
    (subst (λ m. Adds d c.put.new.self (C.lengths_code (C.code at p) end m c.loop-back.back (length d.code))) none
    w))) c.put.ensures.adds

pub emit_capture-put-requires : goal.emit_capture-put-requires
emit_capture-put-requires t c =
    let at = address_of c.args.layout.now in
    let a = c.in_ok-put_open.ensures.adds in
    let b = c.in_ok-emit.ensures.code in
    record {
      room = omega (
        arith,
        a.long,
        b.long,
        code_length at (core_of c.args.body.now) (length c.put_open.new.self.code),
      );
      plain = refl;
    }

pub emit_capture-returns-clause-code : goal.emit_capture-returns-clause-code
emit_capture-returns-clause-code t c =
    on_ok c.put.result _ _ (piece_capture c.args.draft.now c.put_open.new.self c.emit.new.draft c.put.new.self
    (C.code (address_of c.args.layout.now) (core_of c.args.body.now)) c.args.label.now c.in_ok-put_open.ensures.adds
    c.in_ok-emit.ensures.code) c.put.ensures.adds

pub emit_first-put-requires : goal.emit_first-put-requires
emit_first-put-requires t c =
    let e = ap len (no_parts c.args.row.parts.now (sym (ap length c.as_slice-parts.ensures)
    ∙ eqb-true (length c.as_slice-parts.result.now) 0 (sym c.is_empty.ensures ∙ c.if-is_empty.true))) in
    record { room = omega (arith, e, c.requires.room); plain = refl }

pub emit_first-returns-then-is_empty-clause-code : goal.emit_first-returns-then-is_empty-clause-code
emit_first-returns-then-is_empty-clause-code t c =
    let e = no_parts c.args.row.parts.now (sym (ap length c.as_slice-parts.ensures)
    ∙ eqb-true (length c.as_slice-parts.result.now) 0 (sym c.is_empty.ensures ∙ c.if-is_empty.true)) in
    subst (λ x. OnOk c.put.result
    (Adds c.args.draft.now c.put.new.self (C.code (address_of c.args.layout.now) x (length c.args.draft.now.code))))
    (sym e) c.put.ensures.adds

pub emit_first-loop-number-init : goal.emit_first-loop-number-init
emit_first-loop-number-init t c =
    let ps = c.args.row.parts.now in
    let n = length c.args.draft.now.code in (
      omega (arith, ap len (choice_view ps), c.requires.end),
      λ x a. subst (λ e. Adds c.args.draft.now x (C.code (address_of c.args.layout.now) e n)) (sym (choice_view ps)) a,
      as_begins (left c.args.nodes.now) _ _ (ap inner_nodes (choice_view ps)) c.requires.nodes,
      λ x t. as_taken c.args.nodes.now x _ _ (sym (ap inner_nodes (choice_view ps))) t,
    )

pub emit_first-emit_tried-requires : goal.emit_first-emit_tried-requires
emit_first-emit_tried-requires t c =
    let ps = listed c.args.row.parts.now in
    let k = c.loop-number.number in
    let p = c.index-parts-number.result in
    let lt : k + 1 < length ps = omega (arith, ap length c.as_slice-parts.ensures) in
    let is = part_of c.as_slice-parts.result.now ps k p c.as_slice-parts.ensures c.index-parts-number.is in
    let here = len_first_here ps k p lt is in
    let more = tried_here ps k p lt is in (
      omega (arith, c.decreases, choice_part c.args.row.parts.now k p (omega arith) is),
      (
        omega (
          arith,
          here,
          ap len (choice_view c.args.row.parts.now),
          c.requires.room,
          c.requires.end,
          c.loop-number.invariant.0,
        ),
        begins_front (left c.loop-number.nodes) (tested_nodes (core_of p))
            (choice_nodes (cores (drop (k + 1) ps)))
            (as_begins (left c.loop-number.nodes) _ _ more c.loop-number.invariant.2),
      ),
    )

pub emit_first-loop-number-preserved : goal.emit_first-loop-number-preserved
emit_first-loop-number-preserved t c =
    let at = address_of c.args.layout.now in
    let ps = listed c.args.row.parts.now in
    let k = c.loop-number.number in
    let p = c.index-parts-number.result in
    let d = c.loop-number.draft in
    let d1 = c.emit_tried.new.draft in
    let lt : k + 1 < length ps = omega (arith, ap length c.as_slice-parts.ensures) in
    let is = part_of c.as_slice-parts.result.now ps k p c.as_slice-parts.ensures c.index-parts-number.is in
    let rest = cores (drop (k + 1) ps) in
    let q = C.code_first at rest in
    let more_nodes = tried_here ps k p lt is in
    let s = c.loop-number.nodes in
    let s1 = c.emit_tried.new.nodes in
    let rest_nodes = choice_nodes rest in
    let end : c.args.row.end ≡ length d1.code + len_first rest =
    omega (arith, len_first_here ps k p lt is, c.loop-number.invariant.0, c.in_ok-emit_tried.ensures.long) in (
      end,
      λ x more.
          c.loop-number.invariant.1 x (subst (λ l. Adds d x l) (sym (code_first_here at ps k p (length d.code) lt is))
          (c.in_ok-emit_tried.ensures.goes_on q x (omega (arith, end, first_length at rest (length d1.code))) more)),
      begins_behind s s1 (tested_nodes (core_of p)) rest_nodes c.in_ok-emit_tried.ensures.nodes
          (as_begins (left s) _ _ more_nodes c.loop-number.invariant.2),
      λ y more. c.loop-number.invariant.3 y
          (as_taken s y _ _ (sym more_nodes) (takes_then s s1 y (tested_nodes (core_of p)) rest_nodes
          c.in_ok-emit_tried.ensures.nodes more)),
    )

pub emit_first-emit-requires : goal.emit_first-emit-requires
emit_first-emit-requires t c =
    let ps = listed c.args.row.parts.now in
    let k = c.loop-number.number in
    let p = c.index-parts-last.result in
    let last = last_part c.as_slice-parts.result.now ps k p c.as_slice-parts.ensures
    (eqb-false (length c.as_slice-parts.result.now) 0 (sym c.is_empty.ensures ∙ c.if-is_empty.false)) (omega arith)
    c.index-parts-last.is in
    let here = ap (λ l. len_first (cores l)) (drop_last ps k p last.0 last.1) in (
      omega (arith, c.decreases, choice_part c.args.row.parts.now k p (omega arith) last.1),
      (
        omega (
          arith,
          here,
          ap len (choice_view c.args.row.parts.now),
          c.requires.room,
          c.requires.end,
          c.loop-number.invariant.0,
        ),
        as_begins (left c.loop-number.nodes) _ _ (last_here ps k p last.0 last.1)
            c.loop-number.invariant.2,
      ),
    )

pub emit_length-put-requires-3 : goal.emit_length-put-requires-3
emit_length-put-requires-3 t c =
    let at = address_of c.args.layout.now in
    let a = c.in_ok-put.ensures.adds in
    let b = c.in_ok-put-2.ensures.adds in
    let e = c.in_ok-emit.ensures.code in
    record {
      room = omega (
        arith,
        a.long,
        b.long,
        e.long,
        code_length at (core_of c.args.look.body.now) (length c.put-2.new.self.code),
      );
      plain = refl;
    }

pub emit_length-returns-clause-goes_on : goal.emit_length-returns-clause-goes_on
emit_length-returns-clause-goes_on t c =
    let at = address_of c.args.layout.now in
    let p = core_of c.args.look.body.now in
    let to = c.next.result + 2 + c.size.result + 1 in
    let is : to ≡ length c.args.draft.now.code + 1 + 1 + len p + 1 =
    omega (arith, c.next.ensures, (c.size.ensures ∙ ap size_at c.requires.nodes.is), c.requires.room) in
    on_ok c.put-3.result _ _ (λ w left x rest.
    piece_length c.args.draft.now c.put.new.self c.put-2.new.self c.emit.new.draft c.put-3.new.self x (C.code at p)
    (len p) to c.args.look.end c.args.back left (code_length at p) is c.in_ok-put.ensures.adds
    c.in_ok-put-2.ensures.adds c.in_ok-emit.ensures.code w rest) c.put-3.ensures.adds

pub emit_length-returns-clause-long : goal.emit_length-returns-clause-long
emit_length-returns-clause-long t c =
    let at = address_of c.args.layout.now in
    let p = core_of c.args.look.body.now in
    let a = c.in_ok-put.ensures.adds in
    let b = c.in_ok-put-2.ensures.adds in
    let e = c.in_ok-emit.ensures.code in
    on_ok c.put-3.result (Adds c.emit.new.draft c.put-3.new.self (I.Meet c.args.look.end ∷ [])) _
    (λ w. omega (arith, a.long, b.long, e.long, w.long, code_length at p (length c.put-2.new.self.code)))
    c.put-3.ensures.adds

pub emit_many-put-requires-2 : goal.emit_many-put-requires-2
emit_many-put-requires-2 t c =
    let at = address_of c.args.layout.now in
    let a = c.in_ok-put.ensures.adds in
    let b = c.in_ok-emit.ensures.code in
    let none = sym c.in_default.ensures in
    let room = ap (λ o. many_len o (len (core_of c.args.body.now))) none in
    record {
      room = omega (
        arith,
        a.long,
        b.long,
        room,
        c.requires.room,
        code_length at (core_of c.args.body.now) (length c.put.new.self.code),
      );
      plain = refl;
    }

pub emit_many-returns-clause-code : goal.emit_many-returns-clause-code
emit_many-returns-clause-code t c =
    let at = address_of c.args.layout.now in
    let p = core_of c.args.body.now in
    let l = c.next-start.result + 1 + c.size.result + 1 in
    let none = sym c.in_default.ensures in
    let room = ap (λ o. many_len o (len p)) none in
    let is : l ≡ length c.args.draft.now.code + 1 + len p + 1 =
    omega (arith, c.next-start.ensures, (c.size.ensures ∙ ap size_at c.requires.nodes.is), room, c.requires.room) in
    let start : c.next-start.result + 1 ≡ length c.args.draft.now.code + 1 = omega (arith, c.next-start.ensures) in
    on_ok c.put-2.result _ _ (λ w.
    subst (λ o. Adds c.args.draft.now c.put-2.new.self (C.many_code o (C.code at p) (length c.args.draft.now.code)))
    (sym none) (piece_loop c.args.draft.now c.put.new.self c.emit.new.draft c.put-2.new.self (C.code at p) (len p)
    (c.next-start.result + 1) l (code_length at p) start is c.in_ok-put.ensures.adds c.in_ok-emit.ensures.code w))
    c.put-2.ensures.adds

pub emit_not-put-requires-3 : goal.emit_not-put-requires-3
emit_not-put-requires-3 t c =
    let at = address_of c.args.layout.now in
    let a = c.in_ok-put.ensures.adds in
    let b = c.in_ok-emit.ensures.code in
    let none = sym c.in_default.ensures in
    let room = ap (λ o. not_len o (len (core_of c.args.body.now))) none in
    record {
      room = omega (
        arith,
        a.long,
        b.long,
        room,
        c.requires.room,
        code_length at (core_of c.args.body.now) (length c.put-2.new.self.code),
      );
      plain = refl;
    }

pub emit_not-returns-clause-code : goal.emit_not-returns-clause-code
emit_not-returns-clause-code t c =
    let at = address_of c.args.layout.now in
    let p = core_of c.args.body.now in
    let l = c.next-start.result + 1 + c.size.result + 1 in
    let none = sym c.in_default.ensures in
    let room = ap (λ o. not_len o (len p)) none in
    let is : l ≡ length c.args.draft.now.code + 1 + len p + 1 =
    omega (arith, c.next-start.ensures, (c.size.ensures ∙ ap size_at c.requires.nodes.is), room, c.requires.room) in
    on_ok c.put-3.result _ _ (λ w.
    subst (λ o. Adds c.args.draft.now c.put-3.new.self (C.not_code o (C.code at p) (length c.args.draft.now.code)))
    (sym none) (piece_refuse c.args.draft.now c.put-2.new.self c.emit.new.draft c.put-3.new.self (C.code at p) (len p)
    l (code_length at p) is c.in_ok-put.ensures.adds c.in_ok-emit.ensures.code w)) c.put-3.ensures.adds

test_of : (ns : List Node) (p : Core) (d d1 : Draft) (l : ℕ) → Begins ns (tested_nodes p)
    → Adds d d1 (test_code (head_at ns) l) → Adds d d1 (test_code (H.head p) l)
test_of ns p d d1 l b a = subst (λ h. Adds d d1 (test_code h l)) (ap head_at b.is) a

pub emit_tried-put-requires-2 : goal.emit_tried-put-requires-2
emit_tried-put-requires-2 t c =
    let at = address_of c.args.layout.now in
    let x = test_of (left c.args.nodes.now) (core_of c.args.part.now) c.args.draft.now c.emit_test.new.draft
    (c.next.result + 2 + c.size-size.result + 1) c.requires.nodes c.in_ok-emit_test.ensures in
    let a = c.in_ok-put.ensures.adds in
    let b = c.in_ok-emit_inner.ensures.code in
    let p = core_of c.args.part.now in
    record {
      room = omega (
        arith,
        x.long,
        a.long,
        b.long,
        test_length (H.head p) (c.next.result + 2 + c.size-size.result + 1) (len p),
        c.requires.room,
        code_length at p (length c.put.new.self.code),
      );
      plain = refl;
    }

pub emit_tried-returns-clause-goes_on : goal.emit_tried-returns-clause-goes_on
emit_tried-returns-clause-goes_on t c =
    let at = address_of c.args.layout.now in
    let p = core_of c.args.part.now in
    let h = H.head p in
    let l = c.next.result + 2 + c.size-size.result + 1 in
    let m = c.next-2.result + 1 + c.size-size.result + 1 in
    let d1 = c.emit_test.new.draft in
    let size : c.size-size.result ≡ len p =
    omega (arith, (c.size-size.ensures ∙ ap size_at c.requires.nodes.is), test_length h l (len p), c.requires.room) in
    let is : l ≡ length c.args.draft.now.code + 1 + 1 + len p + 1 = omega (arith, c.next.ensures, size) in
    let is1 : m ≡ length d1.code + 1 + len p + 1 = omega (arith, c.next-2.ensures, size) in
    on_ok c.put-2.result _ _ (λ w q x end rest.
    piece_tried h c.args.draft.now d1 x (C.code at p) q (len p) l (code_length at p) is
    (test_of (left c.args.nodes.now) p c.args.draft.now d1 l c.requires.nodes c.in_ok-emit_test.ensures)
    (piece_choice d1 c.put.new.self c.emit_inner.new.draft c.put-2.new.self x (C.code at p) q (len p) m c.args.end
    (code_length at p) is1 end c.in_ok-put.ensures.adds c.in_ok-emit_inner.ensures.code w rest)) c.put-2.ensures.adds

pub emit_tried-returns-clause-long : goal.emit_tried-returns-clause-long
emit_tried-returns-clause-long t c =
    let at = address_of c.args.layout.now in
    let p = core_of c.args.part.now in
    let x = test_of (left c.args.nodes.now) (core_of c.args.part.now) c.args.draft.now c.emit_test.new.draft
    (c.next.result + 2 + c.size-size.result + 1) c.requires.nodes c.in_ok-emit_test.ensures in
    let a = c.in_ok-put.ensures.adds in
    let b = c.in_ok-emit_inner.ensures.code in
    on_ok c.put-2.result (Adds c.emit_inner.new.draft c.put-2.new.self (I.Commit c.args.end ∷ [])) _
    (λ w. omega (
      arith,
      x.long,
      a.long,
      b.long,
      w.long,
      test_length (H.head p) (c.next.result + 2 + c.size-size.result + 1) (len p),
      code_length at p (length c.put.new.self.code),
    )) c.put-2.ensures.adds

pub emit_inner-returns-in-Behind-clause-code : goal.emit_inner-returns-in-Behind-clause-code
emit_inner-returns-in-Behind-clause-code t c =
    let at = address_of c.args.layout.now in
    let is = ap (λ q. Behind c.in-Behind.least c.in-Behind.most (core_of q)) c.deref-in-Behind.ensures
    ∙ sym (ap core_of c.in-Behind.is) in
    subst (λ e. OnOk c.emit_behind.result
    (Adds c.args.draft.now c.emit_behind.new.draft (C.code at e (length c.args.draft.now.code)))) is
    c.emit_behind.ensures.code

pub emit_behind-returns-clause-nodes : goal.emit_behind-returns-clause-nodes
emit_behind-returns-clause-nodes t c =
    let k = c.loop-back.back in
    let n = c.args.look.most + 1 - c.args.look.least in
    let all : k - c.args.look.least ≡ n = omega (arith, c.loop-back.invariant.3) in
    on_ok c.put.result _ _ (λ w.
    as_taken c.args.nodes.now c.loop-back.nodes _ _ (ap (λ n. behind_nodes n (nodes_in (core_of c.args.look.body.now)))
    all) c.loop-back.invariant.2) c.put.ensures.adds

pub emit_first-returns-then-is_empty-clause-nodes : goal.emit_first-returns-then-is_empty-clause-nodes
emit_first-returns-then-is_empty-clause-nodes t c =
    let e = no_parts c.args.row.parts.now (sym (ap length c.as_slice-parts.ensures)
    ∙ eqb-true (length c.as_slice-parts.result.now) 0 (sym c.is_empty.ensures ∙ c.if-is_empty.true)) in
    let s = c.args.nodes.now in
    on_ok c.put.result _ _ (λ w. as_taken s s _ _ (sym (ap inner_nodes e)) (takes_none s)) c.put.ensures.adds

pub emit_first-returns-clause-nodes : goal.emit_first-returns-clause-nodes
emit_first-returns-clause-nodes t c =
    let ps = listed c.args.row.parts.now in
    let k = c.loop-number.number in
    let p = c.index-parts-last.result in
    let last = last_part c.as_slice-parts.result.now ps k p c.as_slice-parts.ensures
    (eqb-false (length c.as_slice-parts.result.now) 0 (sym c.is_empty.ensures ∙ c.if-is_empty.false)) (omega arith)
    c.index-parts-last.is in
    let alone = last_here ps k p last.0 last.1 in
    let s = c.loop-number.nodes in
    on_ok c.emit.result _ _
    (λ w. c.loop-number.invariant.3 c.emit.new.nodes (as_taken s c.emit.new.nodes _ _ (sym alone) w))
    c.emit.ensures.nodes
