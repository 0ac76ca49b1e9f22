use Rattle.std.proofs.Common.{◌≡◌, suc, ◌+◌, ◌-◌, ◌<◌, ◌∷◌, drop, get_or, length, refl, sym, ap, ◌∙◌, subst, arith}
use Rattle.std.proofs.lemmas.Bool.{eqb-false}
use Rattle.std.proofs.lemmas.List.{append-nil}
use Rattle.std.specs.Prelude.{◌++◌, None, min, option_map, IfOk, IsTrue, OnOk}
use Rattle.rpl_classes.specs.Norm.{norm}
use Rattle.rpl_core.specs.Head as H
use Rattle.rpl_core.specs.View.{core_of, cores}
use Rattle.rpl_codegen.specs.inside.Nodes.{choice_nodes, inner_nodes, numbered_nodes, part_nodes, parts_nodes}
use Rattle.rpl_codegen.specs.inside.Nodes.{tested_nodes}
use Rattle.rpl_codegen.specs.inside.Sizes.{capped_len, len, len_all, tried_len}
use Rattle.rpl_codegen.proofs.Gathering.{capped_tried, heads_more, last_head}
use Rattle.rpl_core.proofs.Walk.{choice_core, drop_here, seq_core}
use Rattle.rpl_codegen.proofs.Parts.{drop_last, len_first_here}
use Rattle.rpl_codegen.proofs.Passing.{no_nodes, some_nodes}
use Rattle.rpl_codegen.proofs.Taking.{filled, listed_turn, parts_here, taken_back, tried_here}
use Rattle.rpl_codegen.proofs.size.+measure.Goals as goal

pub measure_inner-returns-in-Seq-clause-nodes : goal.measure_inner-returns-in-Seq-clause-nodes
measure_inner-returns-in-Seq-clause-nodes t c =
    let same = seq_core c.args.peg.now c.in-Seq.parts c.as_slice.result.now c.in-Seq.is c.as_slice.ensures in
    subst (λ e. OnOk c.measure_all.result (c.measure_all.new.measured.nodes.items ≡ c.args.measured.now.nodes.items
    ++ inner_nodes e)) same c.measure_all.ensures.nodes

pub measure_inner-returns-in-Seq-clause-size : goal.measure_inner-returns-in-Seq-clause-size
measure_inner-returns-in-Seq-clause-size t c =
    let same = seq_core c.args.peg.now c.in-Seq.parts c.as_slice.result.now c.in-Seq.is c.as_slice.ensures in
    subst (λ e. IfOk c.measure_all.result (λ s. s.size ≡ min 1048577 (len e))) same c.measure_all.ensures.size

pub measure_inner-returns-in-Seq-clause-head : goal.measure_inner-returns-in-Seq-clause-head
measure_inner-returns-in-Seq-clause-head t c =
    let same = seq_core c.args.peg.now c.in-Seq.parts c.as_slice.result.now c.in-Seq.is c.as_slice.ensures in
    subst (λ e. IfOk c.measure_all.result (λ s. IsTrue c.args.wanted → s.head ≡ H.head e)) same
    c.measure_all.ensures.head

pub measure_inner-returns-in-Choice-clause-nodes : goal.measure_inner-returns-in-Choice-clause-nodes
measure_inner-returns-in-Choice-clause-nodes t c =
    let same = choice_core c.args.peg.now c.in-Choice.parts c.as_slice-in-Choice.result.now c.in-Choice.is
    c.as_slice-in-Choice.ensures in
    subst (λ e. OnOk c.measure_first.result (c.measure_first.new.measured.nodes.items ≡ c.args.measured.now.nodes.items
    ++ inner_nodes e)) same c.measure_first.ensures.nodes

pub measure_inner-returns-in-Choice-clause-size : goal.measure_inner-returns-in-Choice-clause-size
measure_inner-returns-in-Choice-clause-size t c =
    let same = choice_core c.args.peg.now c.in-Choice.parts c.as_slice-in-Choice.result.now c.in-Choice.is
    c.as_slice-in-Choice.ensures in
    subst (λ e. IfOk c.measure_first.result (λ s. s.size ≡ min 1048577 (len e))) same c.measure_first.ensures.size

pub measure_inner-returns-in-Choice-clause-head : goal.measure_inner-returns-in-Choice-clause-head
measure_inner-returns-in-Choice-clause-head t c =
    let same = choice_core c.args.peg.now c.in-Choice.parts c.as_slice-in-Choice.result.now c.in-Choice.is
    c.as_slice-in-Choice.ensures in
    subst (λ e. IfOk c.measure_first.result (λ s. IsTrue c.args.wanted → s.head ≡ H.head e)) same
    c.measure_first.ensures.head

pub measure_first-loop-number-preserved : goal.measure_first-loop-number-preserved
measure_first-loop-number-preserved t c =
    let ps = c.args.parts.now in
    let l = c.loop-number in
    let k = l.number in
    let p = c.index-parts-number.result in
    let e = c.in_ok-tried.ensures in
    let lt : k + 1 < length ps = omega arith in
    let inside : k < length ps = omega arith in
    let here = len_first_here ps k p lt c.index-parts-number.is in
    let rest = H.all_heads (cores (drop (k + 1) ps)) in
    let more = ap (λ x. option_map norm (H.both_heads l.heads (H.all_heads (cores x))))
    (drop_here ps k p inside c.index-parts-number.is) in (
      omega (arith, c.capped-total.ensures),
      omega (arith, here, e.size, c.capped-total.ensures, l.invariant.1),
      listed_turn l.measured.nodes.items _ (tested_nodes (core_of p)) _ (choice_nodes (cores (drop (k + 1) ps))) _
          e.nodes (tried_here ps k p lt c.index-parts-number.is) l.invariant.2,
      λ w. heads_more l.heads _ (H.head (core_of p)) rest e.heads ∙ sym more ∙ l.invariant.3 w,
    )

pub measure_all-loop-number-preserved : goal.measure_all-loop-number-preserved
measure_all-loop-number-preserved t c =
    let ps = c.args.parts.now in
    let l = c.loop-number in
    let k = l.number in
    let p = c.index-parts-number.result in
    let e = c.in_ok-part.ensures in
    let lt : k < length ps = omega arith in
    let here = ap (λ x. len_all (cores x)) (drop_here ps k p lt c.index-parts-number.is) in (
      omega (arith, c.capped-total.ensures),
      omega (arith, here, e.size, c.capped-total.ensures, l.invariant.1),
      listed_turn l.measured.nodes.items _ (part_nodes (len (core_of p)) (numbered_nodes k (core_of p))) _
          (parts_nodes (k + 1) (cores (drop (k + 1) ps))) _ e.nodes (parts_here ps k p lt c.index-parts-number.is)
          l.invariant.2,
    )

pub measure-returns-clause-nodes : goal.measure-returns-clause-nodes
measure-returns-clause-nodes t c =
    let old = c.args.measured.now.nodes.items in
    let inner = inner_nodes (core_of c.args.peg.now) in
    let place : c.len-place.result ≡ length old = omega (arith, c.len-place.ensures, c.args.measured.now.nodes.ok) in
    filled old c.push.new.self.items c.measure_inner.new.measured.nodes.items _ _ inner c.len-place.result
    c.in_ok-push.ensures.items c.in_ok-shape.ensures.nodes place
    ∙ ap (λ k. old ++ record { size = k; part = 0; head = None } ∷ inner) c.in_ok-shape.ensures.size

pub measure_part-returns-then-shape-eq0-clause-nodes : goal.measure_part-returns-then-shape-eq0-clause-nodes
measure_part-returns-then-shape-eq0-clause-nodes t c =
    let old = c.args.measured.now.nodes.items in
    let p = core_of c.args.part.now in
    let place : c.len-place.result ≡ length old = omega (arith, c.len-place.ensures, c.args.measured.now.nodes.ok) in
    let none : len p ≡ 0 = let e = c.if-shape-eq0.true in omega (arith, c.in_ok-shape.ensures.size) in
    c.truncate.ensures.items
    ∙ taken_back old c.push.new.self.items c.measure_inner.new.measured.nodes.items _ (inner_nodes p) c.len-place.result
    c.in_ok-push.ensures.items c.in_ok-shape.ensures.nodes place
    ∙ sym (append-nil old) ∙ ap (λ l. old ++ l) (sym (no_nodes (len p) (numbered_nodes c.args.number p) none))

pub measure_part-returns-clause-nodes : goal.measure_part-returns-clause-nodes
measure_part-returns-clause-nodes t c =
    let old = c.args.measured.now.nodes.items in
    let p = core_of c.args.part.now in
    let number = c.args.number in
    let inner = inner_nodes p in
    let place : c.len-place.result ≡ length old = omega (arith, c.len-place.ensures, c.args.measured.now.nodes.ok) in
    let some : len p ≡ suc (len p - 1) = let ne = c.if-shape-eq0.false in omega (arith, c.in_ok-shape.ensures.size) in
    filled old c.push.new.self.items c.measure_inner.new.measured.nodes.items _ _ inner c.len-place.result
    c.in_ok-push.ensures.items c.in_ok-shape.ensures.nodes place
    ∙ ap (λ k. old ++ record { size = k; part = number; head = None } ∷ inner) c.in_ok-shape.ensures.size
    ∙ ap (λ l. old ++ l) (sym (some_nodes (len p) (len p - 1) (numbered_nodes number p) some))

pub measure_tried-returns-clause-nodes : goal.measure_tried-returns-clause-nodes
measure_tried-returns-clause-nodes t c =
    let old = c.args.measured.now.nodes.items in
    let p = core_of c.args.part.now in
    let inner = inner_nodes p in
    let place : c.len-place.result ≡ length old = omega (arith, c.len-place.ensures, c.args.measured.now.nodes.ok) in
    filled old c.push.new.self.items c.measure_inner.new.measured.nodes.items _ _ inner c.len-place.result
    c.in_ok-push.ensures.items c.in_ok-shape.ensures.nodes place
    ∙ ap (λ k. old ++ record { size = k; part = 0; head = c.in_ok-shape.shape.head } ∷ inner) c.in_ok-shape.ensures.size
    ∙ ap (λ h. old ++ record { size = capped_len p; part = 0; head = h } ∷ inner) (c.in_ok-shape.ensures.head refl)

pub measure_tried-returns-clause-size : goal.measure_tried-returns-clause-size
measure_tried-returns-clause-size t c =
    let m = c.in_ok-shape.shape in
    let p = core_of c.args.part.now in
    c.tried_size-tried.ensures ∙ capped_tried m.head m.size (len p) c.in_ok-shape.ensures.size
    ∙ ap (λ h. min 1048577 (tried_len h (len p))) (c.in_ok-shape.ensures.head refl)

pub measure_tried-returns-clause-heads : goal.measure_tried-returns-clause-heads
measure_tried-returns-clause-heads t c =
    c.in_ok-add.ensures ∙ ap (λ h. option_map norm (H.both_heads c.args.heads.now h)) (c.as_ref.ensures.value
    ∙ c.in_ok-shape.ensures.head refl)

pub measure_first-returns-clause-head : goal.measure_first-returns-clause-head
measure_first-returns-clause-head t c = λ w.
    let ps = c.args.parts.now in
    let l = c.loop-number in
    let k = l.number in
    let p = c.index-parts-last.result in
    let some = eqb-false (length ps) 0 (sym c.is_empty.ensures ∙ c.if-is_empty.false) in
    let last : k + 1 ≡ length ps = omega (arith, some) in
    let at_last : length ps - 1 ≡ k = omega arith in
    let is = c.index-parts-last.is ∙ ap (λ i. get_or ps i p) at_last in
    let here = ap (λ x. option_map norm (H.both_heads l.heads (H.all_heads (cores x)))) (drop_last ps k p last is) in
    let end = c.as_ref.ensures.value ∙ c.in_ok-end.ensures.head w in
    c.in_ok-head-2.ensures ∙ c.in_ok-add.ensures ∙ ap (λ h. option_map norm (H.both_heads l.heads h)) (end
    ∙ sym (last_head (H.head (core_of p)))) ∙ sym here ∙ l.invariant.3 w
