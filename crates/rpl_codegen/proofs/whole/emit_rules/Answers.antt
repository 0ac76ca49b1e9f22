use Rattle.std.proofs.Common.{◌≡◌, ℕ, ◌<◌, ◌≤◌, ◌+◌, ◌++◌, ◌∙◌, ap, sym, subst, arith, length, drop}
use Rattle.std.proofs.lemmas.List.{drop_all, length-map}
use Rattle.std.specs.Prelude.{slice_get, true}
use Rattle.rpl_core.specs.Listed.{rules_of}
use Rattle.rpl_core.specs.Programs.{bodies}
use Rattle.rpl_core.specs.Table.{bodies_of}
use Rattle.rpl_core.specs.View.{core_of}
use Rattle.rpl_codegen.specs.inside.Laid.{bodies_len, bodies_nodes, rule_code, rule_nodes}
use Rattle.rpl_core.specs.Marked.{has}
use Rattle.rpl_codegen.specs.inside.Taken.{left}
use Rattle.rpl_intern.specs.Written.{Adds}
use Rattle.rpl_codegen.specs.inside.Written.{address_of}
use Rattle.rpl_intern.proofs.Adding.{adds_none, adds_then}
use Rattle.rpl_codegen.proofs.Layouts.{bodies_len_off, bodies_len_on, bodies_off, bodies_on, gap_to, rule_length}
use Rattle.rpl_codegen.proofs.Taking.{as_begins, begins_behind, begins_front, nodes_off, nodes_on}
use Rattle.rpl_codegen.proofs.whole.emit_rules.Goals as goal

pub loop-number-init : goal.loop-number-init
loop-number-init c =
    let rules = rules_of c.args.rules.now in
    let R = bodies_of rules in
    let m = has c.args.reached.now in
    let at = address_of c.args.layout.now in
    let d = c.args.draft.now in
    let j = c.next_in-number.result in
    let first = c.next_in-number.ensures in
    let many = c.len-count.ensures.count in
    let bound : j ≤ length rules = omega (arith, first.bound, many) in
    let long : length rules ≡ length R = sym (length-map rules (λ r. core_of r.body)) in
    let lens : bodies_len m R 0 ≡ bodies_len m (drop j R) j =
    gap_to (λ k. bodies_len m (drop k R) k) 0 j (omega arith)
    (λ k l lt. bodies_len_off m R k (omega (arith, long, lt, bound)) (first.between k l lt)) in
    let codes : bodies m at R 0 (length d.code) ≡ bodies m at (drop j R) j (length d.code) =
    gap_to (λ k. bodies m at (drop k R) k (length d.code)) 0 j (omega arith)
    (λ k l lt. bodies_off m at R k (length d.code) (omega (arith, long, lt, bound)) (first.between k l lt)) in
    let nodes : bodies_nodes m R 0 ≡ bodies_nodes m (drop j R) j =
    gap_to (λ k. bodies_nodes m (drop k R) k) 0 j (omega arith)
    (λ k l lt. nodes_off m R k (omega (arith, long, lt, bound)) (first.between k l lt)) in
    record {
      within = bound;
      here = λ l. first.here (omega (arith, l, many));
      room = omega (arith, lens, c.requires.room);
      rest = λ x a. subst (Adds d x) (sym codes) a;
      nodes = as_begins (left c.args.nodes.now) _ _ nodes c.requires.nodes;
    }

pub emit_rule-requires-clause-room : goal.emit_rule-requires-clause-room
emit_rule-requires-clause-room c =
    let rules = rules_of c.args.rules.now in
    let k = c.loop-number.number in
    let long = length-map rules (λ r. core_of r.body) in
    let on = c.loop-number.invariant.here (omega (arith, c.loop-number-test.true, c.len-count.ensures.count)) in
    let sum = bodies_len_on (has c.args.reached.now) (bodies_of rules) k
    (omega (arith, long, c.loop-number-test.true, c.len-count.ensures.count)) on in
    omega (arith, sum, c.loop-number.invariant.room)

pub emit_rule-requires-clause-nodes : goal.emit_rule-requires-clause-nodes
emit_rule-requires-clause-nodes c =
    let R = bodies_of (rules_of c.args.rules.now) in
    let k = c.loop-number.number in
    let left_here = left c.loop-number.nodes in
    let lt : k < length R =
    omega (arith, c.len-count.ensures.count, length-map (rules_of c.args.rules.now) (λ r. core_of r.body)) in
    let on = c.loop-number.invariant.here (omega (arith, c.loop-number-test.true, c.len-count.ensures.count)) in
    begins_front left_here _ _ (as_begins left_here _ _ (nodes_on (has c.args.reached.now) R k lt on)
    c.loop-number.invariant.nodes)

pub loop-number-preserved : goal.loop-number-preserved
loop-number-preserved c =
    let rules = rules_of c.args.rules.now in
    let R = bodies_of rules in
    let m = has c.args.reached.now in
    let at = address_of c.args.layout.now in
    let k = c.loop-number.number in
    let j = c.next_in-number-in-loop-number.result in
    let first = c.next_in-number-in-loop-number.ensures in
    let many = c.len-count.ensures.count in
    let bound : j ≤ length rules = omega (arith, first.bound, many) in
    let long : length rules ≡ length R = sym (length-map rules (λ r. core_of r.body)) in
    let d = c.loop-number.draft in
    let d1 = c.emit_rule.new.draft in
    let n = length d.code in
    let lt : k < length R = omega (arith, c.len-count.ensures.count, length-map rules (λ r. core_of r.body)) in
    let inv = c.loop-number.invariant in
    let on : m k ≡ true = inv.here (omega (arith, long, lt)) in
    let e = c.in_ok-emit_rule.ensures.code in
    let x = rule_code true at (slice_get R k) n in
    let lens : bodies_len m (drop (k + 1) R) (k + 1) ≡ bodies_len m (drop j R) j =
    gap_to (λ q. bodies_len m (drop q R) q) (k + 1) j first.from
    (λ q u v. bodies_len_off m R q (omega (arith, long, v, bound)) (first.between q u v)) in
    let codes : (i : ℕ) → bodies m at (drop (k + 1) R) (k + 1) i ≡ bodies m at (drop j R) j i =
    λ i. gap_to (λ q. bodies m at (drop q R) q i) (k + 1) j first.from
    (λ q u v. bodies_off m at R q i (omega (arith, long, v, bound)) (first.between q u v)) in
    let nodes : bodies_nodes m (drop (k + 1) R) (k + 1) ≡ bodies_nodes m (drop j R) j =
    gap_to (λ q. bodies_nodes m (drop q R) q) (k + 1) j first.from
    (λ q u v. nodes_off m R q (omega (arith, long, v, bound)) (first.between q u v)) in
    let all = bodies_len_on m R k lt on in
    let here : bodies_nodes m (drop k R) k ≡ rule_nodes true (slice_get R k) ++ bodies_nodes m (drop j R) j =
    nodes_on m R k lt on ∙ ap (λ l. rule_nodes true (slice_get R k) ++ l) nodes in
    record {
      within = bound;
      here = λ l. first.here (omega (arith, l, many));
      room = omega (arith, all, lens, inv.room, e.long, rule_length m at true (slice_get R k) n);
      rest = λ y more.
          inv.rest y (subst (λ l. Adds d y l) (sym (bodies_on m at R k n lt on))
          (adds_then d d1 y x (bodies m at (drop (k + 1) R) (k + 1) (n + length x)) e
          (subst (λ l. Adds d1 y l) (sym (codes (n + length x)))
          (subst (λ i. Adds d1 y (bodies m at (drop j R) j i)) e.long more))));
      nodes = begins_behind c.loop-number.nodes c.emit_rule.new.nodes (rule_nodes true (slice_get R k)) _
          c.in_ok-emit_rule.ensures.nodes (as_begins (left c.loop-number.nodes) _ _ here inv.nodes);
    }

pub returns : goal.returns
returns c =
    let rules = rules_of c.args.rules.now in
    let R = bodies_of rules in
    let m = has c.args.reached.now in
    let at = address_of c.args.layout.now in
    let k = c.loop-number.number in
    let d = c.loop-number.draft in
    let none = drop_all k R (omega (arith, c.len-count.ensures.count, length-map rules (λ r. core_of r.body))) in
    c.loop-number.invariant.rest d (subst (λ l. Adds d d (bodies m at l k (length d.code))) (sym none) (adds_none d))
