use Rattle.std.proofs.Common.{◌≡◌, ◌+◌, ◌<◌, ◌≤◌, ◌∙◌, ◌++◌, ℕ, sym, ap, subst, arith, append_assoc, drop, length, min}
use Rattle.std.proofs.Common.{[], ◌∷◌, ⊎_elim}
use Rattle.std.proofs.Math.Path.{fun_ext}
use Rattle.std.proofs.lemmas.Bool.{cases_lt}
use Rattle.std.proofs.lemmas.List.{drop_all, length-map}
use Rattle.std.proofs.lemmas.List.Elements.{All-push}
use Rattle.std.specs.List.{All}
use Rattle.std.specs.Prelude.{if◌then◌else◌, slice_get, true}
use Rattle.rpl_core.specs.Listed.{rules_of}
use Rattle.rpl_core.specs.Programs.{place_of}
use Rattle.rpl_core.specs.Table.{bodies_of}
use Rattle.rpl_core.specs.View.{core_of}
use Rattle.rpl_codegen.specs.inside.Laid.{bodies_nodes, body_len, rule_nodes, whole_len}
use Rattle.rpl_codegen.specs.inside.Starts.{start_from}
use Rattle.rpl_core.specs.Marked.{has}
use Rattle.rpl_codegen.specs.inside.Sizes.{len}
use Rattle.rpl_codegen.specs.inside.Nodes.{nodes_in}
use Rattle.rpl_codegen.specs.declared.starts.Start.{Start}
use Rattle.rpl_codegen.proofs.Layouts.{gap_to, place_zero, place_off, place_turn, place_end, place_past, place_within}
use Rattle.rpl_codegen.proofs.Lengths.{size_is}
use Rattle.rpl_codegen.proofs.Starting.{start_past, start_up}
use Rattle.rpl_codegen.proofs.Taking.{append_nil, nodes_off, nodes_on, listed_turn}
use Rattle.rpl_codegen.proofs.layout.Layout.new.Goals as goal

pub loop-number-init : goal.loop-number-init
loop-number-init c =
    let rules = rules_of c.args.rules.now in
    let m = has c.args.reached.now in
    let R = bodies_of rules in
    let g = core_of c.args.goal.now in
    let a = len g + 1 in
    let j = c.next_in-number.result in
    let long : length rules ≡ length R = sym (length-map rules (λ r. core_of r.body)) in
    let first = c.next_in-number.ensures in
    let many = c.len-count.ensures.count in
    let bound : j ≤ length rules = omega (arith, first.bound, many) in
    let none : c.new-starts.result.list.items ≡ [] = c.new-starts.ensures in
    let same : (r : ℕ) → r ≤ j → place_of m R 0 a 0 ≡ place_of m R 0 a r =
    λ r le. gap_to (place_of m R 0 a) 0 r (omega arith)
    (λ k l lt. place_off m R a k (omega (arith, long, le, lt, bound)) (first.between k l (omega arith))) in
    let is : c.capped-next.result ≡ min 1048577 (place_of m R 0 a 0) =
    omega (arith, place_zero m R 0 a, c.in_ok-shape.ensures.size, c.capped-next.ensures) in
    let at_none : (r e : ℕ) → start_from c.new-starts.result.list.items r e ≡ e =
    λ r e. ap (λ ss. start_from ss r e) none in
    record {
      next = is ∙ ap (min 1048577) (same j (omega arith));
      within = bound;
      here = λ l. first.here (omega (arith, l, many));
      before = λ r le. at_none r c.capped-next.result ∙ is ∙ ap (min 1048577) (same r le);
      past = λ r e le. at_none r e;
      below = subst (All (λ (s : Start). s.rule < j)) (sym none) (λ k d lt. absurd (omega arith));
      nodes =
          ap (λ l. l ++ bodies_nodes m (drop j R) j) c.in_ok-shape.ensures.nodes
          ∙ append_assoc c.args.measured.now.nodes.items (nodes_in g) (bodies_nodes m (drop j R) j)
          ∙ ap (λ l. c.args.measured.now.nodes.items ++ (nodes_in g ++ l))
          (sym (gap_to (λ k. bodies_nodes m (drop k R) k) 0 j (omega arith)
          (λ k l lt. nodes_off m R k (omega (arith, long, lt, bound)) (first.between k l lt))));
    }

pub loop-number-preserved : goal.loop-number-preserved
loop-number-preserved c =
    let rules = rules_of c.args.rules.now in
    let R = bodies_of rules in
    let m = has c.args.reached.now in
    let a = len (core_of c.args.goal.now) + 1 in
    let k = c.loop-number.number in
    let j = c.next_in-number-in-loop-number.result in
    let first = c.next_in-number-in-loop-number.ensures in
    let many = c.len-count.ensures.count in
    let bound : j ≤ length rules = omega (arith, first.bound, many) in
    let place : ℕ → ℕ = place_of m R 0 a in
    let long : length rules ≡ length R = sym (length-map rules (λ r. core_of r.body)) in
    let lt : k < length R = omega (arith, c.len-count.ensures.count, length-map rules (λ r. core_of r.body)) in
    let inv = c.loop-number.invariant in
    let on : m k ≡ true = inv.here (omega (arith, long, lt)) in
    let turn : place (k + 1) ≡ place k + body_len (slice_get R k) =
    place_turn m R a k lt ∙ ap (λ b. place k + (if b then body_len (slice_get R k) else 0)) on in
    let x : Start = record { rule = k; address = c.loop-number.next } in
    let was = c.loop-number.starts.list.items in
    let now = c.push.new.self.list.items in
    let grown : now ≡ was ++ x ∷ [] = c.in_ok-push.ensures in
    let next = c.capped-next-in-loop-number.result in
    let after : next ≡ min 1048577 (place (k + 1)) =
    omega (arith, turn, inv.next, c.in_ok-size.ensures.size, c.capped-next-in-loop-number.ensures) in
    let same : (r : ℕ) → k + 1 ≤ r → r ≤ j → place (k + 1) ≡ place r =
    λ r l le. gap_to place (k + 1) r l (λ q u v. place_off m R a q (omega (arith, long, le, v, bound))
    (first.between q u (omega arith))) in
    let here : bodies_nodes m (drop k R) k ≡ rule_nodes true (slice_get R k) ++ bodies_nodes m (drop j R) j =
    nodes_on m R k lt on
    ∙ ap (λ l. rule_nodes true (slice_get R k) ++ l) (gap_to (λ q. bodies_nodes m (drop q R) q) (k + 1) j first.from
    (λ q u v. nodes_off m R q (omega (arith, long, v, bound)) (first.between q u v))) in
    let beyond : (r e : ℕ) → k < r → start_from now r e ≡ e =
    λ r e l. ap (λ ss. start_from ss r e) grown ∙ start_past was x r e l ∙ inv.past r e (omega arith) in
    record {
      next = after ∙ ap (min 1048577) (same j first.from (omega arith));
      within = bound;
      here = λ l. first.here (omega (arith, l, many));
      before = λ r le. ⊎_elim
          (λ l. beyond r next l ∙ after ∙ ap (min 1048577) (same r (omega arith) le))
          (λ l. ap (λ ss. start_from ss r next) grown ∙ start_up was x r next l ∙ inv.before r l)
          (cases_lt k r);
      past = λ r e le. beyond r e (let f = first.from in omega arith);
      below = subst (All (λ (s : Start). s.rule < j)) (sym grown)
          (All-push (λ (s : Start). s.rule < j) was x (λ q d l. let b = inv.below q d l in let f = first.from in
          omega arith)
          (let f = first.from in omega arith));
      nodes = listed_turn c.loop-number.measured.nodes.items _ (rule_nodes true (slice_get R k)) _
          (bodies_nodes m (drop j R) j) _ c.in_ok-size.ensures.nodes here inv.nodes;
    }

pub returns-clause-nodes : goal.returns-clause-nodes
returns-clause-nodes c =
    let rules = rules_of c.args.rules.now in
    let R = bodies_of rules in
    let m = has c.args.reached.now in
    let n = c.loop-number.number in
    let none = drop_all n R (omega (arith, c.len-count.ensures.count, length-map rules (λ r. core_of r.body))) in
    sym (ap (λ l. c.loop-number.measured.nodes.items ++ bodies_nodes m l n) none
    ∙ append_nil c.loop-number.measured.nodes.items) ∙ c.loop-number.invariant.nodes

pub returns-clause-layout : goal.returns-clause-layout
returns-clause-layout c =
    let rules = rules_of c.args.rules.now in
    let R = bodies_of rules in
    let g = core_of c.args.goal.now in
    let m = has c.args.reached.now in
    let a = len g + 1 in
    let n = length R in
    let place : ℕ → ℕ = place_of m R 0 a in
    let inv = c.loop-number.invariant in
    let starts = c.loop-number.starts.list.items in
    let next = c.loop-number.next in
    let long : length rules ≡ n = sym (length-map rules (λ r. core_of r.body)) in
    let last : c.loop-number.number ≡ n = omega (arith, long, inv.within, length-map rules (λ r. core_of r.body)) in
    let whole = place_end m R 0 a in
    let is : next ≡ min 1048577 (whole_len m R g) = inv.next ∙ ap (λ k. min 1048577 (place k)) last
    ∙ ap (min 1048577) whole in
    let at : whole_len m R g ≤ 1048576 → (r : ℕ) → start_from starts r next ≡ place r =
    λ small r. ⊎_elim
    (λ lt. inv.before r (omega (arith, last, lt)) ∙ (let low = place_within m R 0 a r in omega (arith, low, small)))
    (λ le. inv.past r next (omega (arith, last, le))
    ∙ (let end = place_past m R 0 a r le in omega (arith, end, is, small)))
    (cases_lt r n) in
    record {
      whole = is;
      each = λ small. fun_ext (λ r. at small r ∙ ap (λ k. place_of m R 0 (k + 1) r) (sym (size_is g)));
    }
