use Rattle.std.proofs.Common.{◌≡◌, ◌+◌, ◌-◌, ◌<◌, ◌⊎◌, ◌∷◌, drop, length, vec_len, None, inl, inr, refl, sym, ap, ◌∙◌}
use Rattle.std.proofs.Common.{arith, ◌++◌, append_assoc}
use Rattle.std.specs.Prelude.{false, reverse, slice_get, codes}
use Rattle.std.proofs.lemmas.Bool.{false≢true}
use Rattle.std.proofs.lemmas.List.{append-nil}
use Rattle.rpl_encode.specs.inside.Walk.{rest_of}
use Rattle.rpl_encode.proofs.Nodes.{got_within}
use Rattle.rpl_encode.proofs.Walking.{stepped, reverse_last, leaf_step, subs_step, close_step, nearer, pending, one_if}
use Rattle.rpl_encode.proofs.Walking.{popped}
use Rattle.rpl_encode.proofs.tree.put_below.Goals as goal
use Rattle.rpl_encode.proofs.tree.put_below.Goals.{in_default-get-via-in-Some-get+else-left-gt0}
use Rattle.rpl_encode.proofs.tree.put_below.Goals.{in_default-get-via-in_default-get}

pub loop-innermost-preserved-in_ok-open_list-in-Some-get : goal.loop-innermost-preserved-in_ok-open_list-in-Some-get
loop-innermost-preserved-in_ok-open_list-in-Some-get c =
    let labels = c.args.source.fronts.now in
    let has = c.has_subs-has_subs.ensures.0 c.if-has_subs.true in
    let was = ap (λ o. pending o c.loop-innermost.lists.items) c.in-Some.is in
    let now = ap (λ q. c.min-below.result ∷ q) (ap reverse c.in_ok-open_list-in-Some-get.ensures.items
    ∙ reverse_last c.loop-innermost.lists.items (c.in-Some.left - 1 - c.min-below.result)) in
    let step = subs_step labels c.args.source.line.now c.args.forest.now c.loop-innermost.index c.in-Some.left
    c.min-below.result c.in-Some-get.node _ _ _ c.loop-innermost.is_first c.has_subs-has_subs.result
    (sym c.in-Some-get.ensures) (omega arith) c.min-below.ensures was now c.if-has_subs.true has.0 has.1
    (omega (arith, has.2, c.len-count.ensures)) in
    stepped ◌++◌ append_assoc c.loop-innermost.out c.put_node.new.out _ _ _ _ c.in_ok-put_node-in-Some-get.ensures step
    c.loop-innermost.invariant

pub loop-innermost-smaller-else-has_subs : goal.loop-innermost-smaller-else-has_subs
loop-innermost-smaller-else-has_subs c =
    nearer (length c.args.forest.now) c.loop-innermost.index c.saturating_add-index.result c.min-below.result _ _
    (got_within c.args.forest.now c.loop-innermost.index c.in-Some-get.node (sym c.in-Some-get.ensures))
    (omega (arith, c.len-count.ensures)) c.saturating_add-index.ensures
    (ap (λ o. vec_len c.loop-innermost.lists + one_if o) (sym c.in-Some.is))

pub loop-innermost-preserved-else-has_subs : goal.loop-innermost-preserved-else-has_subs
loop-innermost-preserved-else-has_subs c =
    let labels = c.args.source.fronts.now in
    let was = ap (λ o. pending o c.loop-innermost.lists.items) c.in-Some.is in
    let has : (c.in-Some-get.node.note ≡ None) × (0 < c.min-below.result)
    × (c.loop-innermost.index + 1 < length c.args.forest.now) → ⊥ =
    λ h. false≢true (sym c.if-has_subs.false
    ∙ c.has_subs-has_subs.ensures.1 (h.0, h.1, omega (arith, h.2, c.len-count.ensures))) in
    let step = leaf_step labels c.args.source.line.now c.args.forest.now c.loop-innermost.index
    c.saturating_add-index.result c.in-Some.left c.min-below.result c.in-Some-get.node _ _
    (reverse c.loop-innermost.lists.items) c.loop-innermost.is_first c.has_subs-has_subs.result
    (sym c.in-Some-get.ensures) (omega arith) (omega (arith, c.len-count.ensures)) c.min-below.ensures
    c.saturating_add-index.ensures was refl c.if-has_subs.false has in
    stepped ◌++◌ append_assoc c.loop-innermost.out c.put_node.new.out _ _ _ _ c.in_ok-put_node-in-Some-get.ensures step
    c.loop-innermost.invariant

pub loop-innermost-preserved : goal.loop-innermost-preserved
loop-innermost-preserved c =
    let labels = c.args.source.fronts.now in
    let was = ap (λ o. pending o c.loop-innermost.lists.items) c.in-Some.is in
    let done : (c.in-Some.left ≡ 0) ⊎ (slice_get c.args.forest.now c.loop-innermost.index ≡ None) =
    elim c.in_default-get.branch [
      | in_default-get-via-in-Some-get+else-left-gt0 w ↦ inl (omega (arith, w.if-left-gt0.false))
      | in_default-get-via-in_default-get w ↦ inr (sym c.get.ensures ∙ w.in_default-get.is)
    ] in
    let around = popped c.pop-innermost-in_default-get.result c.loop-innermost.lists.items
    c.pop-innermost-in_default-get.new.self.items (vec_len c.loop-innermost.lists) (omega arith)
    c.pop-innermost-in_default-get.ensures.items c.pop-innermost-in_default-get.ensures.variant in
    let step = close_step labels c.args.source.line.now c.args.forest.now c.loop-innermost.index c.in-Some.left _ _
    c.loop-innermost.is_first was done
    ∙ ap (λ q. codes "]}" ++ rest_of labels c.args.source.line.now (drop c.loop-innermost.index c.args.forest.now) q
    false) around in
    stepped ◌++◌ append_assoc c.loop-innermost.out c.put.new.self _ _ _ _ c.in_ok-put-in_default-get.ensures step
    c.loop-innermost.invariant

pub returns-clause-text : goal.returns-clause-text
returns-clause-text c =
    let none = ap (λ o. pending o c.loop-innermost.lists.items) c.in_default.is in
    sym (ap (λ q. c.loop-innermost.out ++ rest_of c.args.source.fronts.now c.args.source.line.now
    (drop c.loop-innermost.index c.args.forest.now) q c.loop-innermost.is_first) none
    ∙ append-nil c.loop-innermost.out)
    ∙ c.loop-innermost.invariant
