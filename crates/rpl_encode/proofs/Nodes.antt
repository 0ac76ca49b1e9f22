-- The trees of a flat list, node by node.
use Rattle.std.proofs.Common.{inl, inr, ◌≡◌, ℕ, suc, ◌+◌, ◌-◌, ◌<◌, ◌≤◌, List, ◌∷◌, length, take, drop, min, Some, None}
use Rattle.std.proofs.Common.{refl, sym, ap, ◌∙◌, arith}
use Rattle.std.proofs.lemmas.List.{length-take, take-take, take_all, drop_all, drop-drop, drop-take}
use Rattle.std.proofs.lemmas.Bool.{cases_lt}
use Rattle.std.proofs.lemmas.Option.{get_or_from_slice_get, slice_get_cases}
use Rattle.std.proofs.Math.Seq.{drop-cons}
use Rattle.std.specs.Prelude.{slice_get}
use Rattle.rpl_tree.specs.declared.node.Node.{Node}

-- among the next k nodes, those below the first and those after it
pub take_within : (k below : ℕ) (ns : List Node) → take below (take k ns) ≡ take (min below k) ns
take_within k below ns =
    elim (cases_lt below k) [
      | inl lt ↦
          let least : min below k ≡ below = omega arith in
          rw least (take-take below k ns (omega arith))
      | inr le ↦
          let least : min below k ≡ k = omega arith in
          rw least (take_all below (take k ns) (omega (arith, length-take k ns)))
    ]

pub drop_within : (k below : ℕ) (ns : List Node)
    → drop below (take k ns) ≡ take (k - min below k) (drop (min below k) ns)
drop_within k below ns =
    elim (cases_lt below k) [
      | inl lt ↦
          let least : min below k ≡ below = omega arith in
          let whole : below + (k - below) ≡ k = omega arith in
          rw least (ap (λ n. drop below (take n ns)) (sym whole) ∙ drop-take below (k - below) ns)
      | inr le ↦
          let least : min below k ≡ k = omega arith in
          let none : k - k ≡ 0 = omega arith in
          rw (least, none) (drop_all below (take k ns) (omega (arith, length-take k ns)))
    ]

pub drop_behind : (k below : ℕ) (ns : List Node) → drop (k - min below k) (drop (min below k) ns) ≡ drop k ns
drop_behind k below ns =
    let whole : min below k + (k - min below k) ≡ k = omega arith in
    drop-drop (k - min below k) (min below k) ns ∙ ap (λ n. drop n ns) whole

-- the node with a number, and those after it
pub got_within : (ns : List Node) (i : ℕ) (x : Node) → slice_get ns i ≡ Some x → i < length ns
got_within ns i x e =
    elim (slice_get_cases ns i).1 [ inl w ↦ w.1 | inr w ↦ absurd (let n : None ≡ Some x = sym w.1 ∙ e in (cc)) ]

pub got_none : (ns : List Node) (i : ℕ) → slice_get ns i ≡ None → length ns ≤ i
got_none ns i e = elim (slice_get_cases ns i).1 [
  | inl w ↦ absurd (let n : Some w.0 ≡ None = sym w.2 ∙ e in cc)
  | inr w ↦
      w.0
]

pub drop_got : (ns : List Node) (i : ℕ) (x : Node) → slice_get ns i ≡ Some x → drop i ns ≡ x ∷ drop (i + 1) ns
drop_got ns i x e =
    let one : i + 1 ≡ suc i = omega arith in
    rw one (drop-cons ns i x (got_within ns i x e) ∙ ap (λ y. y ∷ drop (suc i) ns) (get_or_from_slice_get ns i x x e))

-- a number that is capped after the last node
pub drop_capped : (ns : List Node) (n most : ℕ) → length ns ≤ most → drop (min n most) ns ≡ drop n ns
drop_capped ns n most fits =
    elim (cases_lt n most) [
      | inl lt ↦ let least : min n most ≡ n = omega arith in rw least refl
      | inr le ↦ let least : min n most ≡ most = omega arith in
          rw least (drop_all most ns fits ∙ sym (drop_all n ns (omega arith)))
    ]
