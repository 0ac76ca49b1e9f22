-- The trees of a flat list, by its first node.
use Rattle.std.proofs.Common.{◌≡◌, ℕ, zero, suc, ◌≤◌, List, [], ◌∷◌, length, take, drop, refl, arith}
use Rattle.std.proofs.lemmas.List.{length-take, length-drop}
use Rattle.rpl_tree.specs.Trees.{node_as, trees_of, forest_of}
use Rattle.rpl_tree.specs.declared.node.Node.{Node}

-- more steps than nodes change nothing
trees_enough : (m n : ℕ) (name : ℕ → List ℕ) (ns : List Node) → length ns ≤ m → length ns ≤ n
    → trees_of m name ns ≡ trees_of n name ns
trees_enough zero zero name ns hm hn = refl
trees_enough zero (suc n) name [] hm hn = refl
trees_enough zero (suc n) name (x ∷ ns) hm hn = absurd (omega arith)
trees_enough (suc m) zero name [] hm hn = refl
trees_enough (suc m) zero name (x ∷ ns) hm hn = absurd (omega arith)
trees_enough (suc m) (suc n) name [] hm hn = refl
trees_enough (suc m) (suc n) name (x ∷ ns) hm hn =
    let below = trees_enough m n name (take x.below ns) (omega (arith, length-take x.below ns))
    (omega (arith, length-take x.below ns)) in
    let behind = trees_enough m n name (drop x.below ns) (omega (arith, length-drop x.below ns))
    (omega (arith, length-drop x.below ns)) in
    rw (below, behind) refl

-- the first node over the nodes below it, and the trees of the others
pub forest_of_cons : (name : ℕ → List ℕ) (x : Node) (ns : List Node)
    → forest_of name (x ∷ ns) ≡ node_as name x x.note (forest_of name (take x.below ns))
    (forest_of name (drop x.below ns))
forest_of_cons name x ns =
    let below = trees_enough (length ns) (length (take x.below ns)) name (take x.below ns)
    (omega (arith, length-take x.below ns)) (omega arith) in
    let behind = trees_enough (length ns) (length (drop x.below ns)) name (drop x.below ns)
    (omega (arith, length-drop x.below ns)) (omega arith) in
    rw (below, behind) refl
