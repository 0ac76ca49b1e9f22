-- The nodes of one tree.
use Rattle.std.proofs.Common.{◌≡◌, ℕ, zero, suc, ◌≤◌, List, [], ◌∷◌, ◌++◌, length, take, drop, Option, Some}
use Rattle.std.proofs.Common.{None, refl, sym, ap, ◌∙◌, arith, append-nil}
use Rattle.std.proofs.lemmas.List.{length-drop}
use Rattle.rpl_core.specs.Forest.{Forest, NoTree, Tree, Noted}
use Rattle.rpl_core.specs.declared.caught.Caught.{Caught}
use Rattle.std.specs.Prelude.{All}
use Rattle.rpl_tree.specs.Trees.{IsLeaf, Write, nothing, a_tree, a_note, node_as, trees_of, forest_of}
use Rattle.rpl_tree.specs.declared.node.Node.{Node}
use Rattle.rpl_unittest.specs.Laws.{BuiltAsOneTree}
use Rattle.rpl_unittest.specs.Seen.{AreOneTree}

-- no trees are those of no nodes alone
no_nodes : (most : ℕ) (name : ℕ → List ℕ) (ns : List Node) → length ns ≤ most → trees_of most name ns ≡ NoTree → ns ≡ []
no_nodes zero name [] le e = refl
no_nodes zero name (n ∷ ns) le e = absurd (omega arith)
no_nodes (suc most) name [] le e = refl
no_nodes (suc most) name (n ∷ ns) le e =
    absurd (some n.note (trees_of most name (take n.below ns)) (trees_of most name (drop n.below ns)) e)
  where
    some : (o : Option ℕ) (b d : Forest) → node_as name n o b d ≡ NoTree → ⊥
    some None b d h = cc
    some (Some t) b d h = cc

-- what stands after a tree that is alone
behind_none : (name : ℕ → List ℕ) (n : Node) (o : Option ℕ) (b d : Forest) (label : List ℕ) (start end : ℕ)
    (below : Forest) → node_as name n o b d ≡ Tree label start end below NoTree → d ≡ NoTree
behind_none name n None b d label start end below e = cc
behind_none name n (Some t) b d label start end below e = absurd (cc)

drop_front : (xs ys : List Node) → drop (length xs) (xs ++ ys) ≡ ys
drop_front [] ys = refl
drop_front (x ∷ xs) ys = drop_front xs ys

alone : (name : ℕ → List ℕ) (ns : List Node) (cs : List Caught) (label : List ℕ) (start end : ℕ) (below : Forest) →
    Write ns cs → forest_of name ns ≡ Tree label start end below NoTree → All IsLeaf ns → AreOneTree ns
alone name _ _ label start end below nothing t l = absurd (cc)
alone name _ _ label start end below (a_tree k s e bl bh inside after w v) t l =
    let n : Node = record { label = k; note = None; start = s; end = e; below = length bl } in
    let most = length (bl ++ bh) in
    let d =
    behind_none name n None (trees_of most name (take (length bl) (bl ++ bh)))
    (trees_of most name (drop (length bl) (bl ++ bh))) label start end below t in
    let less : length (drop (length bl) (bl ++ bh)) ≤ length (bl ++ bh) =
    omega (arith, length-drop (length bl) (bl ++ bh)) in
    let none : bh ≡ [] =
    sym (drop_front bl bh) ∙ no_nodes most name (drop (length bl) (bl ++ bh)) less d in
    (refl, ap length (sym (ap (λ x. bl ++ x) none ∙ append-nil bl)), l)
alone name _ _ label start end below (a_note text place bh after w) t l = absurd (note_alone t)
  where
    note_alone : Noted (name text) place (trees_of (length bh) name bh) ≡ Tree label start end below NoTree → ⊥
    note_alone h = cc

pub built_as_one_holds : BuiltAsOneTree
built_as_one_holds caught nodes name label start end below h =
    alone name nodes caught label start end below h.captures h.trees h.leaves
