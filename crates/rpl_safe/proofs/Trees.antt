-- Captures that are the beginning of one tree.
use Rattle.std.proofs.Common.{◌≡◌, ℕ, zero, suc, ◌+◌, ◌<◌, List, [], ◌∷◌, ◌++◌, Option, Some, None, refl, sym, ap, ◌∙◌}
use Rattle.std.proofs.Common.{arith, append_assoc}
use Rattle.rpl_core.specs.Forest.{Forest, NoTree, Tree, Noted, Caught, Begin, Finish, Mark, flat, begins, finishes}
use Rattle.rpl_safe.specs.Laws.{IsOneTree}

-- how many trees are open after the captures, where k were before them; None where one comes when none is open
abbrev pub left : ℕ → List Caught → Option ℕ
left k [] = Some k
left zero (x ∷ cs) = None
left (suc k) (Begin c i ∷ cs) = left (suc (suc k)) cs
left (suc k) (Finish i ∷ cs) = left k cs
left (suc k) (Mark x i ∷ cs) = left (suc k) cs

-- the captures begin one tree, and k trees are open after them
abbrev pub Opens : List Caught → ℕ → Type 0
Opens [] k = ⊥
Opens (Begin c i ∷ cs) k = left 1 cs ≡ Some k
Opens (Finish i ∷ cs) k = ⊥
Opens (Mark x i ∷ cs) k = ⊥

left_append : (k m : ℕ) (cs : List Caught) (x : Caught) → left k cs ≡ Some m → left k (cs ++ x ∷ []) ≡ left m (x ∷ [])
left_append k m [] x e = let z : k ≡ m = cc in ap (λ n. left n (x ∷ [])) z
left_append zero m (y ∷ cs) x e = absurd (cc)
left_append (suc k) m (Begin c i ∷ cs) x e = left_append (suc (suc k)) m cs x e
left_append (suc k) m (Finish i ∷ cs) x e = left_append k m cs x e
left_append (suc k) m (Mark t i ∷ cs) x e = left_append (suc k) m cs x e

-- one capture more, where a tree is open
opens_more : (cs : List Caught) (k m : ℕ) (x : Caught) → left k (x ∷ []) ≡ Some m → Opens cs k → Opens (cs ++ x ∷ []) m
opens_more [] k m x q h = absurd h
opens_more (Begin c i ∷ cs) k m x q h = left_append 1 k cs x h ∙ q
opens_more (Finish i ∷ cs) k m x q h = absurd h
opens_more (Mark t i ∷ cs) k m x q h = absurd h

pub opens_begin : (cs : List Caught) (k : ℕ) (c : List ℕ) (i : ℕ) → 0 < k → Opens cs k
    → Opens (cs ++ Begin c i ∷ []) (suc k)
opens_begin cs zero c i lt h = absurd (omega (arith, lt))
opens_begin cs (suc k) c i lt h = opens_more cs (suc k) (suc (suc k)) (Begin c i) refl h

pub opens_mark : (cs : List Caught) (k : ℕ) (x : List ℕ) (i : ℕ) → 0 < k → Opens cs k → Opens (cs ++ Mark x i ∷ []) k
opens_mark cs zero x i lt h = absurd (omega (arith, lt))
opens_mark cs (suc k) x i lt h = opens_more cs (suc k) (suc k) (Mark x i) refl h

pub opens_finish : (cs : List Caught) (k : ℕ) (i : ℕ) → Opens cs (suc k) → Opens (cs ++ Finish i ∷ []) k
opens_finish cs k i h = opens_more cs (suc k) k (Finish i) refl h

-- the beginnings are the ends and those that are open
left_counts : (k m : ℕ) (cs : List Caught) → left k cs ≡ Some m → k + begins cs ≡ finishes cs + m
left_counts k m [] e = let z : k ≡ m = cc in omega (arith, z)
left_counts zero m (y ∷ cs) e = absurd (cc)
left_counts (suc k) m (Begin c i ∷ cs) e = omega (arith, left_counts (suc (suc k)) m cs e)
left_counts (suc k) m (Finish i ∷ cs) e = omega (arith, left_counts k m cs e)
left_counts (suc k) m (Mark t i ∷ cs) e = left_counts (suc k) m cs e

pub opens_counts : (cs : List Caught) (k : ℕ) → Opens cs k → begins cs ≡ finishes cs + k
opens_counts [] k h = absurd h
opens_counts (Begin c i ∷ cs) k h = omega (arith, left_counts 1 k cs h)
opens_counts (Finish i ∷ cs) k h = absurd h
opens_counts (Mark t i ∷ cs) k h = absurd h

-- trees, an end, and so on for each tree that is open
abbrev Ends : ℕ → List Caught → Type 0
Ends zero cs = cs ≡ []
Ends (suc k) cs = (f : Forest) × (j : ℕ) × (rest : List Caught) × (cs ≡ flat f ++ Finish j ∷ rest) × Ends k rest

ends : (k : ℕ) (cs : List Caught) → left k cs ≡ Some 0 → Ends k cs
ends zero [] e = refl
ends (suc k) [] e = absurd (cc)
ends zero (x ∷ cs) e = absurd (cc)
ends (suc k) (Begin c i ∷ cs) e =
    let h = ends (suc (suc k)) cs e in
    let g = h.4 in
    let same : flat h.0 ++ Finish h.1 ∷ (flat g.0 ++ Finish g.1 ∷ g.2) ≡ (flat h.0 ++ Finish h.1 ∷ flat g.0)
    ++ Finish g.1 ∷ g.2 = sym (append_assoc (flat h.0) (Finish h.1 ∷ flat g.0) (Finish g.1 ∷ g.2)) in (
      Tree c i h.1 h.0 g.0,
      g.1,
      g.2,
      ap (λ l. Begin c i ∷ l) (h.3 ∙ ap (λ l. flat h.0 ++ Finish h.1 ∷ l) g.3 ∙ same),
      g.4,
    )
ends (suc k) (Finish i ∷ cs) e = (NoTree, i, cs, refl, ends k cs e)
ends (suc k) (Mark t i ∷ cs) e = let h = ends (suc k) cs e in (Noted t i h.0, h.1, h.2, ap (λ l. Mark t i ∷ l) h.3, h.4)

-- where none is open any more it is one tree
pub opens_tree : (cs : List Caught) → Opens cs 0 → IsOneTree cs
opens_tree [] h = absurd h
opens_tree (Begin c i ∷ cs) h =
    let e = ends 1 cs h in
    (c, i, e.1, e.0, ap (λ l. Begin c i ∷ l) (e.3 ∙ ap (λ l. flat e.0 ++ Finish e.1 ∷ l) e.4))
opens_tree (Finish i ∷ cs) h = absurd h
opens_tree (Mark t i ∷ cs) h = absurd h
