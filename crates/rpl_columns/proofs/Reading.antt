-- How the nodes of a line go on, one after the other.
use Rattle.std.proofs.Common.{◌≡◌, ℕ, zero, suc, ◌-◌, ◌≤◌, List, [], ◌∷◌, ◌++◌, length, drop, Option, None, Some, refl}
use Rattle.std.proofs.Common.{sym, ap, ◌∙◌, arith, append_assoc}
use Rattle.rpl_columns.specs.Nodes.{Seen, nodes_in, step_in, with_first, with_front, go_on, at_end, tree_in}
use Rattle.rpl_columns.specs.Nodes.{seen, if_found}
use Rattle.rpl_columns.specs.declared.node.Node.{Node}
use Rattle.std.proofs.lemmas.List.{map_push, drop_all}
use Rattle.std.proofs.Math.Seq.{drop-cons}
use Rattle.std.proofs.lemmas.Bool.Decides.{eqb_tells}
use Rattle.std.proofs.Common.{inl, inr, map, append-nil, nat_eq}

nodes_step : (k d : ℕ) (rest : List ℕ) (s : Seen) (d' : ℕ) (rest' : List ℕ) → Some (s, (d', rest')) ≡ step_in d rest
    → nodes_in (suc k) d rest ≡ with_first s (go_on (nodes_in k) d' rest')
unfolding nodes_in
nodes_step k d rest s d' rest' e = rw (← e) refl

nodes_none : (k d : ℕ) (rest : List ℕ) → None ≡ step_in d rest → nodes_in (suc k) d rest ≡ None
unfolding nodes_in
nodes_none k d rest e = rw (← e) refl

front_first : (ns : List Seen) (s : Seen) (more : Option (List Seen))
    → with_front ns (with_first s more) ≡ with_front (ns ++ s ∷ []) more
front_first ns s None = refl
front_first ns s (Some ms) = ap Some (sym (append_assoc ns (s ∷ []) ms))

goes_on : (read : ℕ → List ℕ → Option (List Seen)) (d : ℕ) (rest : List ℕ) → (d ≡ 0 → ⊥)
    → go_on read d rest ≡ read d rest
goes_on read zero rest h = absurd (h refl)
goes_on read (suc d) rest h = refl

with_none : (more : Option (List Seen)) → more ≡ with_front [] more
with_none None = refl
with_none (Some ns) = refl

-- one node more
pub step_on : (whole : Option (List Seen)) (ns : List Seen) (k d : ℕ) (rest : List ℕ) (s : Seen) (d' : ℕ) (rest' :
    List ℕ) → whole ≡ with_front ns (nodes_in (suc k) d rest) → Some (s, (d', rest')) ≡ step_in d rest → (d' ≡ 0 → ⊥)
    → whole ≡ with_front (ns ++ s ∷ []) (nodes_in k d' rest')
step_on whole ns k d rest s d' rest' h e some =
    h ∙ ap (with_front ns) (nodes_step k d rest s d' rest' e ∙ ap (with_first s) (goes_on (nodes_in k) d' rest' some))
    ∙ front_first ns s (nodes_in k d' rest')

-- the last node
pub step_last : (whole : Option (List Seen)) (ns : List Seen) (k d : ℕ) (rest : List ℕ) (s : Seen) (d' : ℕ) (rest' :
    List ℕ) → whole ≡ with_front ns (nodes_in (suc k) d rest) → Some (s, (d', rest')) ≡ step_in d rest → d' ≡ 0
    → whole ≡ with_front (ns ++ s ∷ []) (at_end rest')
step_last whole ns k d rest s d' rest' h e none =
    h ∙ ap (with_front ns) (nodes_step k d rest s d' rest' e ∙ ap (λ n. with_first s (go_on (nodes_in k) n rest')) none)
    ∙ front_first ns s (at_end rest')

-- no node
pub step_none : (whole : Option (List Seen)) (ns : List Seen) (k d : ℕ) (rest : List ℕ)
    → whole ≡ with_front ns (nodes_in (suc k) d rest) → None ≡ step_in d rest → whole ≡ None
step_none whole ns k d rest h e = h ∙ ap (with_front ns) (nodes_none k d rest e)

-- at first all is left
pub begin_tree : (line : List ℕ) (nodes : List Node) → nodes ≡ []
    → tree_in line ≡ with_front (map (seen line) nodes) (nodes_in (suc (length line - length nodes)) 0 line)
unfolding tree_in
begin_tree line nodes e =
    let none : length line ≡ length line - length {A = Node} [] = omega arith in
    with_none (nodes_in (suc (length line)) 0 line)
    ∙ ap (λ k. with_front [] (nodes_in (suc k) 0 line)) none
    ∙ ap (λ ns. with_front (map (seen line) ns) (nodes_in (suc (length line - length ns)) 0 line)) (sym e)

-- the nodes with one more
pub pushed : (line : List ℕ) (nodes : List Node) (node : Node) (all : List Node) → all ≡ nodes ++ node ∷ []
    → map (seen line) nodes ++ seen line node ∷ [] ≡ map (seen line) all
pushed line nodes node all e = sym (ap (map (seen line)) e ∙ map_push (seen line) nodes node)

-- the tree's end is the line's, or isn't
pub ended : (line : List ℕ) (at : ℕ) (ns : List Seen) → at ≤ length line
    → with_front ns (at_end (drop at line)) ≡ if_found (nat_eq at (length line)) ns
ended line at ns le =
    elim (eqb_tells at (length line)) [
      | inl same ↦
          rw (same.0, drop_all at line (omega (arith, same.1))) (ap Some (append-nil ns))
      | inr other ↦
          rw (other.0, drop-cons line at 0 (omega (arith, other.1))) refl
    ]
