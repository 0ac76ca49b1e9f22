-- How nodes are listed, and taken from the list.
use Rattle.std.proofs.Common.{◌≡◌, ℕ, suc, ◌+◌, ◌<◌, List, [], ◌∷◌, ◌++◌, length, drop, get_or, refl, sym, ap, ◌∙◌}
use Rattle.std.proofs.Common.{subst, append_assoc, arith, length-drop}
use Rattle.std.proofs.lemmas.List.{append_cancel_left, set_at}
use Rattle.std.proofs.Math.Seq.{take-append_seam}
use Rattle.std.specs.Prelude.{Bool, true, false, slice_get, slice_set, take}
use Rattle.rpl_core.specs.Core.{Core}
use Rattle.rpl_core.specs.declared.peg.Peg.{Peg}
use Rattle.rpl_core.specs.View.{core_of, cores}
use Rattle.rpl_codegen.specs.declared.size.Node.{Node}
use Rattle.rpl_codegen.specs.declared.size.Nodes.{Nodes}
use Rattle.rpl_codegen.specs.inside.Laid.{bodies_nodes, rule_nodes}
use Rattle.rpl_codegen.specs.inside.Nodes.{behind_nodes, choice_nodes, nodes_in, numbered_nodes, part_nodes}
use Rattle.rpl_codegen.specs.inside.Nodes.{parts_nodes, tested_nodes}
use Rattle.rpl_codegen.specs.inside.Sizes.{len}
use Rattle.rpl_codegen.specs.inside.Taken.{Begins, Takes, left}
use Rattle.rpl_intern.proofs.Adding.{read_at, some_at}
use Rattle.rpl_core.proofs.Walk.{drop_here}
use Rattle.rpl_codegen.proofs.Parts.{drop_last}

-- what a list begins with
pub begins_front : (xs ys zs : List Node) → Begins xs (ys ++ zs) → Begins xs ys
begins_front xs ys zs b = record { rest = zs ++ b.rest; is = b.is ∙ append_assoc ys zs b.rest }

pub as_begins : (xs ys zs : List Node) → ys ≡ zs → Begins xs ys → Begins xs zs
as_begins xs ys zs e b = subst (λ l. Begins xs l) e b

-- what is left after some nodes
pub begins_behind : (p q : Nodes) (xs ys : List Node) → Takes p q xs → Begins (left p) (xs ++ ys) → Begins (left q) ys
begins_behind p q xs ys t b =
    record {
      rest = b.rest;
      is = append_cancel_left xs (left q) (ys ++ b.rest) (sym t.taken ∙ b.is
          ∙ append_assoc xs ys b.rest);
    }

-- no nodes, and some nodes and then others
pub append_nil : (xs : List Node) → (xs ++ []) ≡ xs
append_nil [] = refl
append_nil (x ∷ xs) = ap (λ l. x ∷ l) (append_nil xs)

pub begins_all : (xs ys : List Node) → xs ≡ ys → Begins xs ys
begins_all xs ys e = record { rest = []; is = e ∙ sym (append_nil ys) }

pub takes_none : (p : Nodes) → Takes p p []
takes_none p = record { same = refl; taken = refl }

pub takes_then : (p q r : Nodes) (xs ys : List Node) → Takes p q xs → Takes q r ys → Takes p r (xs ++ ys)
takes_then p q r xs ys t u = record {
  same = u.same ∙ t.same;
  taken = t.taken ∙ ap (λ l. xs ++ l) u.taken ∙ sym (append_assoc xs ys (left r));
}

pub as_taken : (p q : Nodes) (xs ys : List Node) → xs ≡ ys → Takes p q xs → Takes p q ys
as_taken p q xs ys e t = subst (λ l. Takes p q l) e t

-- back to a place, and the same nodes taken again
pub takes_anew : (p q r s : Nodes) (xs ys : List Node) → Takes p q xs → r.list.items ≡ q.list.items → r.next ≡ p.next
    → Takes r s ys → Takes p s ys
takes_anew p q r s xs ys t list next u = record {
  same = u.same ∙ list ∙ t.same;
  taken = ap (λ k. drop k p.list.items) (sym next) ∙ ap (drop r.next) (sym (list ∙ t.same)) ∙ u.taken;
}

pub more_lengths : (n m : ℕ) (xs : List Node) → n ≡ suc m → behind_nodes n xs ≡ xs
more_lengths n m xs e = ap (λ k. behind_nodes k xs) e

-- one part, and the others
pub parts_here : (ps : List Peg) (k : ℕ) (p : Peg) → k < length ps → p ≡ get_or ps k p
    → parts_nodes k (cores (drop k ps)) ≡ part_nodes (len (core_of p)) (numbered_nodes k (core_of p))
    ++ parts_nodes (k + 1) (cores (drop (k + 1) ps))
parts_here ps k p lt is = ap (λ l. parts_nodes k (cores l)) (drop_here ps k p lt is)

tried_more : (p : Peg) (ps : List Peg) → 0 < length ps → choice_nodes (cores (p ∷ ps)) ≡ tested_nodes (core_of p)
    ++ choice_nodes (cores ps)
tried_more p [] lt = absurd (omega arith)
tried_more p (q ∷ ps) lt = refl

pub tried_here : (ps : List Peg) (k : ℕ) (p : Peg) → k + 1 < length ps → p ≡ get_or ps k p
    → choice_nodes (cores (drop k ps)) ≡ tested_nodes (core_of p) ++ choice_nodes (cores (drop (k + 1) ps))
tried_here ps k p lt is = ap (λ l. choice_nodes (cores l)) (drop_here ps k p (omega arith) is)
    ∙ tried_more p (drop (k + 1) ps) (omega (arith, length-drop (k + 1) ps))

pub last_here : (ps : List Peg) (k : ℕ) (p : Peg) → k + 1 ≡ length ps → p ≡ get_or ps k p
    → choice_nodes (cores (drop k ps)) ≡ nodes_in (core_of p)
last_here ps k p last is = ap (λ l. choice_nodes (cores l)) (drop_last ps k p last is)

-- one rule, and the others
nodes_here : (marks : ℕ → Bool) (R : List Core) (k : ℕ) → k < length R
    → bodies_nodes marks (drop k R) k ≡ rule_nodes (marks k) (slice_get R k)
    ++ bodies_nodes marks (drop (k + 1) R) (k + 1)
nodes_here marks R k lt =
    let x = some_at R k lt in
    ap (λ l. bodies_nodes marks l k) (drop_here R k x.0 lt (sym (read_at R k x.0 x.1)))
    ∙ ap (λ o. rule_nodes (marks k) o ++ bodies_nodes marks (drop (k + 1) R) (k + 1)) (sym x.1)

-- a rule that is marked, and one that isn't
pub nodes_on : (marks : ℕ → Bool) (R : List Core) (k : ℕ) → k < length R → marks k ≡ true
    → bodies_nodes marks (drop k R) k ≡ rule_nodes true (slice_get R k) ++ bodies_nodes marks (drop (k + 1) R) (k + 1)
nodes_on marks R k lt on =
    nodes_here marks R k lt ∙ ap (λ b. rule_nodes b (slice_get R k) ++ bodies_nodes marks (drop (k + 1) R) (k + 1)) on

pub nodes_off : (marks : ℕ → Bool) (R : List Core) (k : ℕ) → k < length R → marks k ≡ false
    → bodies_nodes marks (drop k R) k ≡ bodies_nodes marks (drop (k + 1) R) (k + 1)
nodes_off marks R k lt off = nodes_here marks R k lt
    ∙ ap (λ b. rule_nodes b (slice_get R k) ++ bodies_nodes marks (drop (k + 1) R) (k + 1)) off

-- more nodes in a list
pub listed_turn : (s t xs r u z : List Node) → t ≡ s ++ xs → r ≡ xs ++ u → (s ++ r) ≡ z → (t ++ u) ≡ z
listed_turn s t xs r u z e f g = ap (λ l. l ++ u) e ∙ append_assoc s xs u ∙ ap (λ l. s ++ l) (sym f) ∙ g

-- a node in its place, once it is known
pub filled : (old mid new : List Node) (slot n : Node) (inner : List Node) (place : ℕ) → mid ≡ old ++ slot ∷ []
    → new ≡ mid ++ inner → place ≡ length old → slice_set new place n ≡ old ++ n ∷ inner
filled old mid new slot n inner place e f is =
    ap (λ l. slice_set l place n) (f ∙ ap (λ l. l ++ inner) e ∙ append_assoc old (slot ∷ []) inner)
    ∙ set_at old slot inner n place (sym is)

-- what was added after a node is taken back with the node
pub taken_back : (old mid new : List Node) (slot : Node) (inner : List Node) (place : ℕ) → mid ≡ old ++ slot ∷ []
    → new ≡ mid ++ inner → place ≡ length old → take place new ≡ old
taken_back old mid new slot inner place e f is =
    ap (λ l. take place l) (f ∙ ap (λ l. l ++ inner) e ∙ append_assoc old (slot ∷ []) inner)
    ∙ ap (λ n. take n (old ++ slot ∷ inner)) is ∙ take-append_seam old (slot ∷ inner)
