-- The parts of a sequence that make code: only these have nodes, and the others are passed over.
use Rattle.std.proofs.Common.{◌≡◌, ℕ, zero, suc, ◌+◌, ◌-◌, ◌<◌, ◌≤◌, List, [], ◌∷◌, ◌++◌, length, drop, take, get_or}
use Rattle.std.proofs.Common.{refl, sym, ap, ◌∙◌, subst, arith}
use Rattle.std.proofs.lemmas.List.{drop_all, get_or_default, nil_from_length}
use Rattle.rpl_core.specs.Code.{code, code_all}
use Rattle.rpl_core.specs.declared.peg.Peg.{Peg}
use Rattle.rpl_core.specs.View.{core_of, cores}
use Rattle.rpl_core.proofs.Walk.{drop_here}
use Rattle.rpl_codegen.specs.declared.size.Node.{Node}
use Rattle.rpl_codegen.specs.declared.size.Nodes.{Nodes}
use Rattle.rpl_codegen.specs.inside.Nodes.{inner_nodes, numbered_nodes, part_node, part_nodes, parts_nodes}
use Rattle.rpl_codegen.specs.inside.Sizes.{capped_len, len, len_all}
use Rattle.rpl_codegen.specs.inside.Taken.{Begins, Takes, left, part_at, size_at}
use Rattle.rpl_codegen.proofs.Lengths.{code_length}
use Rattle.rpl_codegen.proofs.Parts.{part_of}
use Rattle.rpl_codegen.proofs.Taking.{as_begins, as_taken, begins_behind, takes_then}
use Rattle.rpl_intern.proofs.Adding.{read_at, some_at}

-- where the part p with this number comes next, after the first k parts: it has code, and those before it have none
pub record ComesNext (at : ℕ → ℕ) (ps : List Peg) (k number : ℕ) (p : Peg) : Type 0 where
  pub inside : number < length ps
  pub is : p ≡ get_or ps number p
  pub some : 0 < len (core_of p)
  pub sum : len_all (cores (drop k ps)) ≡ len (core_of p) + len_all (cores (drop (number + 1) ps))
  pub nodes : parts_nodes k (cores (drop k ps)) ≡ numbered_nodes number (core_of p)
      ++ parts_nodes (number + 1) (cores (drop (number + 1) ps))
  pub code : (a : ℕ) → code_all at (cores (drop k ps)) a ≡ code at (core_of p) a
      ++ code_all at (cores (drop (number + 1) ps)) (a + length (code at (core_of p) a))

pub some_nodes : (n m : ℕ) (ns : List Node) → n ≡ suc m → part_nodes n ns ≡ ns
some_nodes n m ns e = ap (λ k. part_nodes k ns) e

pub no_nodes : (n : ℕ) (ns : List Node) → n ≡ 0 → part_nodes n ns ≡ []
no_nodes n ns e = ap (λ k. part_nodes k ns) e

-- the part with the number k makes code
here : (at : ℕ → ℕ) (ps : List Peg) (k : ℕ) (p : Peg) (m : ℕ) → k < length ps → p ≡ get_or ps k p
    → len (core_of p) ≡ suc m → ComesNext at ps k k p
here at ps k p m lt is e =
    let d = drop_here ps k p lt is in
    let rest = parts_nodes (k + 1) (cores (drop (k + 1) ps)) in record {
      inside = lt;
      is = is;
      some = omega (arith, e);
      sum = ap (λ l. len_all (cores l)) d;
      nodes = ap (λ l. parts_nodes k (cores l)) d
          ∙ ap (λ l. l ++ rest) (some_nodes (len (core_of p)) m (numbered_nodes k (core_of p)) e);
      code = λ a. ap (λ l. code_all at (cores l) a) d;
    }

-- it makes none, and another comes next after it
later : (at : ℕ → ℕ) (ps : List Peg) (k number : ℕ) (p q : Peg) → k < length ps → p ≡ get_or ps k p
    → len (core_of p) ≡ 0 → ComesNext at ps (k + 1) number q → ComesNext at ps k number q
later at ps k number p q lt is e c =
    let d = drop_here ps k p lt is in
    let s = ap (λ l. len_all (cores l)) d in
    let rest = cores (drop (k + 1) ps) in record {
      inside = c.inside;
      is = c.is;
      some = c.some;
      sum = omega (arith, s, e, c.sum);
      nodes = ap (λ l. parts_nodes k (cores l)) d
          ∙ ap (λ l. l ++ parts_nodes (k + 1) rest) (no_nodes (len (core_of p)) (numbered_nodes k (core_of p)) e)
          ∙ c.nodes;
      code = λ a.
          let none : code at (core_of p) a ≡ [] = nil_from_length (code at (core_of p) a) (code_length at (core_of p) a
          ∙ e) in
          ap (λ l. code_all at (cores l) a) d
          ∙ ap (λ l. l ++ code_all at rest (a + length l)) none
          ∙ ap (λ b. code_all at rest b) (omega arith)
          ∙ c.code a;
    }

by_case : (at : ℕ → ℕ) (ps : List Peg) (k : ℕ) (p : Peg) → k < length ps → p ≡ get_or ps k p → (m : ℕ)
    → len (core_of p) ≡ m → (len (core_of p) ≡ 0 → (number : ℕ) × (q : Peg) × ComesNext at ps (k + 1) number q)
    → (number : ℕ) × (q : Peg) × ComesNext at ps k number q
by_case at ps k p inside is zero f others = let x = others f in (x.0, x.1, later at ps k x.0 p x.1 inside is f x.2)
by_case at ps k p inside is (suc m) f others = (k, p, here at ps k p m inside is f)

next_from : (at : ℕ → ℕ) (ps : List Peg) (n k : ℕ) → n + k ≡ length ps → 0 < len_all (cores (drop k ps))
    → (number : ℕ) × (p : Peg) × ComesNext at ps k number p
next_from at ps zero k e lt = absurd (let none = ap (λ l. len_all (cores l)) (drop_all k ps (omega (arith, e))) in
    omega (arith, none))
next_from at ps (suc n) k e lt =
    let inside : k < length ps = omega (arith, e) in
    let x = some_at ps k inside in
    let is = sym (read_at ps k x.0 x.1) in
    by_case at ps k x.0 inside is (len (core_of x.0)) refl (λ f. let s =
    ap (λ l. len_all (cores l)) (drop_here ps k x.0 inside is) in
    next_from at ps n (k + 1) (omega (arith, e)) (omega (arith, s, f, lt)))

-- where there is still code, a part comes next
pub comes_next : (at : ℕ → ℕ) (ps : List Peg) (k : ℕ) → k ≤ length ps → 0 < len_all (cores (drop k ps))
    → (number : ℕ) × (p : Peg) × ComesNext at ps k number p
comes_next at ps k le lt = next_from at ps (length ps - k) k (omega arith) lt

-- where there is no more code, no nodes are left
none_left : (ps : List Peg) (n k : ℕ) → n + k ≡ length ps → len_all (cores (drop k ps)) ≡ 0
    → parts_nodes k (cores (drop k ps)) ≡ []
none_left ps zero k e z = ap (λ l. parts_nodes k (cores l)) (drop_all k ps (omega (arith, e)))
none_left ps (suc n) k e z =
    let inside : k < length ps = omega (arith, e) in
    let x = some_at ps k inside in
    let p = x.0 in
    let d = drop_here ps k p inside (sym (read_at ps k p x.1)) in
    let s = ap (λ l. len_all (cores l)) d in
    let rest = none_left ps n (k + 1) (omega (arith, e)) (omega (arith, s, z)) in
    ap (λ l. parts_nodes k (cores l)) d
    ∙ ap (λ l. l ++ parts_nodes (k + 1) (cores (drop (k + 1) ps)))
    (no_nodes (len (core_of p)) (numbered_nodes k (core_of p)) (omega (arith, s, z)))
    ∙ rest

pub no_nodes_left : (ps : List Peg) (k : ℕ) → k ≤ length ps → len_all (cores (drop k ps)) ≡ 0
    → parts_nodes k (cores (drop k ps)) ≡ []
no_nodes_left ps k le z = none_left ps (length ps - k) k (omega arith) z

-- What is left begins with the nodes of the parts from k on: so with those of the part that comes next.
pub record Steps (at : ℕ → ℕ) (ps : List Peg) (k : ℕ) (ns : List Node) (number : ℕ) (p : Peg) : Type 0 where
  pub comes : ComesNext at ps k number p
  pub part : part_at ns ≡ number
  pub size : size_at ns ≡ capped_len (core_of p)
  pub some : 0 < length ns
  pub begins : Begins ns (numbered_nodes number (core_of p) ++ parts_nodes (number + 1) (cores (drop (number + 1) ps)))

pub steps : (at : ℕ → ℕ) (ps : List Peg) (k : ℕ) (ns : List Node) → k ≤ length ps → 0 < len_all (cores (drop k ps))
    → Begins ns (parts_nodes k (cores (drop k ps))) → (number : ℕ) × (p : Peg) × Steps at ps k ns number p
steps at ps k ns le lt b =
    let x = comes_next at ps k le lt in
    let is = b.is ∙ ap (λ l. l ++ b.rest) x.2.nodes in (
      x.0,
      x.1,
      record {
        comes = x.2;
        part = ap part_at is;
        size = ap size_at is;
        some = let long = ap length is in omega (arith, long);
        begins = record { rest = b.rest; is = is };
      },
    )

-- the same of the part that is read there
pub steps_as : (at : ℕ → ℕ) (ps : List Peg) (k number : ℕ) (ns : List Node) (p q : Peg) → Steps at ps k ns number p
    → q ≡ get_or ps number q → Steps at ps k ns number q
steps_as at ps k number ns p q s is =
    subst (λ x. Steps at ps k ns number x) (s.comes.is ∙ get_or_default ps number p q s.comes.inside ∙ sym is) s

-- The part that is read with the number of the first node is the one that comes next.
pub read_next : (at : ℕ → ℕ) (ps row : List Peg) (k number : ℕ) (ns : List Node) (q : Peg) → row ≡ ps → k ≤ length ps
    → 0 < len_all (cores (drop k ps)) → Begins ns (parts_nodes k (cores (drop k ps))) → number ≡ part_at ns
    → q ≡ get_or row number q → Steps at ps k ns number q
read_next at ps row k number ns q same le lt b part is =
    let s = steps at ps k ns le lt b in
    let e : s.0 ≡ number = sym (part ∙ s.2.part) in
    let t : Steps at ps k ns number s.1 = subst (λ n. Steps at ps k ns n s.1) e s.2 in
    steps_as at ps k number ns s.1 q t (part_of row ps number q same is)

-- its number is within the row
pub next_inside : (at : ℕ → ℕ) (ps row : List Peg) (k number : ℕ) (ns : List Node) → row ≡ ps → k ≤ length ps
    → 0 < len_all (cores (drop k ps)) → Begins ns (parts_nodes k (cores (drop k ps))) → number ≡ part_at ns
    → number < length row
next_inside at ps row k number ns same le lt b part =
    let s = steps at ps k ns le lt b in
    let e : number ≡ s.0 = part ∙ s.2.part in
    omega (arith, e, s.2.comes.inside, ap length same)

-- the nodes in a part, and those of the parts after it
abbrev pub after_node : ℕ → List Peg → Peg → List Node
after_node number ps q = inner_nodes (core_of q) ++ parts_nodes (number + 1) (cores (drop (number + 1) ps))

module _ (at : ℕ → ℕ) (ps : List Peg) (k number : ℕ) (ns tk : Nodes) (q : Peg) (s : Steps at ps k (left ns) number q)
    (t : Takes ns tk (take 1 (left ns))) where
  one : take 1 (left ns) ≡ part_node number (core_of q) ∷ []
  one = ap (take 1) s.begins.is

  -- once its own node is taken, these are left
  pub left_after : Begins (left tk) (after_node number ps q)
  left_after =
      begins_behind ns tk (take 1 (left ns)) (after_node number ps q) t
      (as_begins (left ns) _ _ (ap (λ l. l ++ after_node number ps q) (sym one)) s.begins)

  -- with these, all nodes of the parts from k on are taken
  pub takes_part : (y : Nodes) → Takes tk y (after_node number ps q) → Takes ns y (parts_nodes k (cores (drop k ps)))
  takes_part y more =
      as_taken ns y _ _ (ap (λ l. l ++ after_node number ps q) one
      ∙ sym s.comes.nodes) (takes_then ns tk y (take 1 (left ns)) (after_node number ps q) t more)
