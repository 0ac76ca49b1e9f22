-- One step of the walk over the nodes of a flat list.
use Rattle.std.proofs.Common.{◌^◌, ◌⊎◌, inl, inr, subst, ◌≡◌, ℕ, zero, suc, ◌+◌, ◌-◌, ◌*◌, ◌<◌, ◌≤◌, Bool, true, false}
use Rattle.std.proofs.Common.{List, [], ◌∷◌, ◌++◌, length, take, drop, min, Option, Some, None, refl, sym, ap, ◌∙◌}
use Rattle.std.proofs.Common.{arith, append_assoc, length-append}
use Rattle.std.specs.Prelude.{flat_map, codes, IsSome, option_to_list}
use Rattle.rpl_core.specs.Forest.{Forest}
use Rattle.rpl_tree.specs.Trees.{node_as, forest_of, label_in}
use Rattle.rpl_tree.specs.declared.node.Node.{Node}
use Rattle.rpl_encode.specs.Texts.{objects, subs}
use Rattle.rpl_encode.specs.inside.Walk.{fields_by, fields_at, comma, ending, joined, rest_of}
use Rattle.std.proofs.lemmas.List.{append-nil, drop-drop, drop_all, take_all, reverse-append, length-drop}
use Rattle.std.proofs.lemmas.Bool.{false≢true}
use Rattle.std.specs.Prelude.{slice_get, reverse, IsTrue, ◌↔◌, if◌then◌else◌}
use Rattle.rpl_encode.specs.Answer.{line_by_line}
use Rattle.rpl_tree.proofs.Trees.{forest_of_cons}
use Rattle.rpl_encode.proofs.Nodes.{take_within, drop_within, drop_behind, drop_got, drop_capped, got_none}

-- the objects below a node; a note has none
abbrev pub below_of : Option ℕ → List (List ℕ) → List (List ℕ)
below_of None os = os
below_of (Some text) os = []

abbrev pub objects_of : List (List ℕ) → List ℕ → List Node → List (List ℕ)
objects_of labels line ns = objects line (forest_of (label_in labels) ns)

node_objects : (labels : List (List ℕ)) (line : List ℕ) (n : Node) (note : Option ℕ) (f g : Forest)
    → objects line (node_as (label_in labels) n note f g)
    ≡ (fields_by labels line n note ++ (subs (below_of note (objects line f)) ++ codes "}")) ∷ objects line g
node_objects labels line n None f g = refl
node_objects labels line n (Some text) f g = refl

pub objects_of_cons : (labels : List (List ℕ)) (line : List ℕ) (n : Node) (ns : List Node)
    → objects_of labels line (n ∷ ns)
    ≡ (fields_at labels line n ++ (subs (below_of n.note (objects_of labels line (take n.below ns))) ++ codes "}"))
    ∷ objects_of labels line (drop n.below ns)
objects_of_cons labels line n ns = ap (objects line) (forest_of_cons (label_in labels) n ns)
    ∙ node_objects labels line n n.note _ _

joined_next : (os : List (List ℕ)) → joined false os ≡ flat_map (λ p. 44 ∷ p) os
joined_next [] = refl
joined_next (o ∷ os) = refl

regroup : (a b c d e : List ℕ) → (a ++ ((b ++ c) ++ d)) ++ e ≡ a ++ (b ++ (c ++ (d ++ e)))
regroup a b c d e = simp append_assoc

leaf_group : (a b c d : List ℕ) → a ++ (b ++ (c ++ d)) ≡ (a ++ (b ++ c)) ++ d
leaf_group a b c d = simp append_assoc

subs_group : (a b s o f r : List ℕ) → a ++ (b ++ (((s ++ (o ++ (f ++ 93 ∷ []))) ++ 125 ∷ []) ++ r)) ≡ (a ++ (b ++ s))
    ++ ((o ++ f) ++ (93 ∷ 125 ∷ r))
subs_group a b s o f r = simp append_assoc

-- the rest of the text begins with the first node, and goes on after those below it
node_rest : (labels : List (List ℕ)) (line : List ℕ) (n : Node) (ns : List Node) (k : ℕ) (ks : List ℕ) (first : Bool)
    → rest_of labels line (n ∷ ns) (suc k ∷ ks) first ≡ comma first
    ++ (fields_at labels line n
    ++ ((subs (below_of n.note (objects_of labels line (take (min n.below k) ns))) ++ codes "}")
    ++ rest_of labels line (drop (min n.below k) ns) ((k - min n.below k) ∷ ks) false))
node_rest labels line n ns k ks first =
    let b = min n.below k in
    let os = objects_of labels line (take (k - b) (drop b ns)) in
    let inside = subs (below_of n.note (objects_of labels line (take b ns))) ++ codes "}" in
    let all : objects_of labels line (n ∷ take k ns) ≡ (fields_at labels line n ++ inside) ∷ os =
    objects_of_cons labels line n (take k ns)
    ∙ ap (λ ms. (fields_at labels line n ++ (subs (below_of n.note (objects_of labels line ms)) ++ codes "}"))
    ∷ objects_of labels line (drop n.below (take k ns))) (take_within k n.below ns)
    ∙ ap (λ ms. (fields_at labels line n ++ inside) ∷ objects_of labels line ms) (drop_within k n.below ns) in
    let behind = codes "]}" ++ rest_of labels line (drop k ns) ks false in
    ap (λ xs. joined first xs ++ behind) all
    ∙ regroup (comma first) (fields_at labels line n) inside (flat_map (λ p. 44 ∷ p) os) behind
    ∙ ap (λ x. comma first ++ (fields_at labels line n ++ (inside ++ (x ++ behind)))) (sym (joined_next os))
    ∙ ap (λ ms. comma first
    ++ (fields_at labels line n ++ (inside ++ (joined false os ++ (codes "]}" ++ rest_of labels line ms ks false)))))
    (sym (drop_behind k n.below ns))

-- a node with nothing below it
pub leaf_rest : (labels : List (List ℕ)) (line : List ℕ) (n : Node) (ns : List Node) (k : ℕ) (ks : List ℕ) (first :
    Bool) → below_of n.note (objects_of labels line (take (min n.below k) ns)) ≡ []
    → rest_of labels line (n ∷ ns) (suc k ∷ ks) first ≡ (comma first ++ (fields_at labels line n ++ ending false))
    ++ rest_of labels line (drop (min n.below k) ns) ((k - min n.below k) ∷ ks) false
leaf_rest labels line n ns k ks first none =
    let behind = rest_of labels line (drop (min n.below k) ns) ((k - min n.below k) ∷ ks) false in
    node_rest labels line n ns k ks first
    ∙ ap (λ xs. comma first ++ (fields_at labels line n ++ ((subs xs ++ codes "}") ++ behind))) none
    ∙ leaf_group (comma first) (fields_at labels line n) (codes "}") behind

-- a node with others below it
pub subs_rest : (labels : List (List ℕ)) (line : List ℕ) (n m : Node) (ns : List Node) (k b : ℕ) (ks : List ℕ) (first :
    Bool) → n.note ≡ None → min n.below k ≡ suc b → rest_of labels line (n ∷ m ∷ ns) (suc k ∷ ks) first
    ≡ (comma first ++ (fields_at labels line n ++ ending true))
    ++ rest_of labels line (m ∷ ns) (min n.below k ∷ (k - min n.below k) ∷ ks) true
subs_rest labels line n m ns k b ks first note least =
    let behind = rest_of labels line (drop (min n.below k) (m ∷ ns)) ((k - min n.below k) ∷ ks) false in
    let os = objects_of labels line (take (min n.below k) (m ∷ ns)) in
    let found : os ≡ _ = ap (λ x. objects_of labels line (take x (m ∷ ns))) least
    ∙ objects_of_cons labels line m (take b ns) in
    node_rest labels line n (m ∷ ns) k ks first
    ∙ ap (λ x. comma first ++ (fields_at labels line n ++ ((subs (below_of x os) ++ codes "}") ++ behind))) note
    ∙ ap (λ xs. comma first ++ (fields_at labels line n ++ ((subs xs ++ codes "}") ++ behind))) found
    ∙ subs_group (comma first) (fields_at labels line n) (ending true) _ _ behind
    ∙ ap (λ xs. (comma first ++ (fields_at labels line n ++ ending true)) ++ (joined true xs ++ (codes "]}" ++ behind)))
    (sym found)

pub subs_first : (labels : List (List ℕ)) (line : List ℕ) (n : Node) (ns : List Node) (k : ℕ) (ks : List ℕ) (first :
    Bool) → n.note ≡ None → 0 < min n.below k → 0 < length ns → rest_of labels line (n ∷ ns) (suc k ∷ ks) first
    ≡ (comma first ++ (fields_at labels line n ++ ending true))
    ++ rest_of labels line ns (min n.below k ∷ (k - min n.below k) ∷ ks) true
subs_first labels line n [] k ks first note below more = absurd (omega arith)
subs_first labels line n (m ∷ ns) k ks first note below more =
    let some : min n.below k ≡ suc (min n.below k - 1) = omega arith in
    subs_rest labels line n m ns k (min n.below k - 1) ks first note some

-- a list that is done is closed
pub close_rest : (labels : List (List ℕ)) (line : List ℕ) (ns : List Node) (k : ℕ) (ks : List ℕ) (first : Bool)
    → take k ns ≡ [] → drop k ns ≡ ns → rest_of labels line ns (k ∷ ks) first ≡ codes "]}"
    ++ rest_of labels line ns ks false
close_rest labels line ns k ks first none same =
    ap (λ ms. joined first (objects_of labels line ms) ++ (codes "]}" ++ rest_of labels line (drop k ns) ks false)) none
    ∙ ap (λ ms. codes "]}" ++ rest_of labels line ms ks false) same

-- nothing stands below a note, nor where no node is left
nothing_below : (note : Option ℕ) (labels : List (List ℕ)) (line : List ℕ) (b : ℕ) (ns : List Node)
    → (note ≡ None → 0 < b → 0 < length ns → ⊥) → below_of note (objects_of labels line (take b ns)) ≡ []
nothing_below (Some text) labels line b ns h = refl
nothing_below None labels line zero ns h = refl
nothing_below None labels line (suc b) [] h = refl
nothing_below None labels line (suc b) (x ∷ ns) h = absurd (h refl (omega arith) (omega arith))

pub reverse_last : (p : List ℕ) (x : ℕ) → reverse (p ++ x ∷ []) ≡ x ∷ reverse p
reverse_last p x = reverse-append p (x ∷ [])

-- the step over a node with nothing below it
pub leaf_step : (labels : List (List ℕ)) (line : List ℕ) (nodes : List Node) (i j left b : ℕ) (n : Node) (was now ks :
    List ℕ) (first sub : Bool) → slice_get nodes i ≡ Some n → 0 < left → length nodes ≤ 2 ^ 64 - 1
    → b ≡ min n.below (left - 1) → j ≡ min (i + 1 + b) (2 ^ 64 - 1) → was ≡ left ∷ ks → now ≡ (left - 1 - b) ∷ ks
    → sub ≡ false → ((n.note ≡ None) × (0 < b) × (i + 1 < length nodes) → ⊥)
    → rest_of labels line (drop i nodes) was first ≡ (comma first ++ (fields_at labels line n ++ ending sub))
    ++ rest_of labels line (drop j nodes) now sub
leaf_step labels line nodes i j zero b n was now ks first sub got some fits least next before behind leaf h =
    absurd (omega arith)
leaf_step labels line nodes i j (suc k) b n was now ks first sub got some fits least next before behind leaf h =
    let one : suc k - 1 ≡ k = omega arith in
    let least' : b ≡ min n.below k = rw one at least in
    let rest : drop j nodes ≡ drop b (drop (i + 1) nodes) = ap (λ m. drop m nodes) next
    ∙ drop_capped nodes (i + 1 + b) (2 ^ 64 - 1) fits ∙ sym (drop-drop b (i + 1) nodes) in
    let none = nothing_below n.note labels line b (drop (i + 1) nodes)
    (λ x y z. h (x, y, omega (arith, z, length-drop (i + 1) nodes))) in
    rw (before, behind, leaf, one, rest, drop_got nodes i n got, least')
    (leaf_rest labels line n (drop (i + 1) nodes) k ks first
    (subst (λ m. below_of n.note (objects_of labels line (take m (drop (i + 1) nodes))) ≡ []) least' none))

-- the step over a node with others below it
pub subs_step : (labels : List (List ℕ)) (line : List ℕ) (nodes : List Node) (i left b : ℕ) (n : Node) (was now ks :
    List ℕ) (first sub : Bool) → slice_get nodes i ≡ Some n → 0 < left → b ≡ min n.below (left - 1) → was ≡ left ∷ ks
    → now ≡ b ∷ (left - 1 - b) ∷ ks → sub ≡ true → n.note ≡ None → 0 < b → i + 1 < length nodes
    → rest_of labels line (drop i nodes) was first ≡ (comma first ++ (fields_at labels line n ++ ending sub))
    ++ rest_of labels line (drop (i + 1) nodes) now sub
subs_step labels line nodes i zero b n was now ks first sub got some least before behind opens note below more =
    absurd (omega arith)
subs_step labels line nodes i (suc k) b n was now ks first sub got some least before behind opens note below more =
    let one : suc k - 1 ≡ k = omega arith in
    let least' : b ≡ min n.below k = rw one at least in
    rw (before, behind, opens, one, drop_got nodes i n got, least')
    (subs_first labels line n (drop (i + 1) nodes) k ks first note (omega (arith, least'))
    (omega (arith, length-drop (i + 1) nodes)))

-- the step that closes a list
pub close_step : (labels : List (List ℕ)) (line : List ℕ) (nodes : List Node) (i left : ℕ) (was ks : List ℕ) (first :
    Bool) → was ≡ left ∷ ks → ((left ≡ 0) ⊎ (slice_get nodes i ≡ None)) → rest_of labels line (drop i nodes) was first
    ≡ codes "]}" ++ rest_of labels line (drop i nodes) ks false
close_step labels line nodes i left was ks first before (inl none) =
    rw (before, none) (close_rest labels line (drop i nodes) 0 ks first refl refl)
close_step labels line nodes i left was ks first before (inr past) =
    let none = drop_all i nodes (got_none nodes i past) in
    rw (before, none) (close_rest labels line [] left ks first (take_all left [] (omega arith))
    (drop_all left [] (omega arith)))

-- writing a first part of the rest
pub stepped : {S : Type 0} (after : S → List ℕ → S) → ((s : S) (x y : List ℕ) → after (after s x) y ≡ after s (x ++ y))
    → (o o' z : S) (x r r' : List ℕ) → o' ≡ after o x → r ≡ x ++ r' → after o r ≡ z → after o' r' ≡ z
stepped after both o o' z x r r' e f h = ap (λ s. after s r') e ∙ both o x r' ∙ ap (after o) (sym f) ∙ h

-- the walk comes nearer its end
pub nearer : (len i j b was now : ℕ) → i < len → len ≤ 2 ^ 64 - 1 → j ≡ min (i + 1 + b) (2 ^ 64 - 1) → now ≡ was
    → 2 * (len - j) + now < 2 * (len - i) + was
nearer len i j b was now lt fits next same = omega arith

root_group : (b s o f : List ℕ) → ((b ++ ((s ++ (o ++ (f ++ 93 ∷ []))) ++ 125 ∷ [])) ++ 10 ∷ []) ++ [] ≡ (b ++ s)
    ++ (((o ++ f) ++ (93 ∷ 125 ∷ [])) ++ 10 ∷ [])
root_group b s o f = simp (append_assoc, append-nil)

-- what is written where the root has nodes below it, and where it has none
abbrev pub Opened : Bool → ℕ → List ℕ → Type 0
Opened true below pending = pending ≡ below ∷ []
Opened false below pending = pending ≡ []

pub opened : (sub : Bool) (below : ℕ) (lists : List ℕ) → lists ≡ (if sub then below ∷ [] else [])
    → Opened sub below (reverse lists)
opened true below lists e = ap reverse e
opened false below lists e = ap reverse e

root_objects : (labels : List (List ℕ)) (line : List ℕ) (nodes : List Node) (root : Node)
    → slice_get nodes 0 ≡ Some root
    → take 1 (objects_of labels line nodes)
    ≡ (fields_at labels line root
    ++ (subs (below_of root.note (objects_of labels line (take root.below (drop 1 nodes))))
    ++ codes "}")) ∷ []
root_objects labels line nodes root got =
    ap (λ ns. take 1 (objects_of labels line ns)) (drop_got nodes 0 root got)
    ∙ ap (take 1) (objects_of_cons labels line root (drop 1 nodes))

opened_root : (labels : List (List ℕ)) (line : List ℕ) (root : Node) (ns : List Node) → root.note ≡ None
    → 0 < root.below → 0 < length ns
    → ((fields_at labels line root ++ (subs (below_of root.note (objects_of labels line (take root.below ns)))
    ++ codes "}")) ++ 10 ∷ []) ++ [] ≡ (fields_at labels line root ++ ending true)
    ++ (rest_of labels line ns (root.below ∷ []) true ++ 10 ∷ [])
opened_root labels line root [] note below more = absurd (omega arith)
opened_root labels line root (m ∷ ns) note below more =
    let some : root.below ≡ suc (root.below - 1) = omega arith in
    let os = objects_of labels line (take root.below (m ∷ ns)) in
    let found : os ≡ _ = ap (λ x. objects_of labels line (take x (m ∷ ns))) some
    ∙ objects_of_cons labels line m (take (root.below - 1) ns) in
    ap (λ x. ((fields_at labels line root ++ (subs (below_of x os) ++ codes "}")) ++ 10 ∷ []) ++ []) note
    ∙ ap (λ xs. ((fields_at labels line root ++ (subs xs ++ codes "}")) ++ 10 ∷ []) ++ []) found
    ∙ root_group (fields_at labels line root) (ending true) _ _
    ∙ ap (λ xs. (fields_at labels line root ++ ending true) ++ ((joined true xs ++ codes "]}") ++ 10 ∷ [])) (sym found)

closed_root : (labels : List (List ℕ)) (line : List ℕ) (root : Node) (ns : List Node)
    → (root.note ≡ None → 0 < root.below → 0 < length ns → ⊥)
    → ((fields_at labels line root ++ (subs (below_of root.note (objects_of labels line (take root.below ns)))
    ++ codes "}")) ++ 10 ∷ []) ++ [] ≡ (fields_at labels line root ++ ending false) ++ 10 ∷ []
closed_root labels line root ns none =
    ap (λ xs. ((fields_at labels line root ++ (subs xs ++ codes "}")) ++ 10 ∷ []) ++ [])
    (nothing_below root.note labels line root.below ns none)
    ∙ append-nil ((fields_at labels line root ++ codes "}") ++ 10 ∷ [])

pub tree_whole : (labels : List (List ℕ)) (line : List ℕ) (nodes : List Node) (root : Node) (sub : Bool) (pending :
    List ℕ) → slice_get nodes 0 ≡ Some root
    → (IsTrue sub ↔ ((root.note ≡ None) × (0 < root.below) × (1 < length nodes)))
    → Opened sub root.below pending → line_by_line (take 1 (objects_of labels line nodes))
    ≡ (comma true ++ (fields_at labels line root ++ ending sub))
    ++ (rest_of labels line (drop 1 nodes) pending true ++ 10 ∷ [])
tree_whole labels line nodes root true pending got has opened =
    let h = has.0 refl in
    rw (root_objects labels line nodes root got, opened)
    (opened_root labels line root (drop 1 nodes) h.0 h.1 (omega (arith, h.2, length-drop 1 nodes)))
tree_whole labels line nodes root false pending got has opened =
    rw (root_objects labels line nodes root got, opened)
    (closed_root labels line root (drop 1 nodes)
    (λ x y z. false≢true (has.1 (x, y, omega (arith, z, length-drop 1 nodes)))))

pub written_three : {S : Type 0} (after : S → List ℕ → S)
    → ((s : S) (x y : List ℕ) → after (after s x) y ≡ after s (x ++ y)) → (s s1 s2 s3 : S) (x y z : List ℕ)
    → s1 ≡ after s x → s2 ≡ after s1 y → s3 ≡ after s2 z → s3 ≡ after s (x ++ (y ++ z))
written_three after both s s1 s2 s3 x y z e f g = g ∙ ap (λ v. after v z) f ∙ ap (λ v. after (after v y) z) e
    ∙ both (after s x) y z ∙ both s x (y ++ z)

-- a first part that is too long makes the whole too long
pub longer : (most : ℕ) (out o1 x r w : List ℕ) → o1 ≡ out ++ x → w ≡ x ++ (r ++ 10 ∷ []) → most < length (o1 ++ r)
    → most < length (out ++ w)
longer most out o1 x r w e f h =
    let first = ap length e ∙ length-append out x in
    let rest = ap length f ∙ length-append x (r ++ 10 ∷ []) in
    omega (arith, h, first, rest, length-append o1 r, length-append out w, length-append r (10 ∷ []))

-- the lists that are open, the innermost first, which is held apart; where there is none, none is open
abbrev pub pending : Option ℕ → List ℕ → List ℕ
pending None lists = []
pending (Some left) lists = left ∷ reverse lists

abbrev pub one_if : Option ℕ → ℕ
one_if None = 0
one_if (Some left) = 1

-- the last of the lists is taken out, if there is one
pub popped : (o : Option ℕ) (was now : List ℕ) (n : ℕ) → n ≡ length was → was ≡ now ++ option_to_list o
    → (IsSome o ↔ (0 < n)) → reverse was ≡ pending o now
popped None [] now n same e h = refl
popped None (x ∷ was) now n same e h = absurd (false≢true (h.1 (omega (arith, same))))
popped (Some left) was now n same e h = ap reverse e ∙ reverse_last now left
