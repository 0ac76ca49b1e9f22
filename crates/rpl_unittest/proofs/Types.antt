-- Types of nodes, in a flat list and in its trees.
use Rattle.std.proofs.Common.{◌≡◌, ℕ, zero, suc, ◌+◌, ◌-◌, ◌<◌, ◌≤◌, Bool, true, false, List, [], ◌∷◌, ◌++◌, length}
use Rattle.std.proofs.Common.{take, drop, get_or, Option, Some, None, refl, sym, ap, ◌∙◌, arith}
use Rattle.std.specs.Prelude.{◌||◌, not, codes}
use Rattle.std.specs.Prelude.{slice_get}
use Rattle.std.specs.Prelude.{All, IsSome}
use Rattle.std.specs.List.{list_any}
use Rattle.std.specs.Str.{encode_utf8_all, bytes_eq}
use Rattle.std.proofs.lemmas.List.{length-take, length-drop, take_all}
use Rattle.std.proofs.lemmas.Slice.Eq.{bytes_eq-Decides}
use Rattle.rpl_core.specs.Forest.{Forest}
use Rattle.std.proofs.lemmas.List.Elements.{All-head, All-take, All-drop}
use Rattle.rpl_tree.specs.Trees.{IsLeaf, below_root, forest_of, label_in, node_as, trees_of}
use Rattle.rpl_tree.specs.declared.node.Node.{Node}
use Rattle.rpl_unittest.specs.Seen.{AreOneTree}
use Rattle.rpl_unittest.specs.Verdicts.{has_type}
use Rattle.rpl_unittest.specs.inside.Nodes.{type_by, type_at, passes}

or_assoc : (a b c : Bool) → ((a || b) || c) ≡ (a || (b || c))
or_assoc true b c = refl
or_assoc false b c = refl

any_parts : (p : Node → Bool) (k : ℕ) (ns : List Node) →
    (list_any p (take k ns) || list_any p (drop k ns)) ≡ list_any p ns
any_parts p zero ns = refl
any_parts p (suc k) [] = refl
any_parts p (suc k) (n ∷ ns) =
    or_assoc (p n) (list_any p (take k ns)) (list_any p (drop k ns)) ∙ ap (λ x. p n || x) (any_parts p k ns)

one_node : (labels : List (List ℕ)) (p : List ℕ → Bool) (n : Node) (o : Option ℕ) (b d : Forest) (ns : List Node) →
    (IsSome o → n.below ≡ 0) → has_type p b ≡ list_any (λ m. p (type_at labels m)) (take n.below ns) →
    has_type p d ≡ list_any (λ m. p (type_at labels m)) (drop n.below ns)
    → has_type p (node_as (label_in labels) n o b d) ≡
    (p (type_by labels n o) || list_any (λ m. p (type_at labels m)) ns)
one_node labels p n None b d ns h f g =
    let test : Node → Bool = λ m. p (type_at labels m) in
    let all : (has_type p b || has_type p d) ≡ list_any test ns = ap (λ x. x || has_type p d) f
    ∙ ap (λ x. list_any test (take n.below ns) || x) g ∙ any_parts test n.below ns in
    ap (λ x. p (encode_utf8_all (label_in labels n.label)) || x) all
one_node labels p n (Some text) b d ns h f g =
    let test : Node → Bool = λ m. p (type_at labels m) in
    ap (λ x. p (codes "message") || x) (g ∙ ap (λ k. list_any test (drop k ns)) (h refl))

-- some tree has the type just where some node of the list has
any_trees : (most : ℕ) (labels : List (List ℕ)) (p : List ℕ → Bool) (ns : List Node) → All IsLeaf ns →
    length ns ≤ most → has_type p (trees_of most (label_in labels) ns) ≡ list_any (λ n. p (type_at labels n)) ns
any_trees zero labels p [] h le = refl
any_trees zero labels p (n ∷ ns) h le = absurd (omega arith)
any_trees (suc most) labels p [] h le = refl
any_trees (suc most) labels p (n ∷ ns) h le =
    let others = All-drop IsLeaf 1 (n ∷ ns) h in
    one_node labels p n n.note _ _ ns (All-head IsLeaf n ns h)
    (any_trees most labels p (take n.below ns) (All-take IsLeaf n.below ns others)
    (omega (arith, length-take n.below ns)))
    (any_trees most labels p (drop n.below ns) (All-drop IsLeaf n.below ns others)
    (omega (arith, length-drop n.below ns)))

-- of one tree, below the root
pub any_below : (labels : List (List ℕ)) (p : List ℕ → Bool) (ns : List Node) → AreOneTree ns →
    has_type p (below_root (forest_of (label_in labels) ns)) ≡ list_any (λ n. p (type_at labels n)) (drop 1 ns)
any_below labels p [] one = absurd one
any_below labels p (n ∷ ns) one =
    let test : Node → Bool = λ m. p (type_at labels m) in
    let others = All-drop IsLeaf 1 (n ∷ ns) one.2 in
    let b = trees_of (length ns) (label_in labels) (take n.below ns) in
    let d = trees_of (length ns) (label_in labels) (drop n.below ns) in
    let all : take n.below ns ≡ ns = take_all n.below ns (omega (arith, one.1)) in
    ap (λ o. has_type p (below_root (node_as (label_in labels) n o b d))) one.0
    ∙ any_trees (length ns) labels p (take n.below ns) (All-take IsLeaf n.below ns others)
    (omega (arith, length-take n.below ns))
    ∙ ap (list_any test) all

-- from one index to the next
pub any_here : (p : Node → Bool) (ns : List Node) (i : ℕ) →
    list_any p (drop i ns) ≡ (passes p (slice_get ns i) || list_any p (drop (i + 1) ns))
any_here p [] zero = refl
any_here p [] (suc i) = let e : suc i + 1 ≡ suc (i + 1) = omega arith in ap (λ k. list_any p (drop k [])) (sym e)
any_here p (n ∷ ns) zero = refl
any_here p (n ∷ ns) (suc i) =
    let e : suc i + 1 ≡ suc (i + 1) = omega arith in any_here p ns i
    ∙ ap (λ k. passes p (slice_get ns i) || list_any p (drop k (n ∷ ns))) (sym e)

pub found_here : (p : Node → Bool) (ns : List Node) (i : ℕ) (b : Bool) → b ≡ passes p (slice_get ns i) → b ≡ true →
    list_any p (drop i ns) ≡ list_any p (drop 1 ns) → true ≡ list_any p (drop 1 ns)
found_here p ns i b e h inv = sym (any_here p ns i ∙ ap (λ x. x || list_any p (drop (i + 1) ns)) (sym e ∙ h)) ∙ inv

pub not_here : (p : Node → Bool) (ns : List Node) (i : ℕ) (b : Bool) → b ≡ passes p (slice_get ns i) → b ≡ false →
    list_any p (drop i ns) ≡ list_any p (drop 1 ns) → list_any p (drop (i + 1) ns) ≡ list_any p (drop 1 ns)
not_here p ns i b e h inv = sym (any_here p ns i ∙ ap (λ x. x || list_any p (drop (i + 1) ns)) (sym e ∙ h)) ∙ inv

-- ---- a package, a dot and a part

pub same_bytes : (xs ys : List ℕ) → xs ≡ ys → bytes_eq xs ys ≡ true
same_bytes xs ys e = grind (arith, bytes_eq-Decides xs ys)

pub other_bytes : (xs ys : List ℕ) → (xs ≡ ys → ⊥) → false ≡ bytes_eq xs ys
other_bytes xs ys n = by_case (bytes_eq xs ys) refl
  where
    by_case : (b : Bool) → bytes_eq xs ys ≡ b → false ≡ bytes_eq xs ys
    by_case true e = let same : xs ≡ ys = grind (arith, bytes_eq-Decides xs ys) in absurd (n same)
    by_case false e = sym e

pub put_together : (label prefix part : List ℕ) → length prefix < length label → get_or label (length prefix) 0 ≡ 46 →
    take (length prefix) label ≡ prefix → drop (length prefix + 1) label ≡ part → label ≡ prefix ++ 46 ∷ part
put_together [] prefix part lt d t r = absurd (omega arith)
put_together (c ∷ cs) [] part lt d t r = ap (λ x. x ∷ cs) d ∙ ap (λ x. 46 ∷ x) r
put_together (c ∷ cs) (a ∷ bs) part lt d t r =
    let e : length (a ∷ bs) + 1 ≡ suc (length bs + 1) = omega arith in
    let first : c ≡ a = cc in
    let more : take (length bs) cs ≡ bs = cc in
    ap (λ x. x ∷ cs) first
    ∙ ap (λ x. a ∷ x) (put_together cs bs part (omega arith) d more (sym (ap (λ k. drop k (c ∷ cs)) e) ∙ r))

-- what is put together, and its parts
pub record Joined (prefix part : List ℕ) : Type 0 where
  pub front : take (length prefix) (prefix ++ 46 ∷ part) ≡ prefix
  pub dot : get_or (prefix ++ 46 ∷ part) (length prefix) 0 ≡ 46
  pub back : drop (length prefix + 1) (prefix ++ 46 ∷ part) ≡ part

pub joined : (prefix part : List ℕ) → Joined prefix part
joined [] part = record { front = refl; dot = refl; back = refl }
joined (a ∷ bs) part =
    let more = joined bs part in
    let e : length (a ∷ bs) + 1 ≡ suc (length bs + 1) = omega arith in
    record {
      front = ap (λ x. a ∷ x) more.front;
      dot = more.dot;
      back = ap (λ k. drop k (a ∷ (bs ++ 46 ∷ part))) e ∙
          more.back;
    }

pub no_dot : (label prefix part : List ℕ) → (get_or label (length prefix) 0 ≡ 46 → ⊥) →
    false ≡ bytes_eq label (prefix ++ 46 ∷ part)
no_dot label prefix part n =
    other_bytes label (prefix ++ 46 ∷ part) (λ e. n (ap (λ x. get_or x (length prefix) 0) e ∙ (joined prefix part).dot))

pub no_front : (label prefix part : List ℕ) → (take (length prefix) label ≡ prefix → ⊥) →
    false ≡ bytes_eq label (prefix ++ 46 ∷ part)
no_front label prefix part n =
    other_bytes label (prefix ++ 46 ∷ part) (λ e. n (ap (take (length prefix)) e ∙ (joined prefix part).front))

pub by_back : (label prefix part : List ℕ) (b : Bool) → length prefix < length label →
    get_or label (length prefix) 0 ≡ 46 → take (length prefix) label ≡ prefix →
    b ≡ bytes_eq (drop (length prefix + 1) label) part → b ≡ bytes_eq label (prefix ++ 46 ∷ part)
by_back label prefix part true lt d t e =
    let back : drop (length prefix + 1) label ≡ part = grind
    (arith, bytes_eq-Decides (drop (length prefix + 1) label) part) in
    sym (same_bytes label (prefix ++ 46 ∷ part) (put_together label prefix part lt d t back))
by_back label prefix part false lt d t e =
    other_bytes label (prefix ++ 46 ∷ part)
    (λ s. let back : drop (length prefix + 1) label ≡ part = ap (drop (length prefix + 1)) s ∙ (joined prefix part).back
    in
    let w = same_bytes (drop (length prefix + 1) label) part back in absurd (cc))

pub differ : (xs ys : List ℕ) (b : Bool) → b ≡ not (bytes_eq xs ys) → b ≡ true → xs ≡ ys → ⊥
differ xs ys b e h s = let w = same_bytes xs ys s in let z : true ≡ not true = sym h ∙ e ∙ ap not w in absurd (cc)

pub agree : (xs ys : List ℕ) (b : Bool) → b ≡ not (bytes_eq xs ys) → b ≡ false → xs ≡ ys
agree xs ys b e h = by_case (bytes_eq xs ys) refl
  where
    by_case : (x : Bool) → bytes_eq xs ys ≡ x → xs ≡ ys
    by_case true w = grind (arith, bytes_eq-Decides xs ys)
    by_case false w = let z : false ≡ not false = sym h ∙ e ∙ ap not w in absurd (cc)

pub rest_is : (label : List ℕ) (k : ℕ) → take (length label - k) (drop k label) ≡ drop k label
rest_is label k = take_all (length label - k) (drop k label) (omega (arith, length-drop k label))
