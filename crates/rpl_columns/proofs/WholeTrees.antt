-- Whole trees, put together and taken apart.
use Rattle.std.proofs.Common.{◌≡◌, ℕ, zero, suc, true, false, ◌+◌, ◌-◌, ◌<◌, ◌≤◌, List, [], ◌∷◌, ◌++◌, length, flat_map}
use Rattle.std.proofs.Common.{Option, None, Some, refl, sym, ap, ◌∙◌, arith, append_assoc, append-nil, length-append}
use Rattle.std.specs.Prelude.{codes, option_and_then, option_map}
use Rattle.rpl_columns.specs.Nodes.{Seen, Spelled, at_end, close_by, closed, go_on, next_by, next_in, node_in, nodes_in}
use Rattle.rpl_columns.specs.Nodes.{step_by, step_in, tree_in, with_first, with_front}
use Rattle.rpl_columns.specs.Spelling.{after}
use Rattle.rpl_columns.specs.Trees.{HavePlaces, IsOneTree, IsPlace, ReadsTrees, Trees, in_order, is_empty, no_tree}
use Rattle.rpl_columns.specs.Trees.{object, objects, subs, tree}
use Rattle.rpl_columns.proofs.NodeParts.{after_back, after_word, had, node_apart, node_put, node_text, parts}
use Rattle.rpl_columns.proofs.Shapes.{none_some, some_same}

-- ---- what the definitions are at each case

-- no trees have no objects
pub objects_nil : objects no_tree ≡ []
unfolding objects
objects_nil = refl

-- the objects of some trees are that of the first and then those of the others
pub objects_cons : (l s e t : List ℕ) (b a : Trees)
    → objects (tree l s e t b a) ≡ object l s e t (objects b) ∷ objects a
unfolding objects
objects_cons l s e t b a = refl

abbrev pub node_of : ℕ → (l s e t : List ℕ) → Trees → Seen
node_of depth l s e t b = record { spelled = parts l s e t; depth = depth; leaf = is_empty b }

pub order_nil : (depth : ℕ) → in_order depth no_tree ≡ []
unfolding in_order
order_nil depth = refl

pub order_cons : (depth : ℕ) (l s e t : List ℕ) (b a : Trees)
    → in_order depth (tree l s e t b a) ≡ node_of depth l s e t b ∷ (in_order (suc depth) b ++ in_order depth a)
unfolding in_order
order_cons depth l s e t b a = refl

-- a tree alone
order_one : (depth : ℕ) (l s e t : List ℕ) (b : Trees) → in_order depth (tree l s e t b no_tree)
    ≡ node_of depth l s e t b ∷ in_order (suc depth) b
order_one depth l s e t b =
    order_cons depth l s e t b no_tree
    ∙ ap (λ ns. node_of depth l s e t b ∷ (in_order (suc depth) b ++ ns)) (order_nil depth)
    ∙ ap (λ ns. node_of depth l s e t b ∷ ns) (append-nil (in_order (suc depth) b))

-- if the starts and ends of a node, and of those below it and after it, are places, then all of them together are
pub places_put : (l s e t : List ℕ) (b a : Trees) → IsPlace s → IsPlace e → HavePlaces b → HavePlaces a
    → HavePlaces (tree l s e t b a)
unfolding HavePlaces
places_put l s e t b a ps pe pb pa = (ps, pe, pb, pa)

-- the starts and ends of no trees are places
pub places_none : HavePlaces no_tree
unfolding HavePlaces
places_none = tt

record Placed (s e : List ℕ) (b a : Trees) : Type 0 where
  start : IsPlace s
  end : IsPlace e
  below : HavePlaces b
  others : HavePlaces a

placed : (l s e t : List ℕ) (b a : Trees) → HavePlaces (tree l s e t b a) → Placed s e b a
unfolding HavePlaces
placed l s e t b a h = record { start = h.0; end = h.1; below = h.2; others = h.3 }

closed_none : (rest : List ℕ) → closed 0 rest ≡ (0, rest)
unfolding closed
closed_none rest = refl

closed_more : (depth : ℕ) (rest : List ℕ)
    → closed (suc depth) rest ≡ close_by (closed depth) (suc depth) rest (after (codes "]}") rest)
unfolding closed
closed_more depth rest = refl

next_is : (depth : ℕ) (rest : List ℕ)
    → next_in depth rest ≡ option_and_then (λ left. next_by (closed depth left)) (after (codes "}") rest)
unfolding next_in
next_is depth rest = refl

step_is : (depth : ℕ) (rest : List ℕ)
    → step_in depth rest ≡ option_and_then (λ r. step_by depth r (after (codes ",\"subs\":[") r.1)) (node_in rest)
unfolding step_in
step_is depth rest = refl

nodes_zero : (depth : ℕ) (rest : List ℕ) → nodes_in 0 depth rest ≡ None
unfolding nodes_in
nodes_zero depth rest = refl

abbrev then_nodes : ℕ → Seen × (ℕ × List ℕ) → Option (List Seen)
then_nodes most s = with_first s.0 (go_on (nodes_in most) s.1.0 s.1.1)

nodes_more : (most depth : ℕ) (rest : List ℕ)
    → nodes_in (suc most) depth rest ≡ option_and_then (then_nodes most) (step_in depth rest)
unfolding nodes_in
nodes_more most depth rest = refl

tree_is : (line : List ℕ) → tree_in line ≡ nodes_in (suc (length line)) 0 line
unfolding tree_in
tree_is line = refl

-- ---- the texts

abbrev more_text : List (List ℕ) → List ℕ
more_text os = flat_map (λ o. 44 ∷ o) os

leaf_text : (l s e t rest : List ℕ) → object l s e t [] ++ rest ≡ node_text l s e t (125 ∷ rest)
leaf_text l s e t rest = simp append_assoc

inner_text : (l s e t o : List ℕ) (os : List (List ℕ)) (rest : List ℕ)
    → object l s e t (o ∷ os) ++ rest
    ≡ node_text l s e t (codes ",\"subs\":[" ++ (o ++ (more_text os ++ (codes "]}" ++ rest))))
inner_text l s e t o os rest = simp append_assoc

-- ---- put together

-- where the reading goes on after a node, and what is read then
abbrev resume : ℕ → List ℕ → Option (ℕ × List ℕ)
resume depth rest = next_by (closed depth rest)

abbrev goes_on : ℕ → Option (ℕ × List ℕ) → Option (List Seen)
goes_on fuel None = None
goes_on fuel (Some r) = go_on (nodes_in fuel) r.0 r.1

resume_closed : (depth : ℕ) (rest : List ℕ) → resume (suc depth) (codes "]}" ++ rest) ≡ resume depth rest
resume_closed depth rest =
    ap next_by (closed_more depth (codes "]}" ++ rest)
    ∙ ap (close_by (closed depth) (suc depth) (codes "]}" ++ rest)) (after_word (codes "]}") rest))

resume_comma : (depth : ℕ) (rest : List ℕ) → resume (suc depth) (44 ∷ rest) ≡ Some (suc depth, rest)
resume_comma depth rest =
    ap next_by (closed_more depth (44 ∷ rest))
    ∙ ap (λ o. option_map (λ left. (suc depth, left)) o) (after_word (codes ",") rest)

front_one : (n : Seen) (m : Option (List Seen)) → with_first n m ≡ with_front (n ∷ []) m
front_one n None = refl
front_one n (Some ns) = refl

front_more : (n : Seen) (ns : List Seen) (m : Option (List Seen))
    → with_first n (with_front ns m) ≡ with_front (n ∷ ns) m
front_more n ns None = refl
front_more n ns (Some ms) = refl

front_both : (ns ms : List Seen) (m : Option (List Seen)) → with_front ns (with_front ms m) ≡ with_front (ns ++ ms) m
front_both ns ms None = refl
front_both ns ms (Some xs) = ap Some (sym (append_assoc ns ms xs))

step_leaf : (depth : ℕ) (l s e t rest : List ℕ) → IsPlace s → IsPlace e
    → step_in depth (object l s e t [] ++ rest) ≡ option_map (λ next. (node_of depth l s e t no_tree, next))
    (resume depth rest)
step_leaf depth l s e t rest ps pe =
    ap (step_in depth) (leaf_text l s e t rest) ∙ step_is depth (node_text l s e t (125 ∷ rest))
    ∙ ap (option_and_then (λ r. step_by depth r (after (codes ",\"subs\":[") r.1)))
    (node_put l s e t (125 ∷ rest) ps pe)
    ∙ ap (λ o. option_map (λ next. (node_of depth l s e t no_tree, next)) o)
    (next_is depth (125 ∷ rest)
    ∙ ap (option_and_then (λ left. next_by (closed depth left))) (after_word (codes "}") rest))

step_inner : (depth : ℕ) (l s e t o : List ℕ) (os : List (List ℕ)) (rest : List ℕ) → IsPlace s → IsPlace e → (b : Trees)
    → is_empty b ≡ false → step_in depth (object l s e t (o ∷ os) ++ rest)
    ≡ Some (node_of depth l s e t b, (suc depth, o ++ (more_text os ++ (codes "]}" ++ rest))))
step_inner depth l s e t o os rest ps pe b some =
    let below = o ++ (more_text os ++ (codes "]}" ++ rest)) in
    let whole = codes ",\"subs\":[" ++ below in
    ap (step_in depth) (inner_text l s e t o os rest) ∙ step_is depth (node_text l s e t whole)
    ∙ ap (option_and_then (λ r. step_by depth r (after (codes ",\"subs\":[") r.1))) (node_put l s e t whole ps pe)
    ∙ ap (step_by depth (parts l s e t, whole)) (after_word (codes ",\"subs\":[") below)
    ∙ ap (λ x. Some (record { spelled = parts l s e t; depth = depth; leaf = x }, (suc depth, below))) (sym some)

-- how many nodes there are
abbrev size : Trees → ℕ
size no_tree = 0
size (tree l s e t b a) = suc (size b + size a)

-- the nodes of a list are read from its text
abbrev Put : Trees → Type 0
Put no_tree = Unit {0}
Put (tree l s e t b a) =
    (fuel depth : ℕ) (rest : List ℕ)
    → nodes_in (size (tree l s e t b a) + fuel) (suc depth) (object l s e t (objects b)
    ++ (more_text (objects a) ++ rest))
    ≡ with_front (in_order (suc depth) (tree l s e t b a)) (goes_on fuel (resume (suc depth) rest))

leaf_put : (l s e t : List ℕ) → IsPlace s → IsPlace e → (fuel depth : ℕ) (rest : List ℕ)
    → nodes_in (suc fuel) depth (object l s e t [] ++ rest) ≡ with_front (node_of depth l s e t no_tree ∷ [])
    (goes_on fuel (resume depth rest))
leaf_put l s e t ps pe fuel depth rest =
    nodes_more fuel depth (object l s e t [] ++ rest)
    ∙ ap (option_and_then (then_nodes fuel)) (step_leaf depth l s e t rest ps pe)
    ∙ by (resume depth rest)
  where
    by : (o : Option (ℕ × List ℕ))
        → option_and_then (then_nodes fuel) (option_map (λ next. (node_of depth l s e t no_tree, next)) o)
        ≡ with_front (node_of depth l s e t no_tree ∷ []) (goes_on fuel o)
    by None = refl
    by (Some r) = front_one (node_of depth l s e t no_tree) (go_on (nodes_in fuel) r.0 r.1)

-- one tree
one_put : (l s e t : List ℕ) (b : Trees) → IsPlace s → IsPlace e → Put b → (fuel depth : ℕ) (rest : List ℕ)
    → nodes_in (suc (size b + fuel)) depth (object l s e t (objects b) ++ rest)
    ≡ with_front (in_order depth (tree l s e t b no_tree)) (goes_on fuel (resume depth rest))
one_put l s e t no_tree ps pe ih fuel depth rest =
    let none : 0 + fuel ≡ fuel = omega arith in
    let order : in_order depth (tree l s e t no_tree no_tree) ≡ node_of depth l s e t no_tree ∷ [] =
    order_one depth l s e t no_tree ∙ ap (λ ns. node_of depth l s e t no_tree ∷ ns) (order_nil (suc depth)) in
    ap (λ k. nodes_in (suc k) depth (object l s e t (objects no_tree) ++ rest)) none
    ∙ ap (λ os. nodes_in (suc fuel) depth (object l s e t os ++ rest)) objects_nil
    ∙ leaf_put l s e t ps pe fuel depth rest
    ∙ ap (λ ns. with_front ns (goes_on fuel (resume depth rest))) (sym order)
one_put l s e t (tree l' s' e' t' b' a') ps pe ih fuel depth rest =
    let b = tree l' s' e' t' b' a' in
    let o = object l' s' e' t' (objects b') in
    let os = objects a' in
    let below = o ++ (more_text os ++ (codes "]}" ++ rest)) in
    let n = node_of depth l s e t b in
    ap (λ x. nodes_in (suc (size b + fuel)) depth (object l s e t x ++ rest)) (objects_cons l' s' e' t' b' a')
    ∙ nodes_more (size b + fuel) depth (object l s e t (o ∷ os) ++ rest)
    ∙ ap (option_and_then (then_nodes (size b + fuel))) (step_inner depth l s e t o os rest ps pe b refl)
    ∙ ap (with_first n) (ih fuel depth (codes "]}" ++ rest))
    ∙ front_more n (in_order (suc depth) b) (goes_on fuel (resume (suc depth) (codes "]}" ++ rest)))
    ∙ ap (λ r. with_front (n ∷ in_order (suc depth) b) (goes_on fuel r)) (resume_closed depth rest)
    ∙ ap (λ ns. with_front ns (goes_on fuel (resume depth rest))) (sym (order_one depth l s e t b))

-- and the trees after it in a list
list_put : (l s e t : List ℕ) (b a : Trees) → IsPlace s → IsPlace e → Put b → Put a → Put (tree l s e t b a)
list_put l s e t b no_tree ps pe pb pa fuel depth rest =
    let none : suc (size b + 0) + fuel ≡ suc (size b + fuel) = omega arith in
    ap (λ k. nodes_in k (suc depth) (object l s e t (objects b) ++ (more_text (objects no_tree) ++ rest))) none
    ∙ ap (λ os. nodes_in (suc (size b + fuel)) (suc depth) (object l s e t (objects b) ++ (more_text os ++ rest)))
    objects_nil
    ∙ one_put l s e t b ps pe pb fuel (suc depth) rest
list_put l s e t b (tree l' s' e' t' b' a') ps pe pb pa fuel depth rest =
    let a = tree l' s' e' t' b' a' in
    let o = object l' s' e' t' (objects b') in
    let os = objects a' in
    let next = o ++ (more_text os ++ rest) in
    let sum : suc (size b + size a) + fuel ≡ suc (size b + (size a + fuel)) = omega arith in
    let text : more_text (o ∷ os) ++ rest ≡ 44 ∷ next = ap (λ x. 44 ∷ x) (append_assoc o (more_text os) rest) in
    ap (λ k. nodes_in k (suc depth) (object l s e t (objects b) ++ (more_text (objects a) ++ rest))) sum
    ∙ ap (λ x. nodes_in (suc (size b + (size a + fuel))) (suc depth) (object l s e t (objects b)
    ++ (more_text x ++ rest))) (objects_cons l' s' e' t' b' a')
    ∙ ap (λ x. nodes_in (suc (size b + (size a + fuel))) (suc depth) (object l s e t (objects b) ++ x)) text
    ∙ one_put l s e t b ps pe pb (size a + fuel) (suc depth) (44 ∷ next)
    ∙ ap (λ r. with_front (in_order (suc depth) (tree l s e t b no_tree)) (goes_on (size a + fuel) r))
    (resume_comma depth next)
    ∙ ap (with_front (in_order (suc depth) (tree l s e t b no_tree))) (pa fuel depth rest)
    ∙ front_both (in_order (suc depth) (tree l s e t b no_tree)) (in_order (suc depth) a)
    (goes_on fuel (resume (suc depth) rest))
    ∙ ap (λ ns. with_front ns (goes_on fuel (resume (suc depth) rest)))
    (ap (λ ns. ns ++ in_order (suc depth) a) (order_one (suc depth) l s e t b)
    ∙ sym (order_cons (suc depth) l s e t b a))

put : (f : Trees) → HavePlaces f → Put f
put no_tree h = tt
put (tree l s e t b a) h =
    let p = placed l s e t b a h in
    list_put l s e t b a p.start p.end (put b p.below) (put a p.others)

-- there are enough turns
subs_long : (os : List (List ℕ)) → length (more_text os) ≤ length (subs os)
subs_long [] = omega arith
subs_long (o ∷ os) = simp length-append (omega arith)

object_long : (l s e t : List ℕ) (os : List (List ℕ)) → length (subs os) < length (object l s e t os)
object_long l s e t os = simp length-append (omega arith)

more_long : (f : Trees) → size f ≤ length (more_text (objects f))
more_long no_tree = omega arith
more_long (tree l s e t b a) =
    let inner = object_long l s e t (objects b) in
    let list = subs_long (objects b) in
    let below = more_long b in
    let others = more_long a in
    let long : length (more_text (objects (tree l s e t b a)))
    ≡ suc (length (object l s e t (objects b)) + length (more_text (objects a))) =
    ap (λ os. length (more_text os)) (objects_cons l s e t b a)
    ∙ ap suc (length-append (object l s e t (objects b)) (more_text (objects a))) in
    omega (arith, long, inner, list, below, others)

-- the nodes of a line that is the object of a tree are those of that tree
pub tree_put : (line : List ℕ) (nodes : List Seen) → IsOneTree line nodes → tree_in line ≡ Some nodes
tree_put line nodes h = by h.trees h.places h.one h.nodes_are
  where
    alone : (a : Trees) → objects a ≡ [] → a ≡ no_tree
    alone no_tree e = refl
    alone (tree l s e t b a) none = absurd (let no : object l s e t (objects b) ∷ objects a ≡ [] =
        sym (objects_cons l s e t b a) ∙ none in cc)

    by : (f : Trees) → HavePlaces f → objects f ≡ line ∷ [] → in_order 0 f ≡ nodes → tree_in line ≡ Some nodes
    by no_tree places one is = absurd (let no : [] ≡ line ∷ [] = sym objects_nil ∙ one in cc)
    by (tree l s e t b a) places one is =
        let p = placed l s e t b a places in
        let both : object l s e t (objects b) ∷ objects a ≡ line ∷ [] = sym (objects_cons l s e t b a) ∙ one in
        let text : object l s e t (objects b) ≡ line = cc in
        let none : objects a ≡ [] = cc in
        let single = alone a none in
        let inner = object_long l s e t (objects b) in
        let list = subs_long (objects b) in
        let below = more_long b in
        let long = ap length text in
        let fuel : size b + (length line - size b) ≡ length line = omega (arith, inner, list, below, long) in
        tree_is line
        ∙ ap (λ k. nodes_in (suc k) 0 line) (sym fuel)
        ∙ ap (nodes_in (suc (size b + (length line - size b))) 0) (sym text
        ∙ sym (append-nil (object l s e t (objects b))))
        ∙ one_put l s e t b p.start p.end (put b p.below) (length line - size b) 0 []
        ∙ ap (λ r. with_front (in_order 0 (tree l s e t b no_tree)) (goes_on (length line - size b) r))
        (ap next_by (closed_none []))
        ∙ ap Some (append-nil (in_order 0 (tree l s e t b no_tree))
        ∙ ap (λ x. in_order 0 (tree l s e t b x)) (sym single) ∙ is)

-- ---- taken apart

record Ends (depth : ℕ) (T : List ℕ → List Seen → Type 0) (rest : List ℕ) (ns : List Seen) : Type 0 where
  others : Trees
  places : HavePlaces others
  left : List ℕ
  more : List Seen
  text : rest ≡ more_text (objects others) ++ (codes "]}" ++ left)
  nodes : ns ≡ in_order (suc depth) others ++ more
  tail : T left more

-- what is left after a node in so many lists, and its nodes
abbrev Tail : ℕ → List ℕ → List Seen → Type 0
Tail zero rest ns = (rest ≡ []) × (ns ≡ [])
Tail (suc depth) rest ns = Ends depth (Tail depth) rest ns

-- a node and what is left after it
record Begins (depth : ℕ) (rest : List ℕ) (ns : List Seen) : Type 0 where
  label : List ℕ
  start : List ℕ
  end : List ℕ
  data_ : List ℕ
  below : Trees
  start_place : IsPlace start
  end_place : IsPlace end
  places : HavePlaces below
  left : List ℕ
  more : List Seen
  text : rest ≡ object label start end data_ (objects below) ++ left
  nodes : ns ≡ in_order depth (tree label start end data_ below no_tree) ++ more
  tail : Tail depth left more

abbrev Reads : ℕ → Type 0
Reads k = (depth : ℕ) (rest : List ℕ) (ns : List Seen) → nodes_in k depth rest ≡ Some ns → Begins depth rest ns

record First (n : Seen) (m : Option (List Seen)) (ns : List Seen) : Type 0 where
  others : List Seen
  is : m ≡ Some others
  all : ns ≡ n ∷ others

first_of_all : (n : Seen) (m : Option (List Seen)) (ns : List Seen) → with_first n m ≡ Some ns → First n m ns
first_of_all n None ns e = absurd (none_some e)
first_of_all n (Some others) ns e = record { others = others; is = refl; all = sym (some_same e) }

-- a list with one tree more at its front
ends_on : (depth : ℕ) (rest left : List ℕ) (ns : List Seen) → rest ≡ 44 ∷ left → Begins (suc depth) left ns
    → Ends depth (Tail depth) rest ns
ends_on depth rest left ns is b =
    let e = b.tail in
    let f = tree b.label b.start b.end b.data_ b.below e.others in
    let o = object b.label b.start b.end b.data_ (objects b.below) in record {
      others = f;
      places = places_put b.label b.start b.end b.data_ b.below e.others b.start_place b.end_place b.places e.places;
      left = e.left;
      more = e.more;
      text =
          is ∙ ap (λ x. 44 ∷ x) (b.text ∙ ap (λ x. o ++ x) e.text
          ∙ sym (append_assoc o (more_text (objects e.others)) (codes "]}" ++ e.left)))
          ∙ ap (λ os. more_text os ++ (codes "]}" ++ e.left))
          (sym (objects_cons b.label b.start b.end b.data_ b.below e.others));
      nodes =
          b.nodes ∙ ap (λ ms. in_order (suc depth) (tree b.label b.start b.end b.data_ b.below no_tree) ++ ms) e.nodes
          ∙ sym (append_assoc (in_order (suc depth) (tree b.label b.start b.end b.data_ b.below no_tree))
          (in_order (suc depth) e.others) e.more)
          ∙ ap (λ ms. ms ++ e.more)
          (ap (λ ms. ms ++ in_order (suc depth) e.others)
          (order_one (suc depth) b.label b.start b.end b.data_ b.below)
          ∙ sym (order_cons (suc depth) b.label b.start b.end b.data_ b.below e.others));
      tail = e.tail;
    }

comma_apart : (k depth : ℕ) (rest : List ℕ) (p : ℕ × List ℕ) (ns : List Seen) → Reads k → (o : Option (List ℕ))
    → after (codes ",") rest ≡ o → option_map (λ left. (suc depth, left)) o ≡ Some p
    → go_on (nodes_in k) p.0 p.1 ≡ Some ns → Ends depth (Tail depth) rest ns
comma_apart k depth rest p ns read None h e g = absurd (none_some e)
comma_apart k depth rest p ns read (Some left) h e g =
    let same = some_same e in
    ends_on depth rest left ns (after_back (codes ",") rest left h)
    (read (suc depth) left ns (ap (λ (q : ℕ × List ℕ). go_on (nodes_in k) q.0 q.1) same ∙ g))

end_apart : (rest : List ℕ) (ns : List Seen) → at_end rest ≡ Some ns → (rest ≡ []) × (ns ≡ [])
end_apart [] ns e = (refl, sym (some_same e))
end_apart (b ∷ bs) ns e = absurd (none_some e)

-- what is left after a node, where it has ended
abbrev Closing : ℕ → ℕ → Type 0
Closing k depth = (rest : List ℕ) (p : ℕ × List ℕ) (ns : List Seen) → next_by (closed depth rest) ≡ Some p
    → go_on (nodes_in k) p.0 p.1 ≡ Some ns → Tail depth rest ns

list_apart : (k depth : ℕ) → Reads k → Closing k depth → (rest : List ℕ) (p : ℕ × List ℕ) (ns : List Seen)
    → (o : Option (List ℕ)) → after (codes "]}") rest ≡ o → next_by (close_by (closed depth) (suc depth) rest o)
    ≡ Some p
    → go_on (nodes_in k) p.0 p.1 ≡ Some ns → Ends depth (Tail depth) rest ns
list_apart k depth read close rest p ns None h e g =
    comma_apart k depth rest p ns read (after (codes ",") rest) refl e g
list_apart k depth read close rest p ns (Some left) h e g = record {
  others = no_tree;
  places = places_none;
  left = left;
  more = ns;
  text = after_back (codes "]}") rest left h ∙ ap (λ os. more_text os ++ (codes "]}" ++ left)) (sym objects_nil);
  nodes = ap (λ ms. ms ++ ns) (sym (order_nil (suc depth)));
  tail = close left p ns e g;
}

tail_apart : (k : ℕ) → Reads k → (depth : ℕ) → Closing k depth
tail_apart k read zero rest p ns e g =
    let same : (0, rest) ≡ p = some_same (ap next_by (sym (closed_none rest)) ∙ e) in
    end_apart rest ns (ap (λ (q : ℕ × List ℕ). go_on (nodes_in k) q.0 q.1) same ∙ g)
tail_apart k read (suc depth) rest p ns e g =
    list_apart k depth read (tail_apart k read depth) rest p ns (after (codes "]}") rest) refl
    (ap next_by (sym (closed_more depth rest)) ∙ e) g

abbrev Step : ℕ → ℕ → List ℕ → List Seen → Spelled × List ℕ → Seen × (ℕ × List ℕ) → Type 0
Step k depth rest ns r s = node_in rest ≡ Some r → with_first s.0 (go_on (nodes_in k) s.1.0 s.1.1) ≡ Some ns
    → Begins depth rest ns

leaf_apart : (k depth : ℕ) (rest : List ℕ) (ns : List Seen) (r : Spelled × List ℕ) (s : Seen × (ℕ × List ℕ)) → Reads k
    → (o : Option (ℕ × List ℕ)) → next_in depth r.1 ≡ o
    → option_map (λ next. (record { spelled = r.0; depth = depth; leaf = true }, next)) o ≡ Some s
    → Step k depth rest ns r s
leaf_apart k depth rest ns r s read None h e node g = absurd (none_some e)
leaf_apart k depth rest ns r s read (Some next) h e node g =
    let n = node_apart rest r.0 r.1 node in
    let same = some_same e in
    let first = first_of_all s.0 (go_on (nodes_in k) s.1.0 s.1.1) ns g in
    let ended = had (λ left. next_by (closed depth left)) (after (codes "}") r.1) next (sym (next_is depth r.1) ∙ h) in
    let left = ended.found in
    let tail = tail_apart k read depth left next first.others ended.leaves
    (ap (λ (q : Seen × (ℕ × List ℕ)). go_on (nodes_in k) q.1.0 q.1.1) same ∙ first.is) in
    let seen : s.0 ≡ node_of depth n.label n.start n.end n.text no_tree =
    sym (ap (λ (q : Seen × (ℕ × List ℕ)). q.0) same)
    ∙ ap (λ x. record { spelled = x; depth = depth; leaf = true }) n.is in record {
      label = n.label;
      start = n.start;
      end = n.end;
      data_ = n.text;
      below = no_tree;
      start_place = n.start_place;
      end_place = n.end_place;
      places = places_none;
      left = left;
      more = first.others;
      text =
          n.whole ∙ ap (node_text n.label n.start n.end n.text) (after_back (codes "}") r.1 left ended.is)
          ∙ sym (leaf_text n.label n.start n.end n.text left)
          ∙ ap (λ os. object n.label n.start n.end n.text os ++ left) (sym objects_nil);
      nodes =
          first.all ∙ ap (λ x. x ∷ first.others) seen
          ∙ ap (λ ms. ms ++ first.others) (ap (λ ms. node_of depth n.label n.start n.end n.text no_tree ∷ ms)
          (sym (order_nil (suc depth)))
          ∙ sym (order_one depth n.label n.start n.end n.text no_tree));
      tail = tail;
    }

inner_apart : (k depth : ℕ) (rest : List ℕ) (ns : List Seen) (r : Spelled × List ℕ) (s : Seen × (ℕ × List ℕ)) → Reads k
    → (below : List ℕ) → after (codes ",\"subs\":[") r.1 ≡ Some below
    → Some (record { spelled = r.0; depth = depth; leaf = false }, (suc depth, below)) ≡ Some s
    → Step k depth rest ns r s
inner_apart k depth rest ns r s read below h e node g =
    let n = node_apart rest r.0 r.1 node in
    let same = some_same e in
    let first = first_of_all s.0 (go_on (nodes_in k) s.1.0 s.1.1) ns g in
    let b = read (suc depth) below first.others (ap (λ (q : Seen × (ℕ × List ℕ)). go_on (nodes_in k) q.1.0 q.1.1) same
    ∙ first.is) in
    let x = b.tail in
    let f = tree b.label b.start b.end b.data_ b.below x.others in
    let o = object b.label b.start b.end b.data_ (objects b.below) in
    let seen : s.0 ≡ node_of depth n.label n.start n.end n.text f =
    sym (ap (λ (q : Seen × (ℕ × List ℕ)). q.0) same)
    ∙ ap (λ y. record { spelled = y; depth = depth; leaf = false }) n.is in record {
      label = n.label;
      start = n.start;
      end = n.end;
      data_ = n.text;
      below = f;
      start_place = n.start_place;
      end_place = n.end_place;
      places = places_put b.label b.start b.end b.data_ b.below x.others b.start_place b.end_place b.places x.places;
      left = x.left;
      more = x.more;
      text =
          n.whole ∙ ap (node_text n.label n.start n.end n.text) (after_back (codes ",\"subs\":[") r.1 below h
          ∙ ap (λ y. codes ",\"subs\":[" ++ y) (b.text ∙ ap (λ y. o ++ y) x.text))
          ∙ sym (inner_text n.label n.start n.end n.text o (objects x.others) x.left)
          ∙ ap (λ os. object n.label n.start n.end n.text os ++ x.left)
          (sym (objects_cons b.label b.start b.end b.data_ b.below x.others));
      nodes =
          first.all ∙ ap (λ y. y ∷ first.others) seen
          ∙ ap (λ ms. node_of depth n.label n.start n.end n.text f ∷ ms) (b.nodes
          ∙ ap (λ ms. in_order (suc depth) (tree b.label b.start b.end b.data_ b.below no_tree) ++ ms) x.nodes
          ∙ sym (append_assoc (in_order (suc depth) (tree b.label b.start b.end b.data_ b.below no_tree))
          (in_order (suc depth) x.others) x.more)
          ∙ ap (λ ms. ms ++ x.more)
          (ap (λ ms. ms ++ in_order (suc depth) x.others)
          (order_one (suc depth) b.label b.start b.end b.data_ b.below)
          ∙ sym (order_cons (suc depth) b.label b.start b.end b.data_ b.below x.others)))
          ∙ ap (λ ms. ms ++ x.more) (sym (order_one depth n.label n.start n.end n.text f));
      tail = x.tail;
    }

step_apart : (k depth : ℕ) (rest : List ℕ) (ns : List Seen) (r : Spelled × List ℕ) (s : Seen × (ℕ × List ℕ)) → Reads k
    → (o : Option (List ℕ)) → after (codes ",\"subs\":[") r.1 ≡ o → step_by depth r o ≡ Some s
    → Step k depth rest ns r s
step_apart k depth rest ns r s read None h e = leaf_apart k depth rest ns r s read (next_in depth r.1) refl e
step_apart k depth rest ns r s read (Some below) h e = inner_apart k depth rest ns r s read below h e

reads : (k : ℕ) → Reads k
reads zero depth rest ns e = absurd (none_some (sym (nodes_zero depth rest) ∙ e))
reads (suc k) depth rest ns e =
    let step = had (then_nodes k) (step_in depth rest) ns (sym (nodes_more k depth rest) ∙ e) in
    let node = had (λ r. step_by depth r (after (codes ",\"subs\":[") r.1)) (node_in rest) step.found
    (sym (step_is depth rest) ∙ step.is) in
    step_apart k depth rest ns node.found step.found (reads k) (after (codes ",\"subs\":[") node.found.1) refl
    node.leaves node.is step.leaves

tree_apart : (line : List ℕ) (nodes : List Seen) → tree_in line ≡ Some nodes → IsOneTree line nodes
tree_apart line nodes e =
    let b = reads (suc (length line)) 0 line nodes (sym (tree_is line) ∙ e) in
    let f = tree b.label b.start b.end b.data_ b.below no_tree in record {
      trees = f;
      places = places_put b.label b.start b.end b.data_ b.below no_tree b.start_place b.end_place b.places places_none;
      one =
          objects_cons b.label b.start b.end b.data_ b.below no_tree
          ∙ ap (λ os. object b.label b.start b.end b.data_ (objects b.below) ∷ os) objects_nil
          ∙ ap (λ x. x ∷ []) (sym (b.text
          ∙ ap (λ x. object b.label b.start b.end b.data_ (objects b.below) ++ x) b.tail.0
          ∙ append-nil (object b.label b.start b.end b.data_ (objects b.below))));
      nodes_are = sym (b.nodes ∙ ap (λ ms. in_order 0 f ++ ms) b.tail.1 ∙ append-nil (in_order 0 f));
    }

pub reads_trees : ReadsTrees
reads_trees = (tree_apart, tree_put)
