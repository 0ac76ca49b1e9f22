-- What a column takes of the nodes of a tree, in the order in which they are written.
use Rattle.std.proofs.Common.{◌≡◌, ℕ, suc, Bool, true, false, ◌<◌, ◌≤◌, List, [], ◌∷◌, ◌++◌, Option, None, Some, refl}
use Rattle.std.proofs.Common.{sym, ap, ◌∙◌, arith, append_assoc, append-nil}
use Rattle.std.specs.Prelude.{◌&&◌, if◌then◌else◌, is_some}
use Rattle.std.proofs.lemmas.Bool.{lt-ltb, le-ltb}
use Rattle.json.specs.Print.{escape}
use Rattle.rpl_columns.specs.Columns.{entered, is_inside, is_named, next_enclosing, picked, piece_of, still_enclosing}
use Rattle.rpl_columns.specs.Columns.{takes}
use Rattle.rpl_columns.specs.Nodes.{Seen, Spelled}
use Rattle.rpl_columns.specs.Taken.{TakesNodes, among, inside, nodes_of, parts_in}
use Rattle.rpl_columns.specs.Trees.{Trees, in_order, no_tree, tree}
use Rattle.rpl_columns.specs.declared.column.Column.{Column}
use Rattle.rpl_columns.proofs.WholeTrees.{node_of, order_cons, order_nil}

parts_append : (c : Column) (ns ms : List Spelled) → parts_in c (ns ++ ms) ≡ parts_in c ns ++ parts_in c ms
parts_append c [] ms = refl
parts_append c (n ∷ ns) ms = by (is_named n.label c.label) (parts_append c ns ms)
  where
    by : (t : Bool) → parts_in c (ns ++ ms) ≡ parts_in c ns ++ parts_in c ms
        → (if t then piece_of c.part n ∷ parts_in c (ns ++ ms) else parts_in c (ns ++ ms))
        ≡ (if t then piece_of c.part n ∷ parts_in c ns else parts_in c ns) ++ parts_in c ms
    by true more = ap (λ ps. piece_of c.part n ∷ ps) more
    by false more = more

-- the next node
abbrev then_picked : Column → Option ℕ → Seen → List Seen → Bool → List (List ℕ)
then_picked c enclosing n ns t =
    if t then piece_of c.part n.spelled ∷ picked c (next_enclosing c.outer enclosing n.spelled.label n.depth) ns
    else picked c (next_enclosing c.outer enclosing n.spelled.label n.depth) ns

picked_first : (c : Column) (enclosing : Option ℕ) (n : Seen) (ns : List Seen)
    → picked c enclosing (n ∷ ns) ≡ then_picked c enclosing n ns (takes c enclosing n.spelled.label n.depth)
unfolding picked
picked_first c enclosing n ns = refl

picked_nil : (c : Column) (enclosing : Option ℕ) → picked c enclosing [] ≡ []
unfolding picked
picked_nil c enclosing = refl

order_then : (depth : ℕ) (l s e t : List ℕ) (b a : Trees) (rest : List Seen)
    → in_order depth (tree l s e t b a) ++ rest
    ≡ node_of depth l s e t b ∷ (in_order (suc depth) b ++ (in_order depth a ++ rest))
order_then depth l s e t b a rest =
    ap (λ ns. ns ++ rest) (order_cons depth l s e t b a)
    ∙ ap (λ ns. node_of depth l s e t b ∷ ns) (append_assoc (in_order (suc depth) b) (in_order depth a) rest)

none_then : (depth : ℕ) (rest : List Seen) → in_order depth no_tree ++ rest ≡ rest
none_then depth rest = ap (λ ns. ns ++ rest) (order_nil depth)

-- a node that all are among: the first of those that a column takes, or not
put_first : (c : Column) (n : Spelled) (ns : List Spelled) (more : List (List ℕ)) (t : Bool)
    → (if t then piece_of c.part n ∷ (parts_in c ns ++ more) else parts_in c ns ++ more)
    ≡ (if t then piece_of c.part n ∷ parts_in c ns else parts_in c ns) ++ more
put_first c n ns more true = refl
put_first c n ns more false = refl

-- ---- a column without an outer node

module _ (c : Column) (free : c.outer ≡ None) where
  same_after : (enclosing : Option ℕ) (label : List ℕ) (depth : ℕ) → next_enclosing c.outer enclosing label depth
      ≡ enclosing
  same_after enclosing label depth = rw free refl

  all_taken : (t : Trees) (depth : ℕ) (rest : List Seen) → picked c None (in_order depth t ++ rest)
      ≡ parts_in c (nodes_of t) ++ picked c None rest
  all_taken no_tree depth rest = ap (picked c None) (none_then depth rest)
  all_taken (tree l s e t b a) depth rest =
      let n = node_of depth l s e t b in
      let more = in_order (suc depth) b ++ (in_order depth a ++ rest) in
      let after : picked c None more ≡ parts_in c (nodes_of b ++ nodes_of a) ++ picked c None rest =
      all_taken b (suc depth) (in_order depth a ++ rest)
      ∙ ap (λ x. parts_in c (nodes_of b) ++ x) (all_taken a depth rest)
      ∙ sym (append_assoc (parts_in c (nodes_of b)) (parts_in c (nodes_of a)) (picked c None rest))
      ∙ ap (λ x. x ++ picked c None rest) (sym (parts_append c (nodes_of b) (nodes_of a))) in
      ap (picked c None) (order_then depth l s e t b a rest) ∙ picked_first c None n more
      ∙ ap (λ o. then_picked c None n more (is_inside o None depth && is_named (escape l) c.label)) free
      ∙ ap (λ x. if is_named (escape l) c.label then piece_of c.part n.spelled ∷ picked c x more
      else picked c x more) (same_after None (escape l) depth)
      ∙ ap (λ x. if is_named (escape l) c.label then piece_of c.part n.spelled ∷ x else x) after
      ∙ put_first c n.spelled (nodes_of b ++ nodes_of a) (picked c None rest) (is_named (escape l) c.label)

-- ---- a column with one

-- the outer node has ended at this depth
abbrev IsOver : Option ℕ → ℕ → Type 0
IsOver None depth = Unit {0}
IsOver (Some outer) depth = depth ≤ outer

over : (enclosing : Option ℕ) (depth : ℕ) → IsOver enclosing depth → still_enclosing enclosing depth ≡ None
over None depth h = refl
over (Some outer) depth h = ap (λ t. if t then Some outer else None) (le-ltb outer depth h)

over_less : (enclosing : Option ℕ) (depth less : ℕ) → less ≤ depth → IsOver enclosing depth → IsOver enclosing less
over_less None depth less le h = tt
over_less (Some outer) depth less le h = omega arith

-- the next node isn't deeper than this
abbrev IsLow : ℕ → List Seen → Type 0
IsLow depth [] = Unit {0}
IsLow depth (n ∷ ns) = n.depth ≤ depth

low_more : (depth : ℕ) (ns : List Seen) → IsLow depth ns → IsLow (suc depth) ns
low_more depth [] h = tt
low_more depth (n ∷ ns) h = omega arith

low_order : (a : Trees) (depth : ℕ) (rest : List Seen) → IsLow depth rest → IsLow depth (in_order depth a ++ rest)
low_order no_tree depth rest h = rw (none_then depth rest) h
low_order (tree l s e t b a) depth rest h = rw (order_then depth l s e t b a rest) (omega arith)

module _ (c : Column) (name : List ℕ) (has : c.outer ≡ Some name) where
  -- a node that isn't inside isn't taken
  passed : (enclosing : Option ℕ) (n : Seen) (ns : List Seen) → still_enclosing enclosing n.depth ≡ None
      → picked c enclosing (n ∷ ns) ≡ picked c (if is_named n.spelled.label name then Some n.depth else None) ns
  passed enclosing n ns none =
      picked_first c enclosing n ns
      ∙ ap (λ o. then_picked c enclosing n ns (is_inside o enclosing n.depth && is_named n.spelled.label c.label)) has
      ∙ ap (λ x. then_picked c enclosing n ns (is_some x && is_named n.spelled.label c.label)) none
      ∙ ap (λ o. picked c (next_enclosing o enclosing n.spelled.label n.depth) ns) has
      ∙ ap (λ x. picked c (entered name n.spelled.label n.depth x) ns) none

  -- nor does it matter which node has ended
  low_same : (enclosing : Option ℕ) (depth : ℕ) (ns : List Seen) → IsOver enclosing depth → IsLow depth ns
      → picked c enclosing ns ≡ picked c None ns
  low_same enclosing depth [] h low = picked_nil c enclosing ∙ sym (picked_nil c None)
  low_same enclosing depth (n ∷ ns) h low =
      passed enclosing n ns (over enclosing n.depth (over_less enclosing depth n.depth low h))
      ∙ sym (passed None n ns refl)

  -- all nodes inside are looked at
  inner_taken : (t : Trees) (outer depth : ℕ) (rest : List Seen) → outer < depth
      → picked c (Some outer) (in_order depth t ++ rest) ≡ parts_in c (nodes_of t) ++ picked c (Some outer) rest
  inner_taken no_tree outer depth rest lt = ap (picked c (Some outer)) (none_then depth rest)
  inner_taken (tree l s e t b a) outer depth rest lt =
      let n = node_of depth l s e t b in
      let more = in_order (suc depth) b ++ (in_order depth a ++ rest) in
      let within : still_enclosing (Some outer) depth ≡ Some outer =
      ap (λ x. if x then Some outer else None) (lt-ltb outer depth lt) in
      let after : picked c (Some outer) more ≡ parts_in c (nodes_of b ++ nodes_of a) ++ picked c (Some outer) rest =
      inner_taken b outer (suc depth) (in_order depth a ++ rest) (omega arith)
      ∙ ap (λ x. parts_in c (nodes_of b) ++ x) (inner_taken a outer depth rest lt)
      ∙ sym (append_assoc (parts_in c (nodes_of b)) (parts_in c (nodes_of a)) (picked c (Some outer) rest))
      ∙ ap (λ x. x ++ picked c (Some outer) rest) (sym (parts_append c (nodes_of b) (nodes_of a))) in
      ap (picked c (Some outer)) (order_then depth l s e t b a rest) ∙ picked_first c (Some outer) n more
      ∙ ap (λ o. then_picked c (Some outer) n more (is_inside o (Some outer) depth && is_named (escape l) c.label)) has
      ∙ ap (λ x. then_picked c (Some outer) n more (is_some x && is_named (escape l) c.label)) within
      ∙ ap (λ o. if is_named (escape l) c.label
      then piece_of c.part n.spelled ∷ picked c (next_enclosing o (Some outer) (escape l) depth) more
      else picked c (next_enclosing o (Some outer) (escape l) depth) more) has
      ∙ ap (λ x. if is_named (escape l) c.label
      then piece_of c.part n.spelled ∷ picked c (entered name (escape l) depth x) more
      else picked c (entered name (escape l) depth x) more) within
      ∙ ap (λ x. if is_named (escape l) c.label then piece_of c.part n.spelled ∷ x else x) after
      ∙ put_first c n.spelled (nodes_of b ++ nodes_of a) (picked c (Some outer) rest) (is_named (escape l) c.label)

  outer_taken : (t : Trees) (depth : ℕ) (enclosing : Option ℕ) (rest : List Seen) → IsOver enclosing depth
      → IsLow depth rest → picked c enclosing (in_order depth t ++ rest) ≡ parts_in c (inside name t)
      ++ picked c None rest
  outer_taken no_tree depth enclosing rest h low = ap (picked c enclosing) (none_then depth rest)
      ∙ low_same enclosing depth rest h low
  outer_taken (tree l s e t b a) depth enclosing rest h low =
      let n = node_of depth l s e t b in
      let others = in_order depth a ++ rest in
      let more = in_order (suc depth) b ++ others in
      let below : Bool → List Spelled = λ (x : Bool). if x then nodes_of b else inside name b in
      let by : (x : Bool) → picked c (if x then Some depth else None) more ≡ parts_in c (below x)
      ++ (parts_in c (inside name a) ++ picked c None rest) =
      λ (x : Bool). elim x as (λ y. picked c (if y then Some depth else None) more ≡ parts_in c (if y then nodes_of b
      else inside name b) ++ (parts_in c (inside name a) ++ picked c None rest)) [
        | true ↦ inner_taken b depth (suc depth) others (omega arith)
            ∙ ap (λ y. parts_in c (nodes_of b) ++ y) (outer_taken a depth (Some depth) rest (omega arith) low)
        | false ↦ outer_taken b (suc depth) None others tt (low_more depth others (low_order a depth rest low))
            ∙ ap (λ y. parts_in c (inside name b) ++ y) (outer_taken a depth None rest tt low)
      ] in
      ap (picked c enclosing) (order_then depth l s e t b a rest) ∙ passed enclosing n more (over enclosing depth h)
      ∙ by (is_named (escape l) name)
      ∙ sym (append_assoc (parts_in c (if is_named (escape l) name then nodes_of b else inside name b))
      (parts_in c (inside name a)) (picked c None rest))
      ∙ ap (λ y. y ++ picked c None rest)
      (sym (parts_append c (if is_named (escape l) name then nodes_of b else inside name b) (inside name a)))

pub takes_nodes : TakesNodes
takes_nodes c t = by c.outer refl
  where
    alone : picked c None (in_order 0 t) ≡ picked c None (in_order 0 t ++ [])
    alone = ap (picked c None) (sym (append-nil (in_order 0 t)))

    ended : (ps : List (List ℕ)) → ps ++ picked c None [] ≡ ps
    ended ps = ap (λ x. ps ++ x) (picked_nil c None) ∙ append-nil ps

    by : (o : Option (List ℕ)) → c.outer ≡ o → picked c None (in_order 0 t) ≡ parts_in c (among c.outer t)
    by None is = alone ∙ all_taken c is t 0 [] ∙ ended (parts_in c (nodes_of t))
        ∙ ap (λ o. parts_in c (among o t)) (sym is)
    by (Some name) is = alone ∙ outer_taken c name is t 0 None [] tt tt ∙ ended (parts_in c (inside name t))
        ∙ ap (λ o. parts_in c (among o t)) (sym is)
