-- Names of fields, and their values, node by node.
use Rattle.std.proofs.Common.{◌≡◌, ℕ, suc, Bool, true, false, ◌+◌, ◌<◌, ◌≤◌, List, [], ◌∷◌, ◌++◌, length, get_or, drop}
use Rattle.std.proofs.Common.{map, refl, sym, ap, ◌∙◌, arith, nat_eq}
use Rattle.std.specs.Prelude.{if◌then◌else◌, ◌&&◌}
use Rattle.std.specs.Str.{bytes_eq}
use Rattle.std.proofs.Math.Seq.{drop-cons}
use Rattle.std.proofs.lemmas.List.{drop_all, map_push}
use Rattle.std.proofs.lemmas.Bool.{eq-eqb}
use Rattle.rpl_columns.specs.Fields.{is_field, is_new, key_of, keys, last_part, part_by, values, with_key}
use Rattle.rpl_columns.specs.Nodes.{Seen, seen, part_of}
use Rattle.rpl_columns.specs.declared.node.Node.{Node}
use Rattle.rpl_columns.proofs.Counting.{not_same}

-- the last part of a type, byte by byte
part_next : (best label : List ℕ) (i : ℕ) → i < length label
    → part_by best (drop i label)
    ≡ (if nat_eq (get_or label i 0) 46 then part_by (drop (i + 1) label) (drop (i + 1) label)
    else part_by best (drop (i + 1) label))
part_next best label i lt =
    let one : i + 1 ≡ suc i = omega arith in
    rw one (ap (part_by best) (drop-cons label i 0 lt))

pub part_dot : (best label : List ℕ) (i : ℕ) → i < length label → get_or label i 0 ≡ 46
    → part_by best (drop i label) ≡ part_by (drop (i + 1) label) (drop (i + 1) label)
part_dot best label i lt is =
    part_next best label i lt
    ∙ ap (λ t. if t then part_by (drop (i + 1) label) (drop (i + 1) label) else part_by best (drop (i + 1) label))
    (eq-eqb (get_or label i 0) 46 is)

pub part_other : (best label : List ℕ) (i : ℕ) → i < length label → (get_or label i 0 ≡ 46 → ⊥)
    → part_by best (drop i label) ≡ part_by best (drop (i + 1) label)
part_other best label i lt is =
    part_next best label i lt
    ∙ ap (λ t. if t then part_by (drop (i + 1) label) (drop (i + 1) label) else part_by best (drop (i + 1) label))
    (not_same (get_or label i 0) 46 is)

-- bytes of which there are not as many are not the same
pub not_as_many : (xs ys : List ℕ) → (length xs ≡ length ys → ⊥) → bytes_eq xs ys ≡ false
not_as_many [] [] h = absurd (h refl)
not_as_many [] (y ∷ ys) h = refl
not_as_many (x ∷ xs) [] h = refl
not_as_many (x ∷ xs) (y ∷ ys) h =
    ap (λ t. nat_eq x y && t) (not_as_many xs ys (λ e. h (ap suc e))) ∙ and_false (nat_eq x y)
  where
    and_false : (b : Bool) → (b && false) ≡ false
    and_false true = refl
    and_false false = refl

node_next : (line : List ℕ) (nodes : List Node) (i : ℕ) (d : Node) → i < length nodes
    → map (seen line) (drop i nodes) ≡ seen line (get_or nodes i d) ∷ map (seen line) (drop (i + 1) nodes)
node_next line nodes i d lt =
    let one : i + 1 ≡ suc i = omega arith in
    rw one (ap (map (seen line)) (drop-cons nodes i d lt))

keys_step : (known : List (List ℕ)) (n : Seen) (ns : List Seen)
    → keys known (n ∷ ns) ≡ keys (with_key known n.leaf (last_part n.spelled.label)) ns
unfolding keys
keys_step known n ns = refl

keys_end : (known : List (List ℕ)) → keys known [] ≡ known
unfolding keys
keys_end known = refl

pub keys_none : (known : List (List ℕ)) (line : List ℕ) (nodes : List Node) (i : ℕ) → length nodes ≤ i
    → keys known (map (seen line) (drop i nodes)) ≡ known
keys_none known line nodes i le = ap (λ ns. keys known (map (seen line) ns)) (drop_all i nodes le) ∙ keys_end known

-- a name more, and none
keys_by : (line : List ℕ) (known nodes : List Node) (i : ℕ) (d : Node) (ks : List Node) (new : Bool) → i < length nodes
    → ks ≡ known → new ≡ is_new (map (key_of line) ks) (get_or nodes i d).is_leaf (key_of line (get_or nodes i d))
    → keys (map (key_of line) known) (map (seen line) (drop i nodes))
    ≡ keys (if new then map (key_of line) known ++ key_of line (get_or nodes i d) ∷ [] else map (key_of line) known)
    (map (seen line) (drop (i + 1) nodes))
keys_by line known nodes i d ks new lt same is =
    let n = get_or nodes i d in
    let rest = map (seen line) (drop (i + 1) nodes) in
    ap (keys (map (key_of line) known)) (node_next line nodes i d lt)
    ∙ keys_step (map (key_of line) known) (seen line n) rest
    ∙ ap (λ t. keys (if t then map (key_of line) known ++ key_of line n ∷ [] else map (key_of line) known) rest)
    (ap (λ k. is_new (map (key_of line) k) n.is_leaf (key_of line n)) (sym same) ∙ sym is)

pub keys_more : (line : List ℕ) (known all nodes : List Node) (i : ℕ) (d : Node) (ks : List Node) (new : Bool)
    → i < length nodes → ks ≡ known
    → new ≡ is_new (map (key_of line) ks) (get_or nodes i d).is_leaf (key_of line (get_or nodes i d)) → new ≡ true
    → all ≡ known ++ get_or nodes i d ∷ [] → keys (map (key_of line) known) (map (seen line) (drop i nodes))
    ≡ keys (map (key_of line) all) (map (seen line) (drop (i + 1) nodes))
keys_more line known all nodes i d ks new lt same is true_ pushed =
    let n = get_or nodes i d in
    let rest = map (seen line) (drop (i + 1) nodes) in
    keys_by line known nodes i d ks new lt same is
    ∙ ap (λ t. keys (if t then map (key_of line) known ++ key_of line n ∷ [] else map (key_of line) known) rest) true_
    ∙ ap (λ k. keys k rest) (sym (ap (map (key_of line)) pushed ∙ map_push (key_of line) known n))

pub keys_same : (line : List ℕ) (known nodes : List Node) (i : ℕ) (d : Node) (ks : List Node) (new : Bool)
    → i < length nodes → ks ≡ known
    → new ≡ is_new (map (key_of line) ks) (get_or nodes i d).is_leaf (key_of line (get_or nodes i d)) → new ≡ false
    → keys (map (key_of line) known) (map (seen line) (drop i nodes))
    ≡ keys (map (key_of line) known) (map (seen line) (drop (i + 1) nodes))
keys_same line known nodes i d ks new lt same is false_ =
    keys_by line known nodes i d ks new lt same is
    ∙ ap (λ t. keys (if t then map (key_of line) known ++ key_of line (get_or nodes i d) ∷ []
    else map (key_of line) known) (map (seen line) (drop (i + 1) nodes))) false_

-- the field of the next name
pub names_next : (f : List ℕ → List ℕ) (line : List ℕ) (ks : List Node) (i : ℕ) (d : Node) (key : List ℕ)
    → i < length ks → key ≡ key_of line (get_or ks i d)
    → map f (map (key_of line) (drop i ks)) ≡ f key ∷ map f (map (key_of line) (drop (i + 1) ks))
names_next f line ks i d key lt is =
    let one : i + 1 ≡ suc i = omega arith in
    rw one (ap (λ xs. map f (map (key_of line) xs)) (drop-cons ks i d lt)
    ∙ ap (λ k. f k ∷ map f (map (key_of line) (drop (suc i) ks))) (sym is))

pub names_none : (f : List ℕ → List ℕ) (line : List ℕ) (ks : List Node) (i : ℕ) → length ks ≤ i
    → map f (map (key_of line) (drop i ks)) ≡ []
names_none f line ks i le = ap (λ xs. map f (map (key_of line) xs)) (drop_all i ks le)

values_step : (key : List ℕ) (n : Seen) (ns : List Seen)
    → values key (n ∷ ns) ≡ (if is_field key n.leaf n.spelled.label then n.spelled.text ∷ values key ns
    else values key ns)
unfolding values
values_step key n ns = refl

values_end : (key : List ℕ) → values key [] ≡ []
unfolding values
values_end key = refl

pub values_none : (key line : List ℕ) (nodes : List Node) (i : ℕ) → length nodes ≤ i
    → values key (map (seen line) (drop i nodes)) ≡ []
values_none key line nodes i le = ap (λ ns. values key (map (seen line) ns)) (drop_all i nodes le) ∙ values_end key

-- a node of the field, and one of another
pub values_more : (key line : List ℕ) (nodes : List Node) (i : ℕ) (d : Node) → i < length nodes
    → is_field key (get_or nodes i d).is_leaf (part_of line (get_or nodes i d).parts.label) ≡ true
    → values key (map (seen line) (drop i nodes)) ≡ part_of line (get_or nodes i d).parts.text
    ∷ values key (map (seen line) (drop (i + 1) nodes))
values_more key line nodes i d lt is =
    let n = seen line (get_or nodes i d) in
    let rest = map (seen line) (drop (i + 1) nodes) in
    ap (values key) (node_next line nodes i d lt) ∙ values_step key n rest
    ∙ ap (λ t. if t then n.spelled.text ∷ values key rest else values key rest) is

pub values_same : (key line : List ℕ) (nodes : List Node) (i : ℕ) (d : Node) → i < length nodes
    → is_field key (get_or nodes i d).is_leaf (part_of line (get_or nodes i d).parts.label) ≡ false
    → values key (map (seen line) (drop i nodes)) ≡ values key (map (seen line) (drop (i + 1) nodes))
values_same key line nodes i d lt is =
    let n = seen line (get_or nodes i d) in
    let rest = map (seen line) (drop (i + 1) nodes) in
    ap (values key) (node_next line nodes i d lt) ∙ values_step key n rest
    ∙ ap (λ t. if t then n.spelled.text ∷ values key rest else values key rest) is
