-- One step of the walk over the nodes directly under the root.
use Rattle.std.proofs.Common.{◌^◌, ◌⊎◌, inl, inr, ◌≡◌, ℕ, zero, suc, ◌+◌, ◌-◌, ◌<◌, ◌≤◌, Bool, true, false, List, []}
use Rattle.std.proofs.Common.{◌∷◌, ◌++◌, length, take, drop, min, Option, Some, None, refl, sym, ap, ◌∙◌, arith}
use Rattle.std.specs.Prelude.{not, ◌||◌, if◌then◌else◌, slice_get}
use Rattle.std.proofs.lemmas.List.{append-nil, drop-drop, drop_all, take_all}
use Rattle.rpl_core.specs.Forest.{Forest, NoTree}
use Rattle.rpl_tree.specs.Trees.{node_as, forest_of, below_root, label_in}
use Rattle.rpl_tree.specs.declared.node.Node.{Node}
use Rattle.rpl_encode.specs.Answer.{line_by_line}
use Rattle.rpl_encode.specs.inside.Children.{is_hit_by, is_printed, printed_texts, is_some_text, below_by}
use Rattle.rpl_encode.specs.inside.Children.{below_of_first}
use Rattle.rpl_encode.specs.Texts.{texts}
use Rattle.rpl_encode.specs.inside.Walk.{text_by, text_at}
use Rattle.rpl_tree.proofs.Trees.{forest_of_cons}
use Rattle.rpl_encode.proofs.Nodes.{drop_within, drop_got, drop_capped, got_none}
use Rattle.rpl_encode.proofs.Walking.{stepped}

abbrev pub trees : List (List ℕ) → List Node → Forest
trees labels = forest_of (label_in labels)

pub node_texts : (labels : List (List ℕ)) (line : List ℕ) (n : Node) (note : Option ℕ) (f g : Forest)
    → texts line (node_as (label_in labels) n note f g) ≡ text_by labels line n note ∷ texts line g
node_texts labels line n None f g = refl
node_texts labels line n (Some text) f g = refl

-- the text of the root with its line feed
pub root_line : (labels : List (List ℕ)) (line : List ℕ) (nodes : List Node) (root : Node)
    → slice_get nodes 0 ≡ Some root → line_by_line (take 1 (texts line (trees labels nodes))) ≡ text_at labels line root
    ++ 10 ∷ []
root_line labels line nodes root got =
    ap (λ ns. line_by_line (take 1 (texts line (trees labels ns)))) (drop_got nodes 0 root got)
    ∙ ap (λ f. line_by_line (take 1 (texts line f))) (forest_of_cons (label_in labels) root (drop 1 nodes))
    ∙ ap (λ ts. line_by_line (take 1 ts)) (node_texts labels line root root.note _ _)
    ∙ append-nil (text_at labels line root ++ 10 ∷ [])

pub node_printed : (labels : List (List ℕ)) (line : List ℕ) (h : Bool) (n : Node) (note : Option ℕ) (f g : Forest)
    → printed_texts h line (node_as (label_in labels) n note f g)
    ≡ (if not h || is_hit_by labels n note then text_by labels line n note ∷ printed_texts h line g
    else printed_texts h line g)
node_printed labels line true n None f g = refl
node_printed labels line true n (Some text) f g = refl
node_printed labels line false n None f g = refl
node_printed labels line false n (Some text) f g = refl

-- the texts from a node on, of which so many are to come
abbrev pub texts_left : List (List ℕ) → List ℕ → Bool → List Node → ℕ → ℕ → List (List ℕ)
texts_left labels line h nodes i left = printed_texts h line (trees labels (take left (drop i nodes)))

pub printed_step : (labels : List (List ℕ)) (line : List ℕ) (h : Bool) (nodes : List Node) (i j left now b : ℕ) (n :
    Node) → slice_get nodes i ≡ Some n → 0 < left → length nodes ≤ 2 ^ 64 - 1 → b ≡ min n.below (left - 1)
    → j ≡ min (i + 1 + b) (2 ^ 64 - 1) → now ≡ left - (1 + b)
    → texts_left labels line h nodes i left
    ≡ (if is_printed labels h n then text_at labels line n ∷ texts_left labels line h nodes j now
    else texts_left labels line h nodes j now)
printed_step labels line h nodes i j zero now b n got some fits least next less = absurd (omega arith)
printed_step labels line h nodes i j (suc k) now b n got some fits least next less =
    let one : suc k - 1 ≡ k = omega arith in
    let least' : min n.below k ≡ b = sym (rw one at least) in
    let less' : k - b ≡ now = omega arith in
    let behind : drop b (drop (i + 1) nodes) ≡ drop j nodes =
    drop-drop b (i + 1) nodes ∙ sym (ap (λ m. drop m nodes) next ∙ drop_capped nodes (i + 1 + b) (2 ^ 64 - 1) fits) in
    let rest : drop n.below (take k (drop (i + 1) nodes)) ≡ take now (drop j nodes) =
    drop_within k n.below (drop (i + 1) nodes)
    ∙ ap (λ m. take (k - m) (drop m (drop (i + 1) nodes))) least'
    ∙ ap (λ m. take m (drop b (drop (i + 1) nodes))) less'
    ∙ ap (take now) behind in
    ap (λ ns. printed_texts h line (trees labels (take (suc k) ns))) (drop_got nodes i n got)
    ∙ ap (printed_texts h line) (forest_of_cons (label_in labels) n (take k (drop (i + 1) nodes)))
    ∙ node_printed labels line h n n.note _ _
    ∙ ap (λ ns. if is_printed labels h n then text_at labels line n ∷ printed_texts h line (trees labels ns)
    else printed_texts h line (trees labels ns)) rest

below_of : (labels : List (List ℕ)) (n : Node) (note : Option ℕ) (ns : List Node) (g : Forest)
    → trees labels (take (below_by n note) ns)
    ≡ below_root (node_as (label_in labels) n note (trees labels (take n.below ns)) g)
below_of labels n None ns g = refl
below_of labels n (Some text) ns g = refl

-- the walk begins with all nodes under the root
pub first_below : (labels : List (List ℕ)) (nodes : List Node)
    → trees labels (take (below_of_first nodes) (drop 1 nodes)) ≡ below_root (trees labels nodes)
first_below labels [] = refl
first_below labels (n ∷ ns) = below_of labels n n.note ns _
    ∙ ap below_root (sym (forest_of_cons (label_in labels) n ns))

pub printed_none : (h : Bool) (line : List ℕ) → printed_texts h line NoTree ≡ []
printed_none true line = refl
printed_none false line = refl

-- and ends where none is left
pub none_left : (labels : List (List ℕ)) (line : List ℕ) (h : Bool) (nodes : List Node) (i left : ℕ)
    → (left ≡ 0) ⊎ (slice_get nodes i ≡ None) → texts_left labels line h nodes i left ≡ []
none_left labels line h nodes i left (inl none) = ap (texts_left labels line h nodes i) none ∙ printed_none h line
none_left labels line h nodes i left (inr past) =
    let none : take left (drop i nodes) ≡ [] = ap (take left) (drop_all i nodes (got_none nodes i past))
    ∙ take_all left [] (omega arith) in
    ap (λ ns. printed_texts h line (trees labels ns)) none ∙ printed_none h line

-- the step over a node whose text is written
pub text_step : {S : Type 0} (after : S → List ℕ → S)
    → ((s : S) (x y : List ℕ) → after (after s x) y ≡ after s (x ++ y))
    → (o o' z : S) (text : List ℕ) (r r' : List (List ℕ)) → o' ≡ after o (text ++ 10 ∷ []) → r ≡ text ∷ r'
    → after o (line_by_line r) ≡ z → after o' (line_by_line r') ≡ z
text_step after both o o' z text r r' e f h =
    stepped after both o o' z (text ++ 10 ∷ []) (line_by_line r) (line_by_line r') e (ap line_by_line f) h

or_true : (b : Bool) → (b || true) ≡ true
or_true true = refl
or_true false = refl

pub or_false : (b : Bool) → (b || false) ≡ b
or_false true = refl
or_false false = refl

pub found_step : (some whole : Bool) (text : List ℕ) (r r' : List (List ℕ)) → r ≡ text ∷ r'
    → (some || is_some_text r) ≡ whole → true ≡ whole
found_step some whole text r r' f h = sym (or_true some) ∙ ap (λ ts. some || is_some_text ts) (sym f) ∙ h
